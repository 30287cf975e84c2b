-- The holder of the bus, by the replies.
use Rattle.std.proofs.Common.{◌≡◌, ◌≢◌, ℕ, List, [], ◌∷◌, ◌++◌, Some, ap, subst, sym, ◌∙◌, rules}
use Rattle.std.specs.Prelude.{All}
use Rattle.std.proofs.lemmas.Option.{same_Some}
use Rattle.std.proofs.lemmas.List.Elements.{All-head, All-tail}
use Rattle.vme_object.specs.declared.history.Entry.{Entry}
use Rattle.vme_object.specs.History.{replay, IsLegal}
use Rattle.vme_object.proofs.lemmas.Histories.{replay-append, legal-begins, legal-rest}
use Rattle.vme_arbiter.specs.declared.command.ArbCmd.{ArbCmd}
use Rattle.vme_arbiter.specs.declared.command.ArbReply.{ArbReply}
use Rattle.vme_arbiter.specs.declared.command.ArbReply.TheVariants.{Granted, Freed}
use Rattle.vme_arbiter.specs.Arbitration.{Arbitration, arbiter_step}
use Rattle.vme_arbiter.specs.Masters.{slot_of, Frees, HasTheBus}

-- the reply Granted is for the holder
pub replied-granted : (bus : Arbitration) (cmd : ArbCmd) → (arbiter_step bus cmd).1 ≡ Granted → (arbiter_step bus cmd).0.holder ≡ Some (slot_of cmd)
replied-granted bus cmd replied = search rules

-- the reply Freed is for the slot that held the bus
pub replied-freed : (bus : Arbitration) (cmd : ArbCmd) → (arbiter_step bus cmd).1 ≡ Freed → bus.holder ≡ Some (slot_of cmd)
replied-freed bus cmd replied = search rules

-- after any other reply than Freed, the holder stays
pub holder-stays : (bus : Arbitration) (cmd : ArbCmd) (slot : ℕ) → bus.holder ≡ Some slot → (arbiter_step bus cmd).1 ≢ Freed
    → (arbiter_step bus cmd).0.holder ≡ Some slot
holder-stays bus cmd slot held not_freed = search rules

-- a holder holds the bus until it has the reply Freed
holder-kept : (bus : Arbitration) (slot : ℕ) (between : List (Entry ArbCmd ArbReply)) → bus.holder ≡ Some slot
    → IsLegal arbiter_step bus between → All (λ e. Frees slot e → ⊥) between → (replay arbiter_step bus between).holder ≡ Some slot
holder-kept bus slot [] held legal keeps = held
holder-kept bus slot (e ∷ between) held legal keeps =
    let kept : (arbiter_step bus e.cmd).1 ≢ Freed =
    λ freed. All-head (λ e. Frees slot e → ⊥) e between keeps
    (same_Some _ _ (sym (replied-freed bus e.cmd freed) ∙ held), legal.0 ∙ freed) in
    holder-kept (arbiter_step bus e.cmd).0 slot between (holder-stays bus e.cmd slot held kept) legal.1
    (All-tail (λ e. Frees slot e → ⊥) e between keeps)

-- the slot that has the bus by the replies is the holder
pub has_bus-holder : (bus : Arbitration) (h : List (Entry ArbCmd ArbReply)) (slot : ℕ) → IsLegal arbiter_step bus h → HasTheBus slot h
    → (replay arbiter_step bus h).holder ≡ Some slot
has_bus-holder bus h slot legal has =
    let then = replay arbiter_step bus has.before in
    let from =
    legal-rest arbiter_step bus has.before (has.replied ∷ has.since)
    (subst (λ (g : List (Entry ArbCmd ArbReply)). IsLegal arbiter_step bus g) has.whole legal) in
    let held = replied-granted then has.replied.cmd (sym from.0 ∙ has.granted) ∙ ap (λ (s : ℕ). Some s) has.names in
    ap (λ (g : List (Entry ArbCmd ArbReply)). (replay arbiter_step bus g).holder) has.whole
    ∙ ap (λ (b : Arbitration). b.holder) (replay-append arbiter_step bus has.before (has.replied ∷ has.since))
    ∙ holder-kept (arbiter_step then has.replied.cmd).0 slot has.since held from.1 has.kept

-- at most one slot has the bus by the replies
pub has_bus-alone : (bus : Arbitration) (h : List (Entry ArbCmd ArbReply)) (a b : ℕ) → IsLegal arbiter_step bus h → HasTheBus a h
    → HasTheBus b h → a ≡ b
has_bus-alone bus h a b legal has_a has_b =
    same_Some a b (sym (has_bus-holder bus h a legal has_a) ∙ has_bus-holder bus h b legal has_b)

-- while a slot has the bus, no other slot has the reply Granted
pub has_bus-granted : (bus : Arbitration) (h : List (Entry ArbCmd ArbReply)) (next : Entry ArbCmd ArbReply) (slot : ℕ)
    → IsLegal arbiter_step bus (h ++ next ∷ []) → HasTheBus slot h → next.reply ≡ Granted → slot_of next.cmd ≡ slot
has_bus-granted bus h next slot legal has granted =
    let last = replay arbiter_step bus h in
    let held = has_bus-holder bus h slot (legal-begins arbiter_step bus h (next ∷ []) legal) has in
    let replied = sym (legal-rest arbiter_step bus h (next ∷ []) legal).0 ∙ granted in
    let stays = holder-stays last next.cmd slot held (λ freed. let both = sym replied ∙ freed in cc) in
    same_Some _ _ (sym (replied-granted last next.cmd replied) ∙ stays)

-- while a slot has the bus, no other slot has the reply Freed
pub has_bus-freed : (bus : Arbitration) (h : List (Entry ArbCmd ArbReply)) (next : Entry ArbCmd ArbReply) (slot : ℕ)
    → IsLegal arbiter_step bus (h ++ next ∷ []) → HasTheBus slot h → next.reply ≡ Freed → slot_of next.cmd ≡ slot
has_bus-freed bus h next slot legal has freed =
    let held = has_bus-holder bus h slot (legal-begins arbiter_step bus h (next ∷ []) legal) has in
    let replied = sym (legal-rest arbiter_step bus h (next ∷ []) legal).0 ∙ freed in
    same_Some _ _ (sym (replied-freed (replay arbiter_step bus h) next.cmd replied) ∙ held)
