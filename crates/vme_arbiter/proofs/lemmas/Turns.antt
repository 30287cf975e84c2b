-- Masters that follow the replies are never denied.
use Rattle.std.proofs.Common.{◌≡◌, ◌≢◌, ℕ, ◌<◌, Bool, true, false, ◌||◌, List, [], ◌∷◌, Option, Some, None, ap, subst, sym, ◌∙◌, refl, cond, eqb, inl, inr, ◌⊎◌}
use Rattle.std.specs.Prelude.{IsTrue, All}
use Rattle.std.specs.Option.{option_map_or}
use Rattle.std.proofs.lemmas.Bool.{cases_Bool, cases_eq, and_parts, and_from, eqb-true, eqb-false, eq-eqb, ne_eqb, or_left, not_from_false, false≢true}
use Rattle.std.proofs.lemmas.List.Elements.{All-nil, All-cons, All-head, All-tail}
use Rattle.vme_object.specs.declared.history.Entry.{Entry}
use Rattle.vme_object.specs.History.{IsLegal, own}
use Rattle.vme_arbiter.specs.declared.command.ArbCmd.{ArbCmd}
use Rattle.vme_arbiter.specs.declared.command.ArbCmd.TheVariants.{Ask, Look, Done}
use Rattle.vme_arbiter.specs.declared.command.ArbReply.{ArbReply}
use Rattle.vme_arbiter.specs.declared.command.ArbReply.TheVariants.{Granted, Waiting, Freed, Denied}
use Rattle.vme_arbiter.specs.declared.kind.ArbiterKind.{ArbiterKind}
use Rattle.vme_arbiter.specs.Levels.{level_order}
use Rattle.vme_arbiter.specs.Requests.{BusRequest, bus_request, is_slot, with_request, is_level}
use Rattle.vme_arbiter.specs.Arbitration.{Arbitration, opening_bus, holds, pends, can_ask, ask_step, lawful_ask, bus_after_release, next_granted, arbiter_step}
use Rattle.vme_arbiter.specs.Orderly.{IsLawfulHolder, IsOrderly}
use Rattle.vme_arbiter.specs.Masters.{slot_of, may_give, IsAsReplied, MatchesReply, SlotFollowsReplies, FollowReplies}
use Rattle.vme_arbiter.proofs.Pending.{has_slot, has_slot-with, has_slot-without_other, granted-has_slot}
use Rattle.vme_arbiter.proofs.lemmas.Orderly.{orderly-step, orderly-opening}

-- whether a slot is this holder
abbrev is_held_by : Option ℕ → ℕ → Bool
is_held_by holder slot = option_map_or (λ h. eqb h slot) holder false

-- a slot that the test finds to be the holder is the holder
held_by-some : (holder : Option ℕ) (slot : ℕ) → is_held_by holder slot ≡ true → holder ≡ Some slot
held_by-some None slot held = cc
held_by-some (Some h) slot held = ap (λ (s : ℕ). Some s) (eqb-true h slot held)

-- a slot that holds the bus is the holder
pub holds-holder : (bus : Arbitration) (slot : ℕ) → holds bus slot ≡ true → bus.holder ≡ Some slot
holds-holder bus slot held = held_by-some bus.holder slot held

-- a command that the master of a slot may give has that slot
may_give-slot : (slot : ℕ) (last : Option ArbReply) (cmd : ArbCmd) → may_give slot last cmd ≡ true → slot_of cmd ≡ slot
may_give-slot slot None (Ask s level) may = eqb-true s slot (and_parts _ _ may).0
may_give-slot slot (Some Freed) (Ask s level) may = eqb-true s slot (and_parts _ _ may).0
may_give-slot slot (Some Waiting) (Look s) may = eqb-true s slot may
may_give-slot slot (Some Granted) (Done s) may = eqb-true s slot may
may_give-slot slot last cmd may = cc

-- after a valid request, the slot holds or waits as the reply states
taken-fits : (holder : Option ℕ) (bus : Arbitration) (slot level : ℕ)
    → MatchesReply (lawful_ask holder bus (bus_request level slot)).0 slot (Some (lawful_ask holder bus (bus_request level slot)).1)
taken-fits None bus slot level = eq-eqb slot slot refl
taken-fits (Some h) bus slot level =
    inr (has_slot-with slot (bus_request level slot) bus.pending ∙ or_left _ _ (eq-eqb slot slot refl))

-- after a request by a slot that neither holds nor waits, the slot holds or waits as the reply states
ask-fits : (bus : Arbitration) (slot level : ℕ) → is_slot slot ≡ true → is_level level ≡ true → holds bus slot ≡ false
    → pends bus slot ≡ false → MatchesReply (ask_step bus slot level).0 slot (Some (ask_step bus slot level).1)
ask-fits bus slot level slot_ok level_ok not_holds not_pends =
    let can : can_ask bus slot level ≡ true =
    and_from _ _ (and_from _ _ (and_from _ _ slot_ok level_ok) (not_from_false _ not_holds)) (not_from_false _ not_pends) in
    rw can (taken-fits bus.holder bus slot level)

-- a slot that does not wait neither holds nor waits after it releases the bus
handed-nowhere : (bus : Arbitration) (slot : ℕ) (next : Option BusRequest) → next_granted bus ≡ next → has_slot slot bus.pending ≡ false
    → MatchesReply (bus_after_release next bus) slot (Some Freed)
handed-nowhere bus slot None is_next none = (refl, none)
handed-nowhere bus slot (Some next) is_next none =
    let other : next.slot ≢ slot =
    λ same. false≢true (sym none ∙ ap (λ s. has_slot s bus.pending) (sym same) ∙ granted-has_slot (level_order bus.first) bus.pending next is_next) in
    (ne_eqb next.slot slot other, has_slot-without_other slot next.slot bus.pending (λ same. other (sym same)) ∙ none)

-- a slot that is granted the bus while it waits matches its last reply
promoted : (pending : Bool) (last : Option ArbReply) → pending ≡ true → IsAsReplied false pending last → (left : Bool) → IsAsReplied true left last
promoted pending None one fits left = absurd (false≢true (sym fits.1 ∙ one))
promoted pending (Some Freed) one fits left = absurd (false≢true (sym fits.1 ∙ one))
promoted pending (Some Waiting) one fits left = inl refl
promoted pending (Some Granted) one fits left = refl
promoted pending (Some Denied) one fits left = fits

-- a slot other than the holder matches its last reply after a release
handed-other : (bus : Arbitration) (slot : ℕ) (last : Option ArbReply) (next : Option BusRequest) → next_granted bus ≡ next
    → IsAsReplied false (has_slot slot bus.pending) last → MatchesReply (bus_after_release next bus) slot last
handed-other bus slot last None is_next fits = fits
handed-other bus slot last (Some next) is_next fits =
    elim (cases_eq next.slot slot) [
      | inl same ↦
          let one : has_slot slot bus.pending ≡ true =
          ap (λ s. has_slot s bus.pending) (sym same) ∙ granted-has_slot (level_order bus.first) bus.pending next is_next in
          let held : eqb next.slot slot ≡ true = eq-eqb next.slot slot same in
          rw held (promoted (has_slot slot bus.pending) last one fits _)
      | inr other ↦
          let not_held : eqb next.slot slot ≡ false = ne_eqb next.slot slot other in
          let stays = has_slot-without_other slot next.slot bus.pending (λ same. other (sym same)) in
          rw (not_held, stays) fits
    ]

-- a slot matches its last reply after a request of another slot
taken-other : (holder : Option ℕ) (bus : Arbitration) (asks level slot : ℕ) (last : Option ArbReply) → bus.holder ≡ holder → asks ≢ slot
    → MatchesReply bus slot last → MatchesReply (lawful_ask holder bus (bus_request level asks)).0 slot last
taken-other None bus asks level slot last is other fits =
    let not_held : eqb asks slot ≡ false = ne_eqb asks slot other in
    rw not_held (rw is at fits)
taken-other (Some h) bus asks level slot last is other fits =
    let not_slot : eqb asks slot ≡ false = ne_eqb asks slot other in
    let stays : has_slot slot (with_request (bus_request level asks) bus.pending) ≡ has_slot slot bus.pending =
    has_slot-with slot (bus_request level asks) bus.pending ∙ ap (λ b. b || has_slot slot bus.pending) not_slot in
    rw stays fits

-- of two slots at most one holds the bus
other-not_held : (holder : Option ℕ) (a b : ℕ) → is_held_by holder a ≡ true → a ≢ b → is_held_by holder b ≡ false
other-not_held None a b held other = refl
other-not_held (Some h) a b held other = ne_eqb h b (λ same. other (sym (eqb-true h a held) ∙ same))

-- the holder does not wait
holder-not_pends : (holder : Option ℕ) (bus : Arbitration) (slot : ℕ) → bus.holder ≡ holder → IsLawfulHolder bus
    → is_held_by holder slot ≡ true → has_slot slot bus.pending ≡ false
holder-not_pends None bus slot is lawful held = cc
holder-not_pends (Some h) bus slot is lawful held =
    ap (λ s. has_slot s bus.pending) (sym (eqb-true h slot held)) ∙ (rw is at lawful).1

-- a check by a slot that holds or waits has the reply that matches
look-fits : (bus : Arbitration) (slot : ℕ) → (holds bus slot ≡ true) ⊎ (pends bus slot ≡ true)
    → MatchesReply (arbiter_step bus (Look slot)).0 slot (Some (arbiter_step bus (Look slot)).1)
look-fits bus slot fits =
    elim (cases_Bool (holds bus slot)) [
      | inl held ↦ rw held refl
      | inr not_held ↦
          elim fits [
            | inl held ↦ absurd (false≢true (sym not_held ∙ held))
            | inr one ↦ rw (not_held, one) (inr refl)
          ]
    ]

-- a slot that releases the bus neither holds nor waits afterwards
done-fits : (bus : Arbitration) (slot : ℕ) → IsOrderly bus → holds bus slot ≡ true
    → MatchesReply (arbiter_step bus (Done slot)).0 slot (Some (arbiter_step bus (Done slot)).1)
done-fits bus slot orderly held =
    rw held (handed-nowhere bus slot (next_granted bus) refl (holder-not_pends bus.holder bus slot refl orderly.holder held))

-- a command that a slot may give leaves it as the reply states
pub own-reply : (bus : Arbitration) (slot : ℕ) (last : Option ArbReply) (cmd : ArbCmd) → IsOrderly bus → is_slot slot ≡ true
    → MatchesReply bus slot last → may_give slot last cmd ≡ true → MatchesReply (arbiter_step bus cmd).0 slot (Some (arbiter_step bus cmd).1)
own-reply bus slot None (Ask s level) orderly slot_ok fits may =
    let parts = and_parts _ _ may in
    rw (eqb-true s slot parts.0) (ask-fits bus slot level slot_ok parts.1 fits.0 fits.1)
own-reply bus slot (Some Freed) (Ask s level) orderly slot_ok fits may =
    let parts = and_parts _ _ may in
    rw (eqb-true s slot parts.0) (ask-fits bus slot level slot_ok parts.1 fits.0 fits.1)
own-reply bus slot (Some Waiting) (Look s) orderly slot_ok fits may = rw (eqb-true s slot may) (look-fits bus slot fits)
own-reply bus slot (Some Granted) (Done s) orderly slot_ok fits may = rw (eqb-true s slot may) (done-fits bus slot orderly fits)
own-reply bus slot last cmd orderly slot_ok fits may = cc

-- a command of another slot leaves a slot as its last reply states
pub other-reply : (bus : Arbitration) (slot : ℕ) (last : Option ArbReply) (cmd : ArbCmd) → slot_of cmd ≢ slot → MatchesReply bus slot last
    → MatchesReply (arbiter_step bus cmd).0 slot last
other-reply bus slot last (Ask asks level) other fits =
    elim (cases_Bool (can_ask bus asks level)) [
      | inl can ↦ rw can (taken-other bus.holder bus asks level slot last refl other fits)
      | inr cannot ↦ rw cannot fits
    ]
other-reply bus slot last (Look looks) other fits = fits
other-reply bus slot last (Done done) other fits =
    elim (cases_Bool (holds bus done)) [
      | inl held ↦
          let not_held : holds bus slot ≡ false = other-not_held bus.holder done slot held other in
          rw held (handed-other bus slot last (next_granted bus) refl (rw not_held at fits))
      | inr not_held ↦ rw not_held fits
    ]

-- the last reply to each caller, after an entry
pub last_reply_after : (ℕ → Option ArbReply) → Entry ArbCmd ArbReply → ℕ → Option ArbReply
last_reply_after last e who = cond (eqb e.who who) (Some e.reply) (last who)

-- the callers 0 to k - 1 are masters, each with a slot of its own
pub record AreMasters (k : ℕ) (slots : ℕ → ℕ) : Type 0 where
  pub in_range : (who : ℕ) → who < k → IsTrue (is_slot (slots who))
  pub apart : (v w : ℕ) → v < k → w < k → slots v ≡ slots w → v ≡ w

-- after a command of one master, each master's slot holds or waits as its last reply states
pub all_stand : (k : ℕ) (slots : ℕ → ℕ) (bus : Arbitration) (last : ℕ → Option ArbReply) (e : Entry ArbCmd ArbReply) → AreMasters k slots
    → e.who < k → slot_of e.cmd ≡ slots e.who → MatchesReply (arbiter_step bus e.cmd).0 (slots e.who) (Some e.reply)
    → ((who : ℕ) → who < k → MatchesReply bus (slots who) (last who))
    → (who : ℕ) → who < k → MatchesReply (arbiter_step bus e.cmd).0 (slots who) (last_reply_after last e who)
unfolding last_reply_after
all_stand k slots bus last e masters within names stands each who below =
    elim (cases_Bool (eqb e.who who)) [
      | inl same ↦
          let at : e.who ≡ who = eqb-true e.who who same in
          rw same (subst (λ (w : ℕ). MatchesReply (arbiter_step bus e.cmd).0 (slots w) (Some e.reply)) at stands)
      | inr other ↦
          rw other (other-reply bus (slots who) (last who) e.cmd
          (λ one. eqb-false e.who who other (masters.apart e.who who within below (sym names ∙ one))) (each who below))
    ]

-- each master matches its last reply and follows the replies from there
record AreFit (k : ℕ) (slots : ℕ → ℕ) (bus : Arbitration) (last : ℕ → Option ArbReply) (h : List (Entry ArbCmd ArbReply)) : Type 0 where
  fits : (who : ℕ) → who < k → MatchesReply bus (slots who) (last who)
  goes : (who : ℕ) → who < k → SlotFollowsReplies (slots who) (last who) (own who h)

-- a master that follows the replies may give the command of its next entry, and follows the replies after that entry
goes_own : (slot : ℕ) (last : Option ArbReply) (e : Entry ArbCmd ArbReply) (h : List (Entry ArbCmd ArbReply))
    → SlotFollowsReplies slot last (own e.who (e ∷ h))
    → (may_give slot last e.cmd ≡ true) × SlotFollowsReplies slot (Some e.reply) (own e.who h)
goes_own slot last e h goes = let same : eqb e.who e.who ≡ true = eq-eqb e.who e.who refl in rw same at goes

-- each master matches its last reply after the next legal entry
fit_after : (k : ℕ) (slots : ℕ → ℕ) (bus : Arbitration) (last : ℕ → Option ArbReply) (e : Entry ArbCmd ArbReply)
    (h : List (Entry ArbCmd ArbReply)) → AreMasters k slots → IsOrderly bus → e.who < k → e.reply ≡ (arbiter_step bus e.cmd).1
    → AreFit k slots bus last (e ∷ h)
    → MatchesReply (arbiter_step bus e.cmd).0 (slots e.who) (Some e.reply) × AreFit k slots (arbiter_step bus e.cmd).0 (last_reply_after last e) h
unfolding last_reply_after
fit_after k slots bus last e h masters orderly within reply fit =
    let goes = goes_own (slots e.who) (last e.who) e h (fit.goes e.who within) in
    let names = may_give-slot (slots e.who) (last e.who) e.cmd goes.0 in
    let own_fits : MatchesReply (arbiter_step bus e.cmd).0 (slots e.who) (Some e.reply) =
    rw reply (own-reply bus (slots e.who) (last e.who) e.cmd orderly (masters.in_range e.who within) (fit.fits e.who within) goes.0) in (
      own_fits,
      record {
        fits = all_stand k slots bus last e masters within names own_fits fit.fits;
        goes = λ who below. elim (cases_Bool (eqb e.who who)) [
          | inl same ↦
              let at : e.who ≡ who = eqb-true e.who who same in
              rw same (subst (λ (w : ℕ). SlotFollowsReplies (slots w) (Some e.reply) (own w h)) at goes.1)
          | inr other ↦ rw other (rw other at (fit.goes who below))
        ];
      },
    )

-- no reply of a legal history is Denied if the masters follow the replies
none_denied : (k : ℕ) (slots : ℕ → ℕ) (bus : Arbitration) (last : ℕ → Option ArbReply) (h : List (Entry ArbCmd ArbReply))
    → AreMasters k slots → IsOrderly bus → All (λ e. e.who < k) h → IsLegal arbiter_step bus h → AreFit k slots bus last h
    → All (λ e. e.reply ≢ Denied) h
none_denied k slots bus last [] masters orderly known legal fit = All-nil (λ e. e.reply ≢ Denied)
none_denied k slots bus last (e ∷ h) masters orderly known legal fit =
    let within = All-head (λ e. e.who < k) e h known in
    let after = fit_after k slots bus last e h masters orderly within legal.0 fit in
    All-cons (λ e. e.reply ≢ Denied) e h
    (λ denied. subst (λ (r : ArbReply). MatchesReply (arbiter_step bus e.cmd).0 (slots e.who) (Some r)) denied after.0)
    (none_denied k slots (arbiter_step bus e.cmd).0 (last_reply_after last e) h masters (orderly-step bus e.cmd orderly)
    (All-tail (λ e. e.who < k) e h known) legal.1 after.1)

-- no reply of a legal history from the start is Denied if the masters follow the replies
pub no_denial_from_opening : (kind : ArbiterKind) (k : ℕ) (slots : ℕ → ℕ) (h : List (Entry ArbCmd ArbReply))
    → IsLegal arbiter_step (opening_bus kind) h → FollowReplies k slots h → All (λ e. e.reply ≢ Denied) h
no_denial_from_opening kind k slots h legal turns =
    none_denied k slots (opening_bus kind) (λ who. None) h
    (record { in_range = turns.in_range; apart = turns.apart }) (orderly-opening kind) turns.known legal
    (record { fits = λ who below. (refl, refl); goes = turns.each })
