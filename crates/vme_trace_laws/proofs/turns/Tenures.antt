-- At most one processor holds the bus, and the open transfer is its own.
use Rattle.std.proofs.Common.{◌≡◌, ℕ, ◌<◌, ◌==◌, Bool, true, false, not, if◌then◌else◌, length, Option, Some, None, is_some, refl, ap, sym, subst, ◌∙◌, inl, inr}
use Rattle.std.specs.Option.{option_map_or}
use Rattle.std.proofs.lemmas.Bool.{false≢true, eq-eqb, false_from_ne_true}
use Rattle.std.proofs.lemmas.Bool.Decides.{eqb_tells}
use Rattle.std.proofs.lemmas.Option.{same_Some}
use Rattle.vme_arbiter.specs.Arbitration.{Arbitration}
use Rattle.vme_core.specs.declared.event.EventReply.{EventReply}
use Rattle.vme_master.specs.Machine.{TaskView}
use Rattle.vme_script.specs.Configurations.{Configuration}
use Rattle.vme_script.specs.Lawful.{IsLawful}
use Rattle.vme_line_task.specs.Scripts.{slot_at}
use Rattle.vme_trace.specs.declared.observation.activity.Activity.{Activity}
use Rattle.vme_trace.specs.declared.observation.Observation.{Observation}
use Rattle.vme_trace.specs.declared.dump.handshake.Handshake.{Handshake}
use Rattle.vme_trace.specs.Handshakes.{first_handshake}
use Rattle.vme_trace.specs.Slots.{has_ended}
use Rattle.vme_trace_laws.specs.Transfers.{open_after}
use Rattle.vme_trace_laws.proofs.turns.Places.{same_board}
use Rattle.vme_trace_laws.proofs.turns.Views.{holding, amid, amid_holds, IsLike}
use Rattle.vme_trace_laws.proofs.turns.Arbiter.{named_is}
use Rattle.vme_trace_laws.proofs.turns.Moves.{IsShownSo, IsMove}

-- whether a board's processor has the open transfer
abbrev pub has_open : Option ℕ → ℕ → Bool
has_open going board = option_map_or (λ i. i == board) going false

-- the open transfer after an event of a board's processor
abbrev opened : Option Handshake → Bool → ℕ → Option ℕ → Option ℕ
opened first ended board before = if is_some first then (if ended then None else Some board) else before

-- the first event of a transfer begins when none is open, and its other events belong to the open one
abbrev pub IsOpening : Option ℕ → Observation → Type 0
IsOpening going o = (t : Handshake) → first_handshake o.activity o.reply ≡ Some t → going ≡ (if t.opens then None else Some o.board)

module _ (config : Configuration) (lawful : IsLawful config) where
  -- the slot of a processor that holds the bus is the arbiter's holder, and the processor amid a transfer has the open one
  pub record IsTenure (bus : Arbitration) (views : ℕ → Option TaskView) (going : Option ℕ) : Type 0 where
    pub held : (j : ℕ) → holding (views j) ≡ true → (j < length config.boards) × (bus.holder ≡ Some (slot_at config j))
    pub amid_open : (j : ℕ) → amid (views j) ≡ has_open going j

  module _ (bus : Arbitration) (views : ℕ → Option TaskView) (going : Option ℕ) (tenure : IsTenure bus views going) where
    -- at most one processor holds the bus
    pub alone : (i j : ℕ) → holding (views i) ≡ true → holding (views j) ≡ true → i ≡ j
    alone i j first second =
        let a = tenure.held i first in
        let b = tenure.held j second in
        same_board config lawful i j a.0 b.0 (same_Some _ _ (sym a.1 ∙ b.1))

    -- another processor than the one that holds the bus is not amid a transfer
    others_idle : (i j : ℕ) → holding (views i) ≡ true → (i ≡ j → ⊥) → amid (views j) ≡ false
    others_idle i j held apart = false_from_ne_true (amid (views j)) (λ is. apart (alone i j held (amid_holds (views j) is)))

    -- the processor of the open transfer is amid it
    going_amid : (b : ℕ) → going ≡ Some b → amid (views b) ≡ true
    going_amid b is = tenure.amid_open b ∙ ap (λ (o : Option ℕ). has_open o b) is ∙ eq-eqb b b refl

    -- and holds the bus
    pub going_holds : (b : ℕ) → going ≡ Some b → (b < length config.boards) × (bus.holder ≡ Some (slot_at config b))
    going_holds b is = tenure.held b (amid_holds (views b) (going_amid b is))

    -- an event without a handshake is of another processor
    pub going_apart : (o : Observation) (w : Option TaskView) (b : ℕ) (found : Option Handshake) → going ≡ Some b → found ≡ None
        → IsShownSo found (has_ended o) (views o.board) w → o.board ≡ b → ⊥
    going_apart o w b None is none shown same = false≢true (sym shown.0 ∙ ap (λ k. amid (views k)) same ∙ going_amid b is)
    going_apart o w b (Some t) is none shown same = absurd (cc none)

    -- an event with a handshake is of the processor that holds the bus
    pub own_holds : (o : Observation) (w : Option TaskView) (t : Handshake) (found : Option Handshake) → found ≡ Some t
        → IsShownSo found (has_ended o) (views o.board) w → (o.board < length config.boards) × (bus.holder ≡ Some (slot_at config o.board))
    own_holds o w t None is shown = absurd (cc is)
    own_holds o w t (Some u) is shown = tenure.held o.board shown.0

    -- if a processor holds the bus amid no transfer, none is open
    none_open : (i : ℕ) (found : Option ℕ) → going ≡ found → holding (views i) ≡ true → amid (views i) ≡ false → going ≡ None
    none_open i None is held idle = is
    none_open i (Some j) is held idle =
        let here : amid (views j) ≡ true = going_amid j is in
        let same : i ≡ j = alone i j held (amid_holds (views j) here) in
        absurd (false≢true (sym idle ∙ ap (λ k. amid (views k)) same ∙ here))

    -- the open transfer before a handshake of a processor that holds the bus
    opening_by : (i : ℕ) (within opens : Bool) → holding (views i) ≡ true → amid (views i) ≡ within → opens ≡ not within
        → going ≡ (if opens then None else Some i)
    opening_by i true opens held is at = rw at (named_is going i (sym (tenure.amid_open i) ∙ is))
    opening_by i false opens held is at = rw at (none_open i going refl held is)

    -- an event that shows a processor's transfer begins as it should
    pub opening_of : (o : Observation) (w : Option TaskView) (t : Handshake) (found : Option Handshake) → found ≡ Some t
        → IsShownSo found (has_ended o) (views o.board) w → going ≡ (if t.opens then None else Some o.board)
    opening_of o w t None is shown = absurd (cc is)
    opening_of o w t (Some u) is shown =
        let same : u ≡ t = same_Some _ _ is in
        subst (λ (h : Handshake). going ≡ (if h.opens then None else Some o.board)) same
        (opening_by o.board (amid (views o.board)) u.opens shown.0 refl shown.1)

    module _ (new : Arbitration) (next : ℕ → Option TaskView) (i : ℕ) (activity : Activity) (reply : EventReply) (there : i < length config.boards)
        (stay : (j : ℕ) → (i ≡ j → ⊥) → next j ≡ views j) (move : IsMove (slot_at config i) (views i) (next i) bus new activity reply) where
      -- another processor that holds the bus after a call held it before
      other_held : (j : ℕ) → (i ≡ j → ⊥) → holding (views j) ≡ true → (j < length config.boards) × (new.holder ≡ Some (slot_at config j))
      other_held j apart now =
          let was = tenure.held j now in
          elim (move.others (slot_at config j) was.1) [
            | inl kept ↦ (was.0, kept)
            | inr mine ↦ absurd (apart (alone i j mine now))
          ]

      -- a processor that holds the bus after a call
      next_held : (j : ℕ) → holding (next j) ≡ true → (j < length config.boards) × (new.holder ≡ Some (slot_at config j))
      next_held j now =
          elim (eqb_tells i j) [
            | inl same ↦
                subst (λ (k : ℕ). (k < length config.boards) × (new.holder ≡ Some (slot_at config k))) same.1
                (there, move.own (λ was. (tenure.held i was).1) (subst (λ (k : ℕ). holding (next k) ≡ true) (sym same.1) now))
            | inr other ↦ other_held j other.1 (ap holding (sym (stay j other.1)) ∙ now)
          ]

      -- whether the processor of the call has the open transfer after it
      own_open : (ended : Bool) → amid (next i) ≡ not ended → amid (next i) ≡ has_open (if ended then None else Some i) i
      own_open true is = is
      own_open false is = is ∙ sym (eq-eqb i i refl)

      -- another processor does not have it
      other_open : (j : ℕ) (ended : Bool) → (i == j) ≡ false → has_open (if ended then None else Some i) j ≡ false
      other_open j true apart = refl
      other_open j false apart = apart

      -- the processor amid a transfer after a call has it open
      amid_next : (j : ℕ) (found : Option Handshake) (ended : Bool) → IsShownSo found ended (views i) (next i) → amid (next j) ≡ has_open (opened found ended i going) j
      amid_next j None ended shown =
          elim (eqb_tells i j) [
            | inl same ↦
                subst (λ (k : ℕ). amid (next k) ≡ has_open going k) same.1 (shown.1 ∙ sym shown.0 ∙ tenure.amid_open i)
            | inr other ↦ ap amid (stay j other.1) ∙ tenure.amid_open j
          ]
      amid_next j (Some t) ended shown =
          elim (eqb_tells i j) [
            | inl same ↦ subst (λ (k : ℕ). amid (next k) ≡ has_open (if ended then None else Some i) k) same.1 (own_open ended shown.2)
            | inr other ↦
                ap amid (stay j other.1) ∙ others_idle i j shown.0 other.1 ∙ sym (other_open j ended other.0)
          ]

  -- after an event of a processor
  pub tenure_next : (bus new : Arbitration) (views next : ℕ → Option TaskView) (going : Option ℕ) (o : Observation) → IsTenure bus views going
      → o.board < length config.boards → ((j : ℕ) → (o.board ≡ j → ⊥) → next j ≡ views j)
      → IsMove (slot_at config o.board) (views o.board) (next o.board) bus new o.activity o.reply → IsTenure new next (open_after going o)
  tenure_next bus new views next going o tenure there stay move = record {
    held = λ j now. next_held bus views going tenure new next o.board o.activity o.reply there stay move j now;
    amid_open = λ j. amid_next bus views going tenure new next o.board o.activity o.reply there stay move j (first_handshake o.activity o.reply) (has_ended o)
        move.shown;
  }

  -- if nothing moves
  pub tenure_same : (bus new : Arbitration) (views next : ℕ → Option TaskView) (going : Option ℕ) → IsTenure bus views going
      → new.holder ≡ bus.holder → ((j : ℕ) → IsLike (next j) (views j)) → IsTenure new next going
  tenure_same bus new views next going tenure same like = record {
    held = λ j now. (let was = tenure.held j (sym (like j).held ∙ now) in (was.0, same ∙ was.1));
    amid_open = λ j. (like j).between ∙ tenure.amid_open j;
  }
