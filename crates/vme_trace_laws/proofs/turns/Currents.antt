-- The open transfer after an event: its data come in order.
use Rattle.std.proofs.Common.{◌≡◌, ℕ, ◌+◌, ◌==◌, Bool, true, false, if◌then◌else◌, Option, Some, None, refl, ap, sym, ◌∙◌, inl, inr}
use Rattle.std.proofs.lemmas.Bool.{cases_Bool, eq-eqb, eqb-true}
use Rattle.std.proofs.lemmas.Option.{same_Some}
use Rattle.vme_cycle.specs.Lawful.{Transfer}
use Rattle.vme_arbiter.specs.Arbitration.{Arbitration}
use Rattle.vme_core.specs.Calls.{Call}
use Rattle.vme_master.specs.Machine.{TaskView}
use Rattle.vme_script.specs.Configurations.{Configuration}
use Rattle.vme_script.specs.Lawful.{IsLawful}
use Rattle.vme_trace.specs.declared.observation.activity.Activity.{Activity}
use Rattle.vme_trace.specs.declared.observation.activity.Activity.TheVariants.{Requests, Polls, Releases, Transfers, Local, Other}
use Rattle.vme_trace_laws.specs.Transfers.{OpenTransfer, open_at}
use Rattle.vme_trace_laws.specs.Commands.{IsTransferShown, GoesOn}
use Rattle.vme_trace_laws.proofs.turns.ShownData.{IsAtDatum}
use Rattle.vme_trace_laws.proofs.turns.Tenures.{IsTenure, alone}
use Rattle.vme_trace_laws.proofs.turns.Views.{holding, current, current_none}

-- the place of a processor in the open transfer, if it is that processor's
abbrev pub current_in : Option OpenTransfer → ℕ → Option (Transfer × ℕ)
current_in None j = None
current_in (Some t) j = if t.board == j then Some (t.transfer, t.moved) else None

-- a place with a datum is not none
some_none : (t : Transfer) (n : ℕ) → ◌≡◌ {A = Option (Transfer × ℕ)} (Some (t, n)) None → ⊥
some_none t n same = cc same

-- a processor with a place in the open transfer has it open
named_open : (open_one : Option OpenTransfer) (j : ℕ) (t : Transfer) (n : ℕ) → current_in open_one j ≡ Some (t, n) → open_one ≡ Some (open_at j t n)
named_open None j t n is = absurd (some_none t n (sym is))
named_open (Some x) j t n is =
    elim (cases_Bool (x.board == j)) [
      | inl own ↦
          let pair = same_Some (x.transfer, x.moved) (t, n) (rw own at is) in
          let board : x.board ≡ j = eqb-true x.board j own in
          let transfer : x.transfer ≡ t = ap (λ (p : Transfer × ℕ). p.0) pair in
          let moved : x.moved ≡ n = ap (λ (p : Transfer × ℕ). p.1) pair in
          λ k. Some (open_at (board k) (transfer k) (moved k))
      | inr other ↦ absurd (some_none t n (sym (rw other at is)))
    ]

-- a processor between two data holds the bus
current_holds : (v : Option TaskView) (t : Transfer) (n : ℕ) → current v ≡ Some (t, n) → holding v ≡ true
current_holds v t n is =
    elim (cases_Bool (holding v)) [
      | inl held ↦ held
      | inr free ↦ absurd (some_none t n (sym is ∙ current_none v free))
    ]

-- the open transfer after an event
abbrev pub open_next : (config : Configuration) → Option OpenTransfer → ℕ → Bool → (activity : Activity) → (call : Call)
    → IsTransferShown config activity call → Option OpenTransfer
open_next config before board ended (Transfers datum) call shown = if ended then None else Some (open_at board shown.transfer (shown.number + 1))
open_next config before board ended activity call shown = before

module _ (config : Configuration) (lawful : IsLawful config) (bus : Arbitration) (views : ℕ → Option TaskView) (going : Option ℕ)
    (tenure : IsTenure config lawful bus views going) (before : Option OpenTransfer) (placed : (j : ℕ) → current (views j) ≡ current_in before j) where
  -- no transfer is open if a processor that holds the bus is between no data
  none_before : (i : ℕ) (found : Option OpenTransfer) → before ≡ found → holding (views i) ≡ true → current (views i) ≡ None → before ≡ None
  none_before i None is held none = is
  none_before i (Some x) is held none =
      let there : current (views x.board) ≡ Some (x.transfer, x.moved) =
      placed x.board ∙ ap (λ (found : Option OpenTransfer). current_in found x.board) is
      ∙ rw (eq-eqb x.board x.board refl) refl in
      let same : i ≡ x.board =
      alone config lawful bus views going tenure i x.board held (current_holds (views x.board) x.transfer x.moved there) in
      absurd (some_none x.transfer x.moved (sym there ∙ ap (λ k. current (views k)) (sym same) ∙ none))

  -- the open transfer before a datum
  before_datum : (i : ℕ) (first : Bool) (t : Transfer) (n : ℕ) → holding (views i) ≡ true → current (views i) ≡ (if first then None else Some (t, n))
      → before ≡ (if first then None else Some (open_at i t n))
  before_datum i true t n held at = none_before i before refl held at
  before_datum i false t n held at = named_open before i t n (sym (placed i) ∙ at)

  -- an event goes on with the open transfer
  pub goes_on : (i : ℕ) (ended : Bool) (activity : Activity) (call : Call) (shown : IsTransferShown config activity call) (w : Option TaskView)
      → IsAtDatum config activity call shown ended (views i) w
      → GoesOn config before i ended activity call shown (open_next config before i ended activity call shown)
  goes_on i ended (Transfers datum) call shown w at = (before_datum i datum.first shown.transfer shown.number at.0 at.1, refl)
  goes_on i ended Requests call shown w at = refl
  goes_on i ended Polls call shown w at = refl
  goes_on i ended (Releases signals) call shown w at = refl
  goes_on i ended (Local cmd) call shown w at = refl
  goes_on i ended Other call shown w at = refl

  -- the place of the event's processor after a datum
  own_after : (i : ℕ) (ended : Bool) (t : Transfer) (n : ℕ) (w : Option TaskView) → current w ≡ (if ended then None else Some (t, n))
      → current w ≡ current_in (if ended then None else Some (open_at i t n)) i
  own_after i true t n w at = at
  own_after i false t n w at = at ∙ sym (rw (eq-eqb i i refl) refl)

  -- another processor has no place in it
  other_none : (i j : ℕ) (ended : Bool) (t : Transfer) (n : ℕ) → (i == j) ≡ false → current_in (if ended then None else Some (open_at i t n)) j ≡ None
  other_none i j true t n apart = refl
  other_none i j false t n apart = rw apart refl

  -- the place of the event's processor after the event
  pub own_placed : (i : ℕ) (ended : Bool) (activity : Activity) (call : Call) (shown : IsTransferShown config activity call) (w : Option TaskView)
      → IsAtDatum config activity call shown ended (views i) w → current w ≡ current_in (open_next config before i ended activity call shown) i
  own_placed i ended (Transfers datum) call shown w at = own_after i ended shown.transfer (shown.number + 1) w at.2
  own_placed i ended Requests call shown w at = at.1 ∙ sym at.0 ∙ placed i
  own_placed i ended Polls call shown w at = at.1 ∙ sym at.0 ∙ placed i
  own_placed i ended (Releases signals) call shown w at = at.1 ∙ sym at.0 ∙ placed i
  own_placed i ended (Local cmd) call shown w at = at.1 ∙ sym at.0 ∙ placed i
  own_placed i ended Other call shown w at = at.1 ∙ sym at.0 ∙ placed i

  -- the place of another processor after the event
  pub other_placed : (i j : ℕ) (ended : Bool) (activity : Activity) (call : Call) (shown : IsTransferShown config activity call) (w : Option TaskView)
      → (i == j) ≡ false → IsAtDatum config activity call shown ended (views i) w
      → current (views j) ≡ current_in (open_next config before i ended activity call shown) j
  other_placed i j ended (Transfers datum) call shown w apart at =
      placed j
      ∙ ap (λ (found : Option OpenTransfer). current_in found j) (before_datum i datum.first shown.transfer shown.number at.0 at.1)
      ∙ other_none i j datum.first shown.transfer shown.number apart ∙ sym (other_none i j ended shown.transfer (shown.number + 1) apart)
  other_placed i j ended Requests call shown w apart at = placed j
  other_placed i j ended Polls call shown w apart at = placed j
  other_placed i j ended (Releases signals) call shown w apart at = placed j
  other_placed i j ended (Local cmd) call shown w apart at = placed j
  other_placed i j ended Other call shown w apart at = placed j
