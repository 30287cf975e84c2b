-- The slots of boards, and the board that a grant names.
use Rattle.std.proofs.Common.{◌≡◌, ℕ, ◌<◌, ◌==◌, List, [], ◌∷◌, length, map, get_or, Option, Some, None, refl, ap, sym, ◌∙◌, arith, inl, inr}
use Rattle.std.specs.Prelude.{slice_get, option_map, slice_index_or}
use Rattle.std.specs.List.{position}
use Rattle.std.specs.Option.{option_and_then}
use Rattle.std.proofs.lemmas.Bool.{ne_eqb, eq-eqb, eqb-true}
use Rattle.std.proofs.lemmas.Bool.Decides.{eqb_tells}
use Rattle.std.proofs.lemmas.Option.{same_Some, slice_get_cases, get_or_from_slice_get}
use Rattle.std.proofs.lemmas.List.Quantifiers.{position-Some}
use Rattle.vme_arbiter.specs.Arbitration.{Arbitration, holds}
use Rattle.vme_script.specs.declared.board.BoardConfig.{BoardConfig}
use Rattle.vme_script.specs.Configurations.{Configuration}
use Rattle.vme_script.specs.Lawful.{IsLawful}
use Rattle.vme_line_task.specs.Scripts.{slot_at}
use Rattle.vme_stepper.specs.Turns.{board_in_slot}
use Rattle.vme_stepper.proofs.lemmas.Places.{own_place}
use Rattle.vme_trace.specs.Grants.{grant, grant_to}
use Rattle.vme_trace.specs.Slots.{is_granted}
use Rattle.vme_trace_laws.proofs.turns.Elements.{get_map}

-- the slot of a board
abbrev slot_in : BoardConfig → ℕ
slot_in board = board.slot

-- the board in a slot is one whose slot it is
pub named_slot : (boards : List BoardConfig) (slot found : ℕ) → position (λ b. b.slot == slot) boards ≡ Some found
    → slice_index_or (map slot_in boards) found 0 ≡ slot
named_slot [] slot found is = absurd (cc is)
named_slot (first ∷ boards) slot found is =
    let at = position-Some (λ (b : BoardConfig). b.slot == slot) (first ∷ boards) found first is in
    elim (slice_get_cases (first ∷ boards) found).1 [
      | inl there ↦
          let named : get_or (first ∷ boards) found first ≡ there.0 = get_or_from_slice_get (first ∷ boards) found there.0 first there.2 in
          get_or_from_slice_get (map slot_in (first ∷ boards)) found there.0.slot 0
          (get_map slot_in (first ∷ boards) found ∙ ap (option_map slot_in) there.2)
          ∙ sym (ap slot_in named) ∙ eqb-true (get_or (first ∷ boards) found first).slot slot at.1
      | inr past ↦ absurd (omega (arith, past.0, at.0))
    ]

module _ (config : Configuration) (lawful : IsLawful config) where
  -- the slot of a board is in the list of slots
  slot_there : (board : ℕ) → board < length config.boards → slice_get (map slot_in config.boards) board ≡ Some (slot_at config board)
  slot_there board there =
      elim (slice_get_cases config.boards board).1 [
        | inl found ↦
            let here : slice_get (map slot_in config.boards) board ≡ Some found.0.slot
            = get_map slot_in config.boards board ∙ ap (option_map slot_in) found.2 in
            here ∙ ap Some (sym (get_or_from_slice_get (map slot_in config.boards) board found.0.slot 0 here))
        | inr past ↦ absurd (omega (arith, past.0, there))
      ]

  -- the board in the slot of a board is that board
  pub own_board : (board : ℕ) → board < length config.boards → board_in_slot config (slot_at config board) ≡ Some board
  own_board board there = own_place config board (slot_at config board) lawful (slot_there board there)

  -- boards in one slot are one board
  pub same_board : (a b : ℕ) → a < length config.boards → b < length config.boards → slot_at config a ≡ slot_at config b → a ≡ b
  same_board a b there_a there_b same =
      same_Some _ _ (sym (own_board a there_a) ∙ ap (board_in_slot config) same ∙ own_board b there_b)

  -- the board that a grant names is the one in the slot
  granted_by : (bus : Arbitration) (slot b : ℕ) (place : Option ℕ) → b < length config.boards → board_in_slot config slot ≡ place
      → is_granted (option_map (grant config bus slot) place) b ≡ (slot == slot_at config b)
  granted_by bus slot b None there is =
      sym (ne_eqb slot (slot_at config b) (λ same. absurd (cc (sym is ∙ ap (board_in_slot config) same ∙ own_board b there))))
  granted_by bus slot b (Some found) there is =
      elim (eqb_tells found b) [
        | inl same ↦
            let own : slot_at config found ≡ slot = named_slot config.boards slot found is in
            same.0 ∙ sym (eq-eqb slot (slot_at config b) (sym own ∙ ap (slot_at config) same.1))
        | inr other ↦
            other.0
            ∙ sym (ne_eqb slot (slot_at config b)
            (λ same. other.1 (same_Some _ _ (sym is ∙ ap (board_in_slot config) same ∙ own_board b there))))
      ]

  -- the grant to the holder of the bus names the board whose slot holds it
  pub holder_granted : (bus : Arbitration) (holder : Option ℕ) (b : ℕ) → b < length config.boards → bus.holder ≡ holder
      → is_granted (option_and_then (grant_to config bus) bus.holder) b ≡ holds bus (slot_at config b)
  holder_granted bus None b there is = rw is refl
  holder_granted bus (Some slot) b there is = rw is (granted_by bus slot b (board_in_slot config slot) there refl)
