-- The index of the board in a slot.
use Rattle.std.proofs.Common.{◌≡◌, ℕ, zero, suc, ◌+◌, ◌≤◌, ◌==◌, cond, List, [], ◌∷◌, length, map, drop, Option, Some, None, refl, sym, ap, ◌∙◌, arith, inl, inr, eq-eqb}
use Rattle.std.specs.Prelude.{slice_get}
use Rattle.std.specs.List.{position_from}
use Rattle.std.proofs.lemmas.Bool.{ne_eqb}
use Rattle.std.proofs.lemmas.List.{drop_all, length-map}
use Rattle.std.proofs.lemmas.Option.{same_Some, slice_get_within, slice_get_cases}
use Rattle.std.proofs.lemmas.Iterator.Adapters.{position_from-zero}
use Rattle.vme_script.specs.declared.board.BoardConfig.{BoardConfig}
use Rattle.vme_script.specs.Configurations.{Configuration}
use Rattle.vme_script.specs.Lawful.{IsLawful}
use Rattle.vme_stepper.specs.Turns.{board_in_slot}
use Rattle.vme_stepper.proofs.Reported.{get_map}
use Rattle.vme_stepper.proofs.Turning.{next_first}

-- the index of the board in a slot, among boards of which the first has index i
abbrev pub place_from : ℕ → ℕ → List BoardConfig → Option ℕ
place_from slot i boards = position_from (λ board. board.slot == slot) i boards

-- the index of the board in a slot is the one among all boards
pub place_is : (config : Configuration) (slot : ℕ) → board_in_slot config slot ≡ place_from slot 0 config.boards
place_is config slot = position_from-zero (λ (board : BoardConfig). board.slot == slot) config.boards

-- a slot in the list of slots is that of a board
pub slot_found : (boards : List BoardConfig) (i own : ℕ) → slice_get (map (λ board. board.slot) boards) i ≡ Some own
    → (board : BoardConfig) × (slice_get boards i ≡ Some board) × (board.slot ≡ own)
slot_found boards i own found =
    elim (slice_get_cases boards i).1 [
      | inl at ↦ (at.0, at.2, same_Some _ _ (sym (rw at.2 at (get_map (λ (board : BoardConfig). board.slot) boards i)) ∙ found))
      | inr past ↦ absurd (omega (arith, slice_get_within _ i own found, length-map boards (λ (board : BoardConfig). board.slot), past.0))
    ]

-- the next board is in the slot, or the index is among the boards after it
pub place_next : (boards : List BoardConfig) (slot i own : ℕ) → slice_get (map (λ board. board.slot) boards) i ≡ Some own
    → place_from slot i (drop i boards) ≡ cond (own == slot) (Some i) (place_from slot (i + 1) (drop (i + 1) boards))
place_next boards slot i own found =
    let at = slot_found boards i own found in
    rw (next_first boards i at.0 at.1) (ap (λ n. cond (n == slot) (Some i) (place_from slot (i + 1) (drop (i + 1) boards))) at.2)

-- after the last board there is no board in the slot
pub place_over : (boards : List BoardConfig) (slot i : ℕ) → length boards ≤ i → place_from slot i (drop i boards) ≡ None
place_over boards slot i over = rw (drop_all i boards over) refl

-- if no other board has a board's slot, the index for that slot is the board's own
place_own : (boards : List BoardConfig) (board : BoardConfig) (i from : ℕ) → slice_get boards i ≡ Some board
    → ((j : ℕ) (other : BoardConfig) → slice_get boards j ≡ Some other → other.slot ≡ board.slot → j ≡ i)
    → place_from board.slot from boards ≡ Some (from + i)
place_own [] board i from found apart = absurd (cc found)
place_own (first ∷ boards) board zero from found apart =
    let same : first.slot ≡ board.slot = ap (λ (b : BoardConfig). b.slot) (same_Some _ _ found) in
    let there : from ≡ from + 0 = omega arith in
    rw (eq-eqb first.slot board.slot same) (ap Some there)
place_own (first ∷ boards) board (suc i) from found apart =
    let other : first.slot ≡ board.slot → ⊥ = λ same. (let at : 0 ≡ suc i = apart 0 first refl same in omega arith) in
    let there : (from + 1) + i ≡ from + suc i = omega arith in
    rw (ne_eqb first.slot board.slot other)
    (place_own boards board i (from + 1) found (λ j b at same. let eq : suc j ≡ suc i = apart (suc j) b at same in omega arith) ∙ ap Some there)

-- in a lawful configuration, the index for a board's slot is the board's own
pub own_place : (config : Configuration) (i slot : ℕ) → IsLawful config → slice_get (map (λ board. board.slot) config.boards) i ≡ Some slot
    → board_in_slot config slot ≡ Some i
own_place config i slot lawful found =
    let at = slot_found config.boards i slot found in
    let there : 0 + i ≡ i = omega arith in
    place_is config slot ∙ ap (λ s. place_from s 0 config.boards) (sym at.2)
    ∙ place_own config.boards at.0 i 0 at.1 (λ j other found_other same. lawful.apart j i other at.0 found_other at.1 same) ∙ ap Some there
