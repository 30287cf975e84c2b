-- The index of the board in a slot.
use Rattle.std.proofs.Common.{◌≡◌, ℕ, zero, suc, ◌+◌, ◌≤◌, ◌==◌, cond, List, [], ◌∷◌, length, map, drop, Option, Some, None, refl, ap, arith}
use Rattle.std.specs.Prelude.{slice_get}
use Rattle.std.specs.List.{position, position_from}
use Rattle.std.proofs.lemmas.List.{drop_all}
use Rattle.std.proofs.lemmas.Option.{same_Some}
use Rattle.std.proofs.lemmas.Iterator.Adapters.{position_from-zero}
use Rattle.vme_script.specs.declared.board.BoardConfig.{BoardConfig}

-- the index of the board in a slot, among boards of which the first has index i
abbrev pub place_from : ℕ → ℕ → List BoardConfig → Option ℕ
place_from slot i boards = position_from (λ board. board.slot == slot) i boards

-- the index of the board in a slot is the one among all boards
pub place_is : (boards : List BoardConfig) (slot : ℕ) → position (λ board. board.slot == slot) boards ≡ place_from slot 0 boards
place_is boards slot = position_from-zero (λ (board : BoardConfig). board.slot == slot) boards

-- the next board is in the slot, or the index is among the boards after it
pub place_next : (boards : List BoardConfig) (slot i at own : ℕ) → slice_get (map (λ board. board.slot) boards) at ≡ Some own
    → place_from slot i (drop at boards) ≡ cond (own == slot) (Some i) (place_from slot (i + 1) (drop (at + 1) boards))
place_next [] slot i at own found = absurd (cc found)
place_next (board ∷ boards) slot i zero own found =
    ap (λ n. cond (n == slot) (Some i) (place_from slot (i + 1) boards)) (same_Some _ _ found)
place_next (board ∷ boards) slot i (suc at) own found =
    let next : suc at + 1 ≡ suc (at + 1) = omega arith in
    rw next (place_next boards slot i at own found)

-- after the last board there is no board in the slot
pub place_over : (boards : List BoardConfig) (slot i : ℕ) → length boards ≤ i → place_from slot i (drop i boards) ≡ None
place_over boards slot i over = rw (drop_all i boards over) refl
