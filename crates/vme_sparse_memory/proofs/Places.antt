-- Locations, lengths and places depend on an offset only by its place in the group of four.
use Rattle.std.proofs.Common.{◌≡◌, ◌<◌, ◌≤◌, ℕ, ◌%◌, true, false, Option, Some, None, refl, ap, ◌⊎◌, arith, inl, inr, find}
use Rattle.std.specs.Prelude.{◌==◌, ◌||◌, ◌&&◌}
use Rattle.std.specs.Option.{option_map_or}
use Rattle.std.proofs.lemmas.Bool.{cases_Bool, or_cases, eqb-true}
use Rattle.vme_lanes.specs.declared.location.Location.{Location}
use Rattle.vme_lanes.specs.declared.location.Location.TheVariants.{Byte0, Byte1, Byte2, Byte3, Bytes01, Bytes23, Bytes03, Bytes02, Bytes13, Bytes12}
use Rattle.vme_lanes.specs.Rows.{row_of, locations, location_at}
use Rattle.vme_lanes.proofs.lemmas.Tables.{found_row}
use Rattle.vme_cycle.specs.Counts.{is_wide_len}
use Rattle.vme_memory.specs.declared.class.Class.{Class}
use Rattle.vme_memory.specs.Classes.{answers, is_modify_place, is_block_place, is_local_len}
use Rattle.vme_memory.specs.Boards.{Board}
use Rattle.vme_memory.specs.Steps.{has_cycle, has_block_cycle}

-- the row of a first byte and a length
row_from : ℕ → ℕ → Option Location
row_from first len = find (λ l. (row_of l).first == first && (row_of l).len == len) locations

-- the location of some bytes depends on their place in the group of four
location_by : (at place len : ℕ) → at % 4 ≡ place % 4 → location_at at len ≡ location_at place len
unfolding row_from location_at
location_by at place len same = ap (λ first. row_from first len) same

-- the cycle that a board needs depends on the place in the group of four
pub cycle_by : (board : Board) (at place len : ℕ) → at % 4 ≡ place % 4 → has_cycle board at len ≡ has_cycle board place len
cycle_by board at place len same = ap (λ found. option_map_or (answers board.class) found false) (location_by at place len same)

-- the cycle that a board needs for a datum of a block depends on the place in the group of four
pub block_cycle_by : (board : Board) (at place len : ℕ) → at % 4 ≡ place % 4 → has_block_cycle board at len ≡ has_block_cycle board place len
block_cycle_by board at place len same =
    elim (cases_Bool (is_wide_len len)) [ inl wide ↦ rw wide refl | inr narrow ↦ rw narrow (cycle_by board at place len same) ]

-- one, two or four bytes
which_len : (n : ℕ) → is_local_len n ≡ true → n ≡ 1 ⊎ (n ≡ 2 ⊎ n ≡ 4)
which_len n len =
    elim (or_cases (n == 1 || n == 2) (n == 4) len) [
      | inl few ↦ elim (or_cases (n == 1) (n == 2) few) [ inl one ↦ inl (eqb-true _ _ one) | inr two ↦ inr (inl (eqb-true _ _ two)) ]
      | inr four ↦ inr (inr (eqb-true _ _ four))
    ]

-- the remainder by one, two or four depends on the place in the group of four
rest_by : (at place n : ℕ) → n ≡ 1 ⊎ (n ≡ 2 ⊎ n ≡ 4) → at % 4 ≡ place % 4 → at % n ≡ place % n
rest_by at place n (inl one) same = rw one (omega arith)
rest_by at place n (inr (inl two)) same = rw two (omega arith)
rest_by at place n (inr (inr four)) same = rw four same

-- whether one, two or four bytes are at a multiple of their number depends on their place in the group of four
pub modify_place_by : (at place n : ℕ) → at % 4 ≡ place % 4 → is_modify_place at n ≡ is_modify_place place n
modify_place_by at place n same =
    elim (cases_Bool (is_local_len n)) [
      | inl whole ↦ ap (λ rest. is_local_len n && rest == 0) (rest_by at place n (which_len n whole) same)
      | inr other ↦ rw other refl
    ]

-- whether a datum of a block may be at an offset depends on the place in the group of four
pub block_place_by : (at place n : ℕ) → at % 4 ≡ place % 4 → is_block_place at n ≡ is_block_place place n
block_place_by at place n same =
    elim (cases_Bool (is_wide_len n)) [
      | inl wide ↦ rw wide (ap (λ rest. rest == 0) same)
      | inr narrow ↦ rw narrow (modify_place_by at place n same)
    ]

-- one, two or four bytes are one to eight
pub local_sized : (n : ℕ) → is_local_len n ≡ true → (0 < n) × (n ≤ 8)
local_sized n len =
    elim (which_len n len) [
      | inl one ↦ (omega arith, omega arith)
      | inr (inl two) ↦ (omega arith, omega arith)
      | inr (inr four) ↦ (omega arith, omega arith)
    ]

-- a location has one to eight bytes
row_sized : (l : Location) → (0 < (row_of l).len) × ((row_of l).len ≤ 8)
row_sized Byte0 = (omega arith, omega arith)
row_sized Byte1 = (omega arith, omega arith)
row_sized Byte2 = (omega arith, omega arith)
row_sized Byte3 = (omega arith, omega arith)
row_sized Bytes01 = (omega arith, omega arith)
row_sized Bytes23 = (omega arith, omega arith)
row_sized Bytes03 = (omega arith, omega arith)
row_sized Bytes02 = (omega arith, omega arith)
row_sized Bytes13 = (omega arith, omega arith)
row_sized Bytes12 = (omega arith, omega arith)

-- if a class has the cycle of the location that is found, the bytes are one to eight
found_sized : (class : Class) (at n : ℕ) (found : Option Location) → location_at at n ≡ found → option_map_or (answers class) found false ≡ true
    → (0 < n) × (n ≤ 8)
found_sized class at n None here has = absurd cc
found_sized class at n (Some l) here has =
    let row = row_sized l in
    let same = (found_row at n l here).1 in
    (omega arith, omega arith)

-- bytes whose cycle a board has are one to eight
pub cycle_sized : (board : Board) (at n : ℕ) → has_cycle board at n ≡ true → (0 < n) × (n ≤ 8)
cycle_sized board at n has = found_sized board.class at n (location_at at n) refl has

-- a datum of a block whose cycle a board has is one to eight bytes
pub block_sized : (board : Board) (at n : ℕ) → has_block_cycle board at n ≡ true → (0 < n) × (n ≤ 8)
block_sized board at n has =
    elim (cases_Bool (is_wide_len n)) [
      | inl wide ↦ let eight = eqb-true n 8 wide in (omega arith, omega arith)
      | inr narrow ↦ cycle_sized board at n (rw narrow at has)
    ]
