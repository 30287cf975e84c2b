-- No two rows of the table have the same strobes, or the same first byte and length.
use Rattle.std.proofs.Common.{◌≡◌, ℕ, ◌%◌, Bool, true, ◌&&◌, List, [], ◌∷◌, find, Some, Option, refl, ap, sym, ◌∙◌, inl, inr}
use Rattle.std.specs.Prelude.{◌==◌}
use Rattle.std.proofs.lemmas.Bool.{cases_Bool, and_parts, eqb-true}
use Rattle.vme_lanes.specs.declared.location.Location.{Location}
use Rattle.vme_lanes.specs.declared.location.Location.TheVariants.{Byte0, Byte1, Byte2, Byte3, Bytes01, Bytes23, Bytes03, Bytes02, Bytes13, Bytes12}
use Rattle.vme_lanes.specs.Rows.{row_of, locations, location_at, location_sensed}

-- each location is sensed from its own strobes
pub own_sensed : (l : Location) → location_sensed (row_of l).strobes ≡ Some l
unfolding location_sensed
own_sensed Byte0 = refl
own_sensed Byte1 = refl
own_sensed Byte2 = refl
own_sensed Byte3 = refl
own_sensed Bytes01 = refl
own_sensed Bytes23 = refl
own_sensed Bytes03 = refl
own_sensed Bytes02 = refl
own_sensed Bytes13 = refl
own_sensed Bytes12 = refl

-- the row of a first byte and a length
row_from : ℕ → ℕ → Option Location
row_from first len = find (λ l. (row_of l).first == first && (row_of l).len == len) locations

-- each location is the row of its own first byte and length
own_row : (l : Location) → row_from (row_of l).first (row_of l).len ≡ Some l
unfolding row_from
own_row Byte0 = refl
own_row Byte1 = refl
own_row Byte2 = refl
own_row Byte3 = refl
own_row Bytes01 = refl
own_row Bytes23 = refl
own_row Bytes03 = refl
own_row Bytes02 = refl
own_row Bytes13 = refl
own_row Bytes12 = refl

-- each location is found by its length at any address with its place in the group of four
pub own_found : (l : Location) (addr : ℕ) → (row_of l).first ≡ addr % 4 → location_at addr (row_of l).len ≡ Some l
unfolding row_from location_at
own_found l addr h = ap (λ first. row_from first (row_of l).len) (sym h) ∙ own_row l

-- the element that is found passes the test
find_passes : (test : Location → Bool) (ls : List Location) (l : Location) → find test ls ≡ Some l → test l ≡ true
find_passes test [] l h = absurd cc
find_passes test (m ∷ ls) l h =
    elim (cases_Bool (test m)) [
      | inl passes ↦ let same : m ≡ l = let found = rw passes at h in cc in ap test (sym same) ∙ passes
      | inr fails ↦ find_passes test ls l (rw fails at h)
    ]

-- a location that is found for n bytes at an address has their place in the group of four and their number
pub found_row : (addr n : ℕ) (l : Location) → location_at addr n ≡ Some l → ((row_of l).first ≡ addr % 4) × ((row_of l).len ≡ n)
unfolding location_at
found_row addr n l h =
    let both = and_parts _ _ (find_passes (λ m. (row_of m).first == addr % 4 && (row_of m).len == n) locations l h) in
    (eqb-true _ _ both.0, eqb-true _ _ both.1)
