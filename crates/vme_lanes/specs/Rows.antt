-- The byte location table: bytes, strobes and first lane of each row, and how a row is found.
use Rattle.std.specs.Prelude.{ℕ, ◌%◌, Bool, true, false, ◌==◌, ◌&&◌, List, [], ◌∷◌, find, Option}
use Rattle.std.specs.Bool.{beq}
use Rattle.vme_lanes.specs.declared.location.Location.{Location}
use Rattle.vme_lanes.specs.declared.location.Location.TheVariants.{Byte0, Byte1, Byte2, Byte3, Bytes01, Bytes23, Bytes03, Bytes02, Bytes13, Bytes12}
use Rattle.vme_lanes.specs.declared.location.Strobes.{Strobes}

-- one row of the byte location table: first byte, length, strobes, and first lane, counted from D31-D24;
-- IEEE 1014-1987, 2.2.1 (addressing lines)
pub record Row : Type 0 where
  pub first : ℕ
  pub len : ℕ
  pub strobes : Strobes
  pub lane : ℕ

-- the high level of a line
abbrev pub H : Bool
H = true

-- the low level of a line
abbrev pub L : Bool
L = false

-- a row from its parts: first byte, length, DS1*, DS0*, A01, LWORD*, first lane
abbrev pub row_with : ℕ → ℕ → Bool → Bool → Bool → Bool → ℕ → Row
row_with first len ds1 ds0 a01 lword lane =
    record { first = first; len = len; strobes = record { ds1 = ds1; ds0 = ds0; a01 = a01; lword = lword }; lane = lane }

-- the byte location table; IEEE 1014-1987, 2.2.1 (addressing lines)
abbrev pub row_of : Location → Row
row_of Byte0 = row_with 0 1 L H L H 2
row_of Byte1 = row_with 1 1 H L L H 3
row_of Byte2 = row_with 2 1 L H H H 2
row_of Byte3 = row_with 3 1 H L H H 3
row_of Bytes01 = row_with 0 2 L L L H 2
row_of Bytes23 = row_with 2 2 L L H H 2
row_of Bytes03 = row_with 0 4 L L L L 0
row_of Bytes02 = row_with 0 3 L H L L 0
row_of Bytes13 = row_with 1 3 H L L L 1
row_of Bytes12 = row_with 1 2 L L H L 1

-- the ten locations of the table; IEEE 1014-1987, 2.2.1 (addressing lines)
abbrev pub locations : List Location
locations = Byte0 ∷ Byte1 ∷ Byte2 ∷ Byte3 ∷ Bytes01 ∷ Bytes23 ∷ Bytes03 ∷ Bytes02 ∷ Bytes13 ∷ Bytes12 ∷ []

-- whether DS1*, DS0*, A01 and LWORD* have the same levels in both
abbrev pub same_strobes : Strobes → Strobes → Bool
same_strobes a b = beq a.ds1 b.ds1 && beq a.ds0 b.ds0 && beq a.a01 b.a01 && beq a.lword b.lword

-- the row with n bytes that begin at an address, if any; IEEE 1014-1987, 2.2.1 (addressing lines)
unfoldable pub location_at : ℕ → ℕ → Option Location
location_at addr n = find (λ l. (row_of l).first == addr % 4 && (row_of l).len == n) locations

-- the row with these strobes, if any; IEEE 1014-1987, 2.2.1 (addressing lines)
unfoldable pub location_sensed : Strobes → Option Location
location_sensed strobes = find (λ l. same_strobes (row_of l).strobes strobes) locations
