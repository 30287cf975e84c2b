-- Bytes that are placed on the lanes of a location are picked from them.
use Rattle.std.proofs.Common.{◌≡◌, ℕ, true, List, [], ◌∷◌, length, refl, arith}
use Rattle.vme_lanes.specs.declared.location.Location.{Location}
use Rattle.vme_lanes.specs.declared.location.Location.TheVariants.{Byte0, Byte1, Byte2, Byte3, Bytes01, Bytes23, Bytes03, Bytes02, Bytes13, Bytes12}
use Rattle.vme_lanes.specs.Rows.{row_of}
use Rattle.vme_lanes.specs.Lanes.{lanes_with, carries, bytes_on}

-- bytes that are placed on the lanes of a location are carried and picked unchanged
both :
    (l : Location) (bytes : List ℕ) → length bytes ≡ (row_of l).len
    → (carries l (lanes_with l bytes) ≡ true) × (bytes_on l (lanes_with l bytes) ≡ bytes)
both Byte0 (a ∷ []) h = (refl, refl)
both Byte1 (a ∷ []) h = (refl, refl)
both Byte2 (a ∷ []) h = (refl, refl)
both Byte3 (a ∷ []) h = (refl, refl)
both Bytes01 (a ∷ b ∷ []) h = (refl, refl)
both Bytes23 (a ∷ b ∷ []) h = (refl, refl)
both Bytes03 (a ∷ b ∷ c ∷ d ∷ []) h = (refl, refl)
both Bytes02 (a ∷ b ∷ c ∷ []) h = (refl, refl)
both Bytes13 (a ∷ b ∷ c ∷ []) h = (refl, refl)
both Bytes12 (a ∷ b ∷ []) h = (refl, refl)
both l bytes h = absurd (omega (arith, h))

-- lanes with the bytes of a location carry a byte on each lane of the location
pub lanes_carry : (l : Location) (bytes : List ℕ) → length bytes ≡ (row_of l).len → carries l (lanes_with l bytes) ≡ true
lanes_carry l bytes h = (both l bytes h).0

-- the bytes on the lanes of a location are the bytes that were placed there
pub bytes_again : (l : Location) (bytes : List ℕ) → length bytes ≡ (row_of l).len → bytes_on l (lanes_with l bytes) ≡ bytes
bytes_again l bytes h = (both l bytes h).1
