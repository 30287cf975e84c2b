-- A datum on all lanes is picked from them.
use Rattle.std.proofs.Common.{◌≡◌, ℕ, true, List, [], ◌∷◌, refl, ap}
use Rattle.vme_lanes.specs.Lanes.{wide_lanes, carries_all, bytes_of}

-- lanes with a datum of eight bytes each carry a byte
pub all_carry : (bytes : List ℕ) → carries_all (wide_lanes bytes) ≡ true
all_carry [] = refl
all_carry (byte ∷ bytes) = all_carry bytes

-- the bytes on all lanes are the bytes that were placed there
pub all_again : (bytes : List ℕ) → bytes_of (wide_lanes bytes) ≡ bytes
all_again [] = refl
all_again (byte ∷ bytes) = ap (λ rest. byte ∷ rest) (all_again bytes)
