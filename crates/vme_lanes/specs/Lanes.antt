-- The data lanes: bytes on the lanes of a location, and the bytes that lanes carry.
use Rattle.std.specs.Prelude.{ℕ, ◌+◌, ◌-◌, nat_lt, Bool, if◌then◌else◌, List, [], ◌∷◌, map, Option, None, Some, slice_get, slice_range, is_some}
use Rattle.std.specs.List.{list_all, filter_map}
use Rattle.vme_lanes.specs.declared.location.Location.{Location}
use Rattle.vme_lanes.specs.Rows.{row_of}

-- what the data lines carry: the eight lanes, the most significant first; IEEE 1014-1987, 2.2.3 (data lines)
pub record CarriedLanes : Type 0 where
  pub lanes : List (Option ℕ)

-- the eight lanes when nothing drives them: D63 to D32 of the address lines, and then D31-D24 to D07-D00
abbrev pub idle_lanes : List (Option ℕ)
idle_lanes = None ∷ None ∷ None ∷ None ∷ None ∷ None ∷ None ∷ None ∷ []

-- the first lane of a location among all eight; IEEE 1014-1987, 2.2.3 (data lines)
abbrev pub first_lane : Location → ℕ
first_lane l = 4 + (row_of l).lane

-- the byte of a lane where the bytes begin at lane first, lowest address first; IEEE 1014-1987, 2.2.3 (data lines)
abbrev pub byte_on : ℕ → List ℕ → ℕ → Option ℕ
byte_on first bytes lane = if nat_lt lane first then None else slice_get bytes (lane - first)

-- the eight lanes, with bytes on the lanes of a location; IEEE 1014-1987, 2.2.3 (data lines)
abbrev pub lanes_with : Location → List ℕ → List (Option ℕ)
lanes_with l bytes = map (byte_on (first_lane l) bytes) (0 ∷ 1 ∷ 2 ∷ 3 ∷ 4 ∷ 5 ∷ 6 ∷ 7 ∷ [])

-- the eight lanes with a datum of eight bytes, the lowest address on the most significant lane
abbrev pub wide_lanes : List ℕ → List (Option ℕ)
wide_lanes bytes = map Some bytes

-- the lanes of a location; IEEE 1014-1987, 2.2.3 (data lines)
abbrev pub own_lanes : Location → List (Option ℕ) → List (Option ℕ)
own_lanes l lanes = slice_range lanes (first_lane l) (first_lane l + (row_of l).len)

-- whether each lane of a location carries a byte
abbrev pub carries : Location → List (Option ℕ) → Bool
carries l lanes = list_all is_some (own_lanes l lanes)

-- whether each of the lanes carries a byte
abbrev pub carries_all : List (Option ℕ) → Bool
carries_all lanes = list_all is_some lanes

-- the bytes on some lanes, in order
abbrev pub bytes_of : List (Option ℕ) → List ℕ
bytes_of lanes = filter_map (λ lane. lane) lanes

-- the bytes on the lanes of a location, in order of address; IEEE 1014-1987, 2.2.3 (data lines)
abbrev pub bytes_on : Location → List (Option ℕ) → List ℕ
bytes_on l lanes = bytes_of (own_lanes l lanes)
