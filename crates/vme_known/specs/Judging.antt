-- How the judge decides: it keeps what is known of each byte.
use Rattle.std.specs.Prelude.{ℕ, ◌+◌, nat_le, nat_lt, Bool, true, false, ◌==◌, ◌&&◌, if◌then◌else◌, List, [], ◌∷◌, Option, Some, None, slice_get, slice_set}
use Rattle.vme_known.specs.declared.access.Access.{Access}
use Rattle.vme_known.specs.declared.access.Access.TheVariants.{Finds, Stores}
use Rattle.vme_known.specs.declared.byte.Byte.{Byte}
use Rattle.vme_known.specs.declared.byte.Byte.TheVariants.{Open, Unseen, Known}

-- whether a byte may be found where this is known: a byte that nothing has shown may have any value
abbrev pub may_find : Option Byte → ℕ → Bool
may_find None byte = false
may_find (Some Open) byte = true
may_find (Some Unseen) byte = true
may_find (Some (Known value)) byte = value == byte

-- whether there is a byte, and it is open
abbrev pub is_open : Option Byte → Bool
is_open None = false
is_open (Some Open) = true
is_open (Some Unseen) = false
is_open (Some (Known value)) = false

-- the place of an access, and its byte
abbrev pub place_of : Access → ℕ
place_of (Finds at byte) = at
place_of (Stores at byte) = at

-- the byte that an access finds or stores
abbrev pub byte_in : Access → ℕ
byte_in (Finds at byte) = byte
byte_in (Stores at byte) = byte

-- whether an access may come where this is known
abbrev pub may_come : List Byte → Access → Bool
may_come bytes (Finds at byte) = may_find (slice_get bytes at) byte
may_come bytes (Stores at byte) = true

-- what is known after an access: its byte, or nothing where the byte is open
abbrev pub known_after : List Byte → Access → List Byte
known_after bytes access =
    if is_open (slice_get bytes (place_of access)) then bytes else slice_set bytes (place_of access) (Known (byte_in access))

-- what is known once something unseen may have written a byte: nothing of it
abbrev pub forgotten : List Byte → ℕ → List Byte
forgotten bytes at = if is_open (slice_get bytes at) then bytes else slice_set bytes at Unseen

-- whether accesses may come, one after another
abbrev pub may_all_come : List Byte → List Access → Bool
may_all_come bytes [] = true
may_all_come bytes (access ∷ accesses) = may_come bytes access && may_all_come (known_after bytes access) accesses
