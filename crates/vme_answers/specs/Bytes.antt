-- The accesses to bytes of a datum or a local access, and what is known after them and after bytes are forgotten.
use Rattle.std.specs.Prelude.{ℕ, zero, suc, ◌+◌, ◌-◌, nat_le, if◌then◌else◌, List, [], ◌∷◌, slice_range}
use Rattle.std.specs.Int.{w32, w64, to_be_bytes}
use Rattle.vme_known.specs.declared.access.Access.{Access}
use Rattle.vme_known.specs.declared.access.Access.TheVariants.{Finds, Stores}
use Rattle.vme_known.specs.declared.byte.Byte.{Byte}
use Rattle.vme_known.specs.Judging.{known_after, forgotten}
use Rattle.vme_protocol.specs.declared.datum.Datum.{Datum}
use Rattle.vme_protocol.specs.declared.port.Local.{Local}

-- the bytes of a datum, in order of address; IEEE 1014-1987, 2.2.3 (data lines)
abbrev pub bytes_of : Datum → List ℕ
bytes_of d = if nat_le (d.lane + d.len) 8 then slice_range (to_be_bytes w64 d.lines) d.lane (d.lane + d.len) else []

-- the bytes of a local access, in order of address
abbrev pub local_bytes : Local → List ℕ
local_bytes a = if nat_le a.len 4 then slice_range (to_be_bytes w32 a.«data») (4 - a.len) 4 else []

-- each of some bytes is found from a place on, or stored
abbrev pub finds : ℕ → List ℕ → List Access
finds at [] = []
finds at (byte ∷ bytes) = Finds at byte ∷ finds (at + 1) bytes

-- bytes are stored one after another from an offset
abbrev pub stores : ℕ → List ℕ → List Access
stores at [] = []
stores at (byte ∷ bytes) = Stores at byte ∷ stores (at + 1) bytes

-- what is known after some accesses
abbrev pub all_after : List Byte → List Access → List Byte
all_after known [] = known
all_after known (access ∷ accesses) = all_after (known_after known access) accesses

-- what is known once something unseen may have written so many bytes from a place on
abbrev pub all_forgotten : List Byte → ℕ → ℕ → List Byte
all_forgotten known at zero = known
all_forgotten known at (suc count) = forgotten (all_forgotten known at count) (at + count)
