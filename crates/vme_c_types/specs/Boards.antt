-- Boards and the kind of their arbiter, as C has them.
use Rattle.std.specs.Prelude.{ℕ, nat_lt, ◌==◌, if◌then◌else◌}
use Rattle.vme_am.specs.declared.code.Space.{Space}
use Rattle.vme_am.specs.declared.code.Space.TheVariants.{A16, A24, A32}
use Rattle.vme_decode.specs.declared.entry.Entry.{Entry}
use Rattle.vme_memory.specs.declared.class.Class.{Class}
use Rattle.vme_memory.specs.declared.class.Width8To32.{Width8To32}
use Rattle.vme_memory.specs.declared.class.Width8To32.TheVariants.{D08, D16, D32}
use Rattle.vme_arbiter.specs.declared.kind.ArbiterKind.{ArbiterKind}
use Rattle.vme_arbiter.specs.declared.kind.ArbiterKind.TheVariants.{Priority, Rotating}
use Rattle.vme_c_types.specs.declared.board.VmeEntry.{VmeEntry}
use Rattle.vme_c_types.specs.declared.board.VmeClass.{VmeClass}
use Rattle.vme_c_types.specs.Data.{level_of}

-- the space that a number selects: 16, 24 or 32, or the next one below
abbrev pub space_of : ℕ → Space
space_of n = if nat_lt n 24 then A16 else (if nat_lt n 32 then A24 else A32)

-- the entry of a board in an address map
abbrev pub entry_of : VmeEntry → Entry
entry_of e = record { space = space_of e.space; base = e.base; size = e.size; supervisory = level_of e.supervisory }

-- the data width that a number selects: 8, 16 or 32, or the next one below
abbrev pub width_of : ℕ → Width8To32
width_of n = if nat_lt n 16 then D08 else (if nat_lt n 32 then D16 else D32)

-- the class of a board
abbrev pub class_of : VmeClass → Class
class_of c = record { width = width_of c.width; uat = level_of c.uat; blt = level_of c.blt; rmw = level_of c.rmw }

-- the kind of arbiter that a number selects: 0 is priority, every other number rotating
abbrev pub kind_of : ℕ → ArbiterKind
kind_of n = if n == 0 then Priority else Rotating
