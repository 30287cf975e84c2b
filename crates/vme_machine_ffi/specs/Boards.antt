-- The boards of a file, as C has them.
use Rattle.std.specs.Prelude.{ℕ, Bool, if◌then◌else◌}
use Rattle.vme_am.specs.declared.code.Space.{Space}
use Rattle.vme_am.specs.declared.code.Space.TheVariants.{A16, A24, A32}
use Rattle.vme_decode.specs.declared.entry.Entry.{Entry}
use Rattle.vme_memory.specs.declared.class.Class.{Class}
use Rattle.vme_memory.specs.declared.class.Width8To32.{Width8To32}
use Rattle.vme_memory.specs.declared.class.Width8To32.TheVariants.{D08, D16, D32}
use Rattle.vme_arbiter.specs.declared.kind.ArbiterKind.{ArbiterKind}
use Rattle.vme_arbiter.specs.declared.kind.ArbiterKind.TheVariants.{Priority, Rotating}
use Rattle.vme_c_types.specs.declared.board.VmeEntry.{VmeEntry}
use Rattle.vme_c_types.specs.declared.board.VmeClass.{VmeClass}
use Rattle.vme_script.specs.declared.board.BoardConfig.{BoardConfig}
use Rattle.vme_machine_ffi.specs.declared.board.VmeBoard.{VmeBoard}

-- the position of a switch
abbrev pub switch : Bool → ℕ
switch b = if b then 1 else 0

-- the number of a space
abbrev pub space_number : Space → ℕ
space_number A16 = 16
space_number A24 = 24
space_number A32 = 32

-- the number of a data width
abbrev pub width_number : Width8To32 → ℕ
width_number D08 = 8
width_number D16 = 16
width_number D32 = 32

-- the addresses of a board
abbrev pub entry_struct : Entry → VmeEntry
entry_struct e = record { base = e.base; size = e.size; space = space_number e.space; supervisory = switch e.supervisory }

-- the cycles of a board
abbrev pub class_struct : Class → VmeClass
class_struct c = record { width = width_number c.width; uat = switch c.uat; blt = switch c.blt; rmw = switch c.rmw }

-- a board of a file
abbrev pub board_struct : BoardConfig → VmeBoard
board_struct b = record { entry = entry_struct b.entry; cls = class_struct b.class; slot = b.slot; level = b.level }

-- the number of a kind of arbiter
abbrev pub kind_number : ArbiterKind → ℕ
kind_number Priority = 0
kind_number Rotating = 1
