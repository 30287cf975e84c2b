-- Defines a new machine for C.
use Rattle.std.specs.Prelude.{ℕ, ◌≡◌, List, ◌++◌, length, map, drop}
use Rattle.vme_memory.specs.Boards.{Board, zeros}
use Rattle.vme_port_array.specs.Arrays.{opening}
use Rattle.vme_machine.specs.Members.{AreNew}
use Rattle.vme_processor.specs.declared.opening.Place.{Place}
use Rattle.vme_processor.specs.declared.processor.Processor.{Processor}
use Rattle.vme_processor.specs.Processors.{Machine, objects_at_first, members_of, ArePlaced}
use Rattle.vme_machine_ffi.specs.declared.board.VmeBoard.{VmeBoard}
use Rattle.vme_machine_ffi.specs.declared.handle.VmeProcessor.{VmeProcessor}
use Rattle.vme_c_types.specs.Boards.{entry_of, class_of, kind_of}
use Rattle.vme_machine_ffi.specs.Structs.{processors_in, full}

-- the memory of a board before anything is written
abbrev pub memory_of : VmeBoard → Board
memory_of board = record { bytes = zeros board.entry.size; class = class_of board.cls }

-- the place of a board's processor on the bus
abbrev pub place_of : VmeBoard → Place
place_of board = record { slot = board.slot; level = board.level }

-- the processors of a new machine of these boards and of an arbiter of a free bus; in order, none has seen or made an
-- entry, each has its board's slot and level, and all have the map of the boards
pub record AreOpened (boards : List VmeBoard) (arbiter : ℕ) (processors : List Processor) : Type 0 where
  pub machine : Machine
  pub opens : opening machine ≡ objects_at_first (map memory_of boards) (kind_of arbiter)
  pub new : AreNew machine (members_of processors)
  pub placed : ArePlaced (map (λ board. entry_of board.entry) boards) (map place_of boards) processors

-- the first structs have the processors of a new machine, and the others are as they were
pub record HasOpened (boards : List VmeBoard) (arbiter : ℕ) (old new : List VmeProcessor) : Type 0 where
  pub processors : List Processor
  pub opened : AreOpened boards arbiter processors
  pub has : processors_in new ≡ full processors ++ processors_in (drop (length processors) old)
