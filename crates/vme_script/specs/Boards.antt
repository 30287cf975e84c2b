-- The boards of a configuration: what each is configured as, or its first refusal.
use Rattle.std.specs.Prelude.{ℕ, ◌%◌, nat_lt, nat_le, Bool, not, ◌==◌, ◌&&◌, if◌then◌else◌, List, [], ◌∷◌, map, Option, Some, None, Result, Ok, is_ok, codes}
use Rattle.std.specs.Option.{ok_or}
use Rattle.std.specs.List.{list_all}
use Rattle.std.specs.Str.{bytes_eq}
use Rattle.vme_am.specs.declared.code.Space.{Space}
use Rattle.vme_am.specs.declared.code.Space.TheVariants.{A16, A24, A32}
use Rattle.vme_am.specs.Spaces.{addresses_of}
use Rattle.vme_memory.specs.declared.class.Class.{Class}
use Rattle.vme_memory.specs.declared.class.Width8To32.{Width8To32}
use Rattle.vme_memory.specs.declared.class.Width8To32.TheVariants.{D08, D16, D32}
use Rattle.vme_memory.specs.Boards.{is_board_size}
use Rattle.vme_decode.specs.declared.entry.Entry.{Entry}
use Rattle.vme_decode.specs.Entries.{end_of}
use Rattle.vme_decode.specs.Lawful.{some_overlap}
use Rattle.vme_script.specs.declared.board.BoardConfig.{BoardConfig}
use Rattle.vme_script.specs.declared.fault.ConfigFault.{ConfigFault}
use Rattle.vme_script.specs.declared.fault.ConfigFault.TheVariants.{BadSlot, BadLevel, BadWord, BadSize, Misaligned, OutsideSpace, Overlap}
use Rattle.vme_script.specs.Answers.{◌>>=◌, refuse}
use Rattle.vme_config_toml.specs.declared.file.ClassTable.{ClassTable}
use Rattle.vme_config_toml.specs.Files.{RangeValues, BoardValues}

-- the space that a word names: short, standard or extended (IEEE 1014-1987, 2.3.5 (addressing))
unfoldable pub space_named : List ℕ → Option Space
space_named word =
    if bytes_eq word (codes "a16") then Some A16 else
    (if bytes_eq word (codes "a24") then Some A24 else
    (if bytes_eq word (codes "a32") then Some A32 else None))

-- the slave that uses this number of data lines: D08(EO), D16 or D32 (IEEE 1014-1987, 2.3.6 (basic data transfer))
unfoldable pub width_of : ℕ → Option Width8To32
width_of lines = if lines == 8 then Some D08 else (if lines == 16 then Some D16 else (if lines == 32 then Some D32 else None))

-- the range of a board, whose word names a space
unfoldable pub entry_of : RangeValues → Result Entry ConfigFault
entry_of range = do
  space ← ok_or (space_named range.space) BadWord
  Ok (record { space = space; base = range.base; size = range.size; supervisory = range.supervisory })

-- the class of a board: a slave uses 8, 16 or 32 data lines, and only one that uses 32 has unaligned transfers
unfoldable pub class_of : ClassTable → Result Class ConfigFault
class_of class = do
  width ← ok_or (width_of class.width) BadWord
  _ ← refuse (class.uat && not (class.width == 32)) BadWord
  Ok (record { width = width; uat = class.uat; blt = class.blt; rmw = class.rmw })

-- the refusal of a range: by its size, by a base that is not a multiple of four, or by an end past its space
unfoldable pub range_refused : Entry → Result (Unit {0}) ConfigFault
range_refused entry = do
  _ ← refuse (not (is_board_size entry.size)) BadSize
  _ ← refuse (not (entry.base % 4 == 0)) Misaligned
  refuse (nat_lt (addresses_of entry.space) (end_of entry)) OutsideSpace

-- the configuration of a board, or its first refusal: by its slot, which is above that of the board before and at most
-- 21, by its level, by its words, and by its range
unfoldable pub board_config : ℕ → BoardValues → Result BoardConfig ConfigFault
board_config before board = do
  _ ← refuse (not (nat_lt before board.slot && nat_le board.slot 21)) BadSlot
  _ ← refuse (nat_lt 3 board.level) BadLevel
  entry ← entry_of board.range
  class ← class_of board.class
  _ ← range_refused entry
  Ok (record { slot = board.slot; level = board.level; entry = entry; class = class })

-- the configurations of boards, each after the one before
abbrev pub boards_after : ℕ → List BoardValues → Result (List BoardConfig) ConfigFault
boards_after before [] = Ok []
boards_after before (board ∷ more) = do
  first ← board_config before board
  others ← boards_after board.slot more
  Ok (first ∷ others)

-- the ranges of boards, in order of slots
abbrev pub entries_of : List BoardConfig → List Entry
entries_of boards = map (λ board. board.entry) boards

-- whether the range of each board is lawful by itself
abbrev pub have_ranges : List BoardConfig → Bool
have_ranges boards = list_all (λ board. is_ok (range_refused board.entry)) boards

-- the ranges, if no two share an address
unfoldable pub map_of : List Entry → Result (List Entry) ConfigFault
map_of entries = do
  _ ← refuse (some_overlap entries) Overlap
  Ok entries
