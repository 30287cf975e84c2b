-- Defines a machine that is opened by a configuration file, for C.
use Rattle.std.specs.Prelude.{ℕ, ◌≡◌, ◌<◌, ◌≤◌, List, length, map, Ok, Err, IsUtf8}
use Rattle.toml.specs.Parse.{parse_document}
use Rattle.vme_grammar.specs.declared.fault.LineFault.{LineFault}
use Rattle.vme_grammar.specs.declared.fault.LineFault.TheVariants.{LineTooLong, UnknownWord, WordCount, BadCode, BadAddress, BadNumber, BadBytes, MailboxBytes}
use Rattle.vme_script.specs.declared.fault.ConfigFault.{ConfigFault}
use Rattle.vme_script.specs.declared.fault.ConfigFault.TheVariants.{NotToml, BadKey, NoBoard, TooMany, BadSlot, BadLevel, BadWord, BadSize, Misaligned, OutsideSpace, Overlap, BadSchedule, BadMailbox, BadScript, OutOfMemory}
use Rattle.vme_script.specs.declared.fault.ScriptRefusal.{ScriptRefusal}
use Rattle.vme_script.specs.declared.fault.ScriptRefusal.TheVariants.{BadLine, TooManyLines}
use Rattle.vme_script.specs.Configurations.{Configuration}
use Rattle.vme_script.specs.Readings.{configuration_in}
use Rattle.vme_c_types.specs.Results.{no_memory}
use Rattle.vme_machine_ffi.specs.declared.board.VmeBoard.{VmeBoard}
use Rattle.vme_machine_ffi.specs.declared.handle.VmeProcessor.{VmeProcessor}
use Rattle.vme_machine_ffi.specs.declared.loading.VmeLoaded.{VmeLoaded}
use Rattle.vme_machine_ffi.specs.Boards.{board_struct, kind_number}
use Rattle.vme_machine_ffi.specs.Closings.{written_over}
use Rattle.vme_machine_ffi.specs.Openings.{HasOpened}

-- the number of the refusal of a line
abbrev pub line_number : LineFault → ℕ
line_number LineTooLong = 1
line_number UnknownWord = 2
line_number WordCount = 3
line_number BadCode = 4
line_number BadAddress = 5
line_number BadNumber = 6
line_number BadBytes = 7
line_number MailboxBytes = 9

-- the number of the refusal of a script, S1 to S9
abbrev pub script_number : ScriptRefusal → ℕ
script_number (BadLine line fault) = line_number fault
script_number TooManyLines = 8

-- the line of a script that is refused
abbrev pub refused_line : ScriptRefusal → ℕ
refused_line (BadLine line fault) = line
refused_line TooManyLines = 1001

-- the number of a refused script
abbrev pub bad_script : ℕ
bad_script = 0x1e

-- the number of a refusal of a file, C1 to C14, or of a failed allocation
abbrev pub fault_number : ConfigFault → ℕ
fault_number Overlap = 0x11
fault_number OutsideSpace = 0x12
fault_number Misaligned = 0x13
fault_number TooMany = 0x14
fault_number BadSize = 0x15
fault_number NotToml = 0x16
fault_number BadKey = 0x17
fault_number BadSlot = 0x18
fault_number BadLevel = 0x19
fault_number BadWord = 0x1a
fault_number NoBoard = 0x1b
fault_number BadSchedule = 0x1c
fault_number BadMailbox = 0x1d
fault_number (BadScript slot refusal) = bad_script
fault_number OutOfMemory = no_memory

-- what C gets of a refusal: of a script its place and its own refusal, and otherwise nothing
abbrev pub reported : ConfigFault → VmeLoaded → VmeLoaded
reported (BadScript slot refusal) old = record {
  count = 0;
  slot = slot;
  line = refused_line refusal;
  arbiter = 0;
  script = script_number refusal;
}
reported NotToml old = old
reported BadKey old = old
reported NoBoard old = old
reported TooMany old = old
reported BadSlot old = old
reported BadLevel old = old
reported BadWord old = old
reported BadSize old = old
reported Misaligned old = old
reported OutsideSpace old = old
reported Overlap old = old
reported BadSchedule old = old
reported BadMailbox old = old
reported OutOfMemory old = old

-- the numbers of the refusals of a file
abbrev pub IsRefusal : ℕ → Type 0
IsRefusal result = (0x11 ≤ result) × (result ≤ 0x1e)

-- a file is refused, with this number; a text that is not UTF-8 is no TOML
pub record Refuses (file : List ℕ) (old new : VmeLoaded) (result : ℕ) : Type 0 where
  pub fault : ConfigFault
  pub text : IsUtf8 file → configuration_in (parse_document file) ≡ Err fault
  pub bytes : (IsUtf8 file → ⊥) → fault ≡ NotToml
  pub number : result ≡ fault_number fault
  pub found : new ≡ reported fault old

-- a lawful file has more boards than there are structs
pub record HasMoreBoards (file : List ℕ) (out : List VmeProcessor) : Type 0 where
  pub config : Configuration
  pub read : configuration_in (parse_document file) ≡ Ok config
  pub more : length out < length config.boards

-- the first structs have the processors of a new machine of the boards of a file, which C gets too
pub record HasLoaded (file : List ℕ) (boards new_boards : List VmeBoard) (out new_out : List VmeProcessor)
    (found : VmeLoaded) : Type 0 where
  pub is_text : IsUtf8 file
  pub config : Configuration
  pub read : configuration_in (parse_document file) ≡ Ok config
  pub opened : HasOpened (map board_struct config.boards) (kind_number config.arbiter) out new_out
  pub reported : new_boards ≡ written_over (map board_struct config.boards) boards
  pub count : found.count ≡ length config.boards
  pub arbiter : found.arbiter ≡ kind_number config.arbiter
