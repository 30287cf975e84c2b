-- The texts of signals, outcomes and refusals.
use Rattle.std.specs.Prelude.{ℕ, ◌/◌, ◌%◌, Bool, true, false, List, [], ◌∷◌, ◌++◌, flat_map, drop, slice_index, Option, Some, None, codes}
use Rattle.std.specs.Fmt.{decimal}
use Rattle.std.specs.Int.{w32, to_be_bytes}
use Rattle.vme_am.specs.declared.code.AmFault.TheVariants.{TooLarge, UserDefined, Reserved}
use Rattle.vme_cycle.specs.declared.fault.CycleFault.{CycleFault}
use Rattle.vme_cycle.specs.declared.fault.CycleFault.TheVariants.{Code, WrongKindOfCode, ProgramModify, BadCount, OutsideSpace, NoCycle, CrossesBoundary}
use Rattle.vme_cycle.specs.SignalLines.{SignalLines}
use Rattle.vme_lanes.specs.declared.location.Strobes.{Strobes}
use Rattle.vme_grammar.specs.declared.fault.LineFault.{LineFault}
use Rattle.vme_grammar.specs.declared.fault.LineFault.TheVariants.{LineTooLong, UnknownWord, WordCount, BadCode, BadAddress, BadNumber, BadBytes, MailboxBytes}

-- the digit of a number below 16, in lower case
abbrev pub digit : ℕ → ℕ
digit n = slice_index (codes "0123456789abcdef") n

-- a byte as two digits
abbrev pub hex_byte : ℕ → List ℕ
hex_byte byte = digit (byte / 16) ∷ digit (byte % 16) ∷ []

-- two digits for each byte
abbrev pub hex_text : List ℕ → List ℕ
hex_text bytes = flat_map hex_byte bytes

-- the character of a line's level: 0 is low, 1 is high
abbrev pub level : Bool → ℕ
level true = 49
level false = 48

-- the name of a signal and its level
abbrev pub level_text : List ℕ → Bool → List ℕ
level_text name high = name ++ level high ∷ []

-- a data lane: two digits, or two dashes if the cycle carries nothing there
abbrev pub lane_text : Option ℕ → List ℕ
lane_text None = codes "--"
lane_text (Some byte) = hex_byte byte

-- a list of data lanes, the most significant first
abbrev pub lanes_text : List (Option ℕ) → List ℕ
lanes_text lanes = flat_map lane_text lanes

-- the data lanes that are reported: all eight with a code of eight-byte data, else the last four, D31-D24 to D07-D00
abbrev pub printed_lanes : Bool → List (Option ℕ) → List (Option ℕ)
printed_lanes true lanes = lanes
printed_lanes false lanes = drop 4 lanes

-- the code, and the address lines as an address of eight digits
unfoldable pub address_text : ℕ → ℕ → List ℕ
address_text code addr = codes "am=" ++ (hex_byte code ++ (codes " a=" ++ hex_text (to_be_bytes w32 addr)))

-- the levels of the data strobes, A01 and LWORD*
unfoldable pub strobes_text : Strobes → List ℕ
strobes_text s =
    level_text (codes " ds1=") s.ds1 ++ (level_text (codes " ds0=") s.ds0
    ++ (level_text (codes " a01=") s.a01 ++ level_text (codes " lword=") s.lword))

-- the levels of the data strobes, A01, LWORD* and WRITE*
unfoldable pub levels_text : SignalLines → List ℕ
levels_text s = strobes_text s.strobes ++ level_text (codes " write=") s.write

-- the data lines; `wide` says whether the code is one of eight-byte data
unfoldable pub data_text : Bool → List (Option ℕ) → List ℕ
data_text wide lanes = codes " data=" ++ lanes_text (printed_lanes wide lanes)

-- the signals of a cycle
unfoldable pub signals_text : SignalLines → List ℕ
signals_text s = address_text s.am.code s.addr ++ (levels_text s ++ data_text s.am.wide s.lanes)

-- how a transfer ends: with all bytes read, with all data written, with the old bytes of a read-modify-write, or with a
-- bus error after a number of data, with the bytes read before it
pub data OutcomeText : Type 0 where
  Read : List ℕ → OutcomeText
  Done : OutcomeText
  Old : List ℕ → OutcomeText
  Berr : ℕ → List ℕ → OutcomeText

-- a space and bytes, or nothing if there are no bytes
abbrev pub more_bytes : List ℕ → List ℕ
more_bytes [] = []
more_bytes (byte ∷ bytes) = 32 ∷ hex_text (byte ∷ bytes)

-- the text of the end of a transfer
unfoldable pub outcome_text : OutcomeText → List ℕ
outcome_text (Read bytes) = codes "read " ++ hex_text bytes
outcome_text Done = codes "done"
outcome_text (Old bytes) = codes "old " ++ hex_text bytes
outcome_text (Berr count bytes) = codes "berr " ++ (decimal count ++ more_bytes bytes)

-- the number of the refusal of a request
abbrev pub cycle_fault_text : CycleFault → List ℕ
cycle_fault_text (Code TooLarge) = codes "K9"
cycle_fault_text (Code UserDefined) = codes "K2"
cycle_fault_text (Code Reserved) = codes "K1"
cycle_fault_text WrongKindOfCode = codes "K5"
cycle_fault_text ProgramModify = codes "K7"
cycle_fault_text BadCount = codes "K8"
cycle_fault_text OutsideSpace = codes "K4"
cycle_fault_text NoCycle = codes "K3"
cycle_fault_text CrossesBoundary = codes "K6"

-- the number of the refusal of a line
abbrev pub line_fault_text : LineFault → List ℕ
line_fault_text LineTooLong = codes "S1"
line_fault_text UnknownWord = codes "S2"
line_fault_text WordCount = codes "S3"
line_fault_text BadCode = codes "S4"
line_fault_text BadAddress = codes "S5"
line_fault_text BadNumber = codes "S6"
line_fault_text BadBytes = codes "S7"
line_fault_text MailboxBytes = codes "S9"

-- a line of output: a text and LF
abbrev pub output_line : List ℕ → List ℕ
output_line text = text ++ 10 ∷ []
