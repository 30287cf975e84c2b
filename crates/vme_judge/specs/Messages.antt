-- The text of a finding: where it is and what is wrong, the levels, the transfer, what is expected, and help.
use Rattle.std.specs.Prelude.{ℕ, ◌+◌, ◌-◌, bit_and, nat_le, nat_lt, Bool, true, false, ◌==◌, ◌&&◌, if◌then◌else◌, List, [], ◌∷◌, ◌++◌, codes, length, Option, Some, None}
use Rattle.std.specs.Fmt.{decimal}
use Rattle.std.specs.Int.{w32, w64, to_be_bytes, trailing_zeros}
use Rattle.vme_answers.specs.declared.wrong.Wrong.{Wrong}
use Rattle.vme_protocol.specs.declared.datum.Datum.{Datum}
use Rattle.vme_protocol.specs.declared.rule.Rule.{Rule}
use Rattle.vme_protocol.specs.declared.rule.Rule.TheVariants as rules
use Rattle.vme_protocol.specs.declared.sample.Sample.{Sample}
use Rattle.vme_protocol.specs.Rules.{code, section, text}
use Rattle.vme_vcd_reader.specs.declared.control.ControlLine.{ControlLine}
use Rattle.vme_vcd_reader.specs.ControlLines.{control_name}
use Rattle.vme_judge.specs.declared.finding.Asked.{Asked}
use Rattle.vme_judge.specs.declared.finding.Asked.TheVariants as askeds
use Rattle.vme_judge.specs.declared.finding.Broken.{Broken}
use Rattle.vme_judge.specs.declared.finding.Broken.TheVariants as brokens
use Rattle.vme_judge.specs.declared.finding.Finding.{Finding}
use Rattle.vme_judge.specs.declared.transfer.OpenTransfer.{OpenTransfer}
use Rattle.vme_judge.specs.Expected.{expected}
use Rattle.vme_judge.specs.Levels.{hex, level_lines}

-- whether a rule is that of the bytes that a board reads
abbrev pub is_of_bytes : Rule → Bool
is_of_bytes rules.WrongBytes = true
is_of_bytes rule = false

-- whether a rule is that of addresses at which no board answers
abbrev pub is_of_no_board : Rule → Bool
is_of_no_board rules.NoBoard = true
is_of_no_board rule = false

-- the rule that is broken
abbrev pub broken_rule : Broken → Rule
broken_rule (brokens.Order rule) = rule
broken_rule (brokens.Port rule slot) = rule
broken_rule (brokens.Answer wrong asked slot) = wrong.rule

-- a byte in hexadecimal, if it is among those that are shown
abbrev pub lane_text : Bool → ℕ → List ℕ
lane_text is_among byte = if is_among then hex 2 byte else []

-- the bytes of a list at the lanes from one on to before another, in hexadecimal
abbrev pub lanes_text : ℕ → ℕ → ℕ → List ℕ → List ℕ
lanes_text index low high [] = []
lanes_text index low high (byte ∷ bytes) =
    lane_text (nat_le low index && nat_lt index high) byte ++ lanes_text (index + 1) low high bytes

-- the bytes of a datum, in order of address
abbrev pub datum_text : Datum → List ℕ
datum_text d = lanes_text 0 d.lane (d.lane + d.len) (to_be_bytes w64 d.lines)

-- the bytes of a local access by its length
abbrev pub access_text : ℕ → ℕ → List ℕ
access_text len bytes = if len == 1 then hex 2 bytes else (if len == 2 then hex 4 bytes else hex 8 bytes)

-- the bytes that a board's memory was asked for
abbrev pub asked_text : Asked → List ℕ
asked_text (askeds.Datum d) = datum_text d
asked_text (askeds.Access a) = access_text a.len a.«data»

-- what is known of a byte
abbrev pub byte_text : Option ℕ → List ℕ
byte_text None = codes "--"
byte_text (Some byte) = hex 2 byte

-- what is known of a byte, if it is among those that are shown
abbrev pub among_text : Bool → Option ℕ → List ℕ
among_text is_among byte = if is_among then byte_text byte else []

-- what is known of the bytes before a place
abbrev pub bytes_text : ℕ → ℕ → List (Option ℕ) → List ℕ
bytes_text index end [] = []
bytes_text index end (byte ∷ bytes) = among_text (nat_lt index end) byte ++ bytes_text (index + 1) end bytes

-- what was known of the bytes of an access
abbrev pub known_text : Wrong → List ℕ
known_text w = bytes_text 0 w.len w.known

-- two slots that hold the bus
unfoldable pub two_holders_text : ℕ → ℕ → List ℕ
two_holders_text first second =
    codes "slots " ++ (decimal first ++ (codes " and " ++ (decimal second ++ codes " drive BBSY* at once")))

-- which slots hold the bus: the lowest two of those that drive BBSY*, if there are two
abbrev pub holders_text : ℕ → List ℕ
holders_text drivers =
    if bit_and drivers (drivers - 1) == 0 then text rules.TwoHolders
    else two_holders_text (trailing_zeros w32 drivers + 1) (trailing_zeros w32 (bit_and drivers (drivers - 1)) + 1)

-- the slots that drive BBSY* at the sample of a finding
abbrev pub drivers_of : Option (Sample × Sample) → ℕ
drivers_of None = 0
drivers_of (Some samples) = samples.1.drivers

-- the slot of a board that reads
unfoldable pub reader_text : ℕ → List ℕ
reader_text slot = codes "the board of slot " ++ decimal slot ++ codes " reads "

-- the offset of what a board reads
unfoldable pub offset_text : ℕ → List ℕ
offset_text offset = codes " at offset " ++ hex 8 offset

-- the bytes that the memory of a board has
unfoldable pub memory_text : Wrong → List ℕ
memory_text w = codes ", where its memory has " ++ known_text w

-- the bytes that the board of a slot reads, and those that its memory has
unfoldable pub reading_text : Wrong → Asked → ℕ → List ℕ
reading_text w asked slot = reader_text slot ++ asked_text asked ++ offset_text w.offset ++ memory_text w

-- what is wrong with an answer
abbrev pub answer_text : Wrong → Asked → Option ℕ → List ℕ
answer_text w asked None = text w.rule
answer_text w asked (Some slot) =
    if is_of_bytes w.rule then reading_text w asked slot else codes "slot " ++ decimal slot ++ codes ": " ++ text w.rule

-- the line that is undefined, if it is known
abbrev pub undefined_text : Option ControlLine → List ℕ
undefined_text None = text rules.Undefined
undefined_text (Some line) = control_name line ++ codes " is undefined"

-- what is wrong by the order of samples
abbrev pub order_text : Finding → Rule → List ℕ
order_text f rules.TwoHolders = holders_text (drivers_of f.samples)
order_text f rules.Undefined = undefined_text f.undefined
order_text f rule = text rule

-- what is wrong
abbrev pub title_text : Finding → Broken → List ℕ
title_text f (brokens.Order rule) = order_text f rule
title_text f (brokens.Port rule slot) = codes "slot " ++ decimal slot ++ codes ": " ++ text rule
title_text f (brokens.Answer wrong asked slot) = answer_text wrong asked slot

-- the levels of lines by the samples before the finding and at it, if it has them
abbrev pub samples_text : Rule → Option (Sample × Sample) → List ℕ
samples_text rule None = []
samples_text rule (Some samples) = level_lines rule samples.0 samples.1

-- the line of the bytes that a board reads
unfoldable pub read_line : Asked → List ℕ
read_line asked = codes "    data         " ++ asked_text asked ++ codes "\n"

-- the levels of a finding, or the bytes that a board reads
abbrev pub lines_text : Finding → Broken → List ℕ
lines_text f (brokens.Order rule) = samples_text rule f.samples
lines_text f (brokens.Port rule slot) = samples_text rule f.samples
lines_text f (brokens.Answer wrong asked slot) =
    if is_of_bytes wrong.rule then read_line asked else samples_text wrong.rule f.samples

-- the slot of a transfer, if it is known
abbrev pub slot_text : Option ℕ → List ℕ
slot_text None = []
slot_text (Some slot) = codes " of slot " ++ decimal slot

-- the time from which AS* is low, if it is known
abbrev pub since_text : Option ℕ → List ℕ
since_text None = []
since_text (Some since) = codes ", AS* low from " ++ decimal since

-- the address modifier and the address of a transfer
unfoldable pub address_text : ℕ → ℕ → List ℕ
address_text am address = codes "in the transfer with am=" ++ hex 2 am ++ codes " a=" ++ hex 8 address

-- the number of a datum within a transfer
unfoldable pub count_text : ℕ → List ℕ
count_text count = codes ", datum " ++ decimal count

-- the transfer in which a finding lies, if it lies in one
abbrev pub transfer_text : Option OpenTransfer → List ℕ
transfer_text None = codes "between transfers"
transfer_text (Some t) = address_text t.am t.address ++ slot_text t.slot ++ count_text t.«data» ++ since_text t.since

-- the time of a finding, if it is known
abbrev pub time_text : Option ℕ → List ℕ
time_text None = []
time_text (Some time) = codes "at time " ++ decimal time ++ codes ", "

-- the time and the transfer
abbrev pub place_text : Finding → List ℕ
place_text f = codes "    = " ++ time_text f.time ++ transfer_text f.transfer ++ codes "\n"

-- what is expected
unfoldable pub expected_text : Broken → List ℕ
expected_text (brokens.Order rule) = expected rule
expected_text (brokens.Port rule slot) = expected rule
expected_text (brokens.Answer wrong asked slot) =
    if is_of_bytes wrong.rule then known_text wrong else expected wrong.rule

-- the line of what is expected
unfoldable pub expected_line : Broken → List ℕ
expected_line broken = codes "    = expected: " ++ (expected_text broken ++ codes "\n")

-- the section of the standard, if it has the rule
abbrev pub section_text : Rule → List ℕ
section_text rule = if length (section rule) == 0 then [] else codes "    = IEEE 1014-1987, " ++ section rule ++ codes "\n"

-- the help for an answer, or nothing
abbrev pub answer_help : Rule → Option ℕ → List ℕ
answer_help rule None =
    if is_of_no_board rule then codes "if a board that FILE does not name answers there, add `--others`" else []
answer_help rule (Some slot) =
    if is_of_bytes rule then codes "if its local port may have written there, add `--open " ++ decimal slot ++ codes "`"
    else []

-- the help for a finding, or nothing
abbrev pub help_text : Broken → List ℕ
help_text (brokens.Order rule) = []
help_text (brokens.Port rule slot) = []
help_text (brokens.Answer wrong asked slot) = answer_help wrong.rule slot

-- the line of help, if there is help
abbrev pub help_line : List ℕ → List ℕ
help_line help = if length help == 0 then [] else codes "    = help: " ++ help ++ codes "\n"

-- the line that names the explanation of a number
unfoldable pub explain_code : ℕ → List ℕ
explain_code number = codes "    = help: `bendrika explain J" ++ decimal number ++ codes "` explains the rule\n"

-- the line that names the explanation of a rule
abbrev pub explain_line : Rule → List ℕ
explain_line rule = explain_code (code rule)

-- the first line of a message: the file, the line, what is wrong and the number of the rule
abbrev pub head_line : List ℕ → Finding → List ℕ
head_line name f =
    name ++ codes ":" ++ decimal f.line ++ codes ": error: " ++ title_text f f.broken ++ codes " [J"
    ++ decimal (code (broken_rule f.broken)) ++ codes "]\n"

-- what is expected, the section, and help
unfoldable pub notes : Broken → List ℕ
notes broken =
    expected_line broken ++ section_text (broken_rule broken) ++ help_line (help_text broken)
    ++ explain_line (broken_rule broken)

-- the text of a finding in a trace of this name
unfoldable pub message : List ℕ → Finding → List ℕ
message name f = head_line name f ++ lines_text f f.broken ++ place_text f ++ notes f.broken
