-- A finding, a rejection and a verdict as JSON objects of one line each. An absent part has no key.
use Rattle.std.specs.Prelude.{ℕ, Bool, true, false, ◌==◌, if◌then◌else◌, List, [], ◌∷◌, ◌++◌, codes, length, Option, Some, None}
use Rattle.std.specs.Fmt.{decimal}
use Rattle.std.specs.List.{join_by}
use Rattle.vme_explain.specs.Escapes.{escaped}
use Rattle.vme_protocol.specs.declared.rule.Rule.{Rule}
use Rattle.vme_protocol.specs.declared.sample.Sample.{Sample}
use Rattle.vme_protocol.specs.Rules.{code, section}
use Rattle.vme_judge.specs.declared.counts.Counts.{Counts}
use Rattle.vme_judge.specs.declared.finding.Broken.{Broken}
use Rattle.vme_judge.specs.declared.finding.Finding.{Finding}
use Rattle.vme_judge.specs.declared.shown.Shown.{Shown}
use Rattle.vme_judge.specs.declared.transfer.OpenTransfer.{OpenTransfer}
use Rattle.vme_judge.specs.Levels.{hex, levels_text, name_of, shown_lines}
use Rattle.vme_judge.specs.Messages.{broken_rule, expected_text, help_text, title_text}

-- a text in quotes
unfoldable pub quoted : List ℕ → List ℕ
quoted text = codes "\"" ++ escaped text ++ codes "\""

-- a further key
unfoldable pub key_json : List ℕ → List ℕ
key_json key = codes ",\"" ++ key ++ codes "\":"

-- a further key and a number
unfoldable pub number_json : List ℕ → ℕ → List ℕ
number_json key number = key_json key ++ decimal number

-- a further key and a text
unfoldable pub field_json : List ℕ → List ℕ → List ℕ
field_json key text = key_json key ++ quoted text

-- a further key and a text, if it is not empty
abbrev pub field_unless_empty : List ℕ → List ℕ → List ℕ
field_unless_empty key text = if length text == 0 then [] else field_json key text

-- a further key and a number, if it is known
abbrev pub number_if_known : List ℕ → Option ℕ → List ℕ
number_if_known key None = []
number_if_known key (Some number) = number_json key number

-- the name of the file
unfoldable pub file_json : List ℕ → List ℕ
file_json name = codes "{\"file\":" ++ quoted name

-- the number of a rule, after the severity
unfoldable pub code_json : ℕ → List ℕ
code_json number = codes ",\"severity\":\"error\",\"code\":\"J" ++ decimal number ++ codes "\""

-- lines: their name, and their levels before a sample and at it
unfoldable pub line_json : Sample → Sample → Shown → List ℕ
line_json before after shown =
    codes "{\"name\":\"" ++ name_of shown ++ codes "\",\"before\":\"" ++ levels_text shown before ++ codes "\",\"after\":\""
    ++ levels_text shown after ++ codes "\"}"

-- a comma, except before the first one
abbrev pub comma : Bool → List ℕ
comma is_first = if is_first then [] else codes ","

-- the lines that are shown, with a comma before each but the first
abbrev pub lines_json : Sample → Sample → Bool → List (Option Shown) → List ℕ
lines_json before after is_first [] = []
lines_json before after is_first (None ∷ lines) = lines_json before after is_first lines
lines_json before after is_first (Some shown ∷ lines) =
    comma is_first ++ line_json before after shown ++ lines_json before after false lines

-- the levels of lines by the samples before the finding and at it, if it has them
abbrev pub levels_json : Rule → Option (Sample × Sample) → List ℕ
levels_json rule None = []
levels_json rule (Some samples) =
    codes ",\"lines\":[" ++ lines_json samples.0 samples.1 true (shown_lines rule samples.0 samples.1) ++ codes "]"

-- the address modifier of a transfer
unfoldable pub modifier_json : ℕ → List ℕ
modifier_json am = codes ",\"transfer\":{\"am\":\"" ++ hex 2 am ++ codes "\""

-- the address of a transfer
unfoldable pub address_json : ℕ → List ℕ
address_json address = key_json (codes "address") ++ codes "\"" ++ hex 8 address ++ codes "\""

-- the transfer in which a finding lies, if it lies in one
abbrev pub transfer_json : Option OpenTransfer → List ℕ
transfer_json None = []
transfer_json (Some t) =
    modifier_json t.am ++ address_json t.address ++ number_json (codes "datum") t.«data»
    ++ number_if_known (codes "slot") t.slot ++ number_if_known (codes "since") t.since ++ codes "}"

-- where a finding is, and what is wrong
unfoldable pub head_json : List ℕ → Finding → List ℕ
head_json name f =
    file_json name ++ number_json (codes "line") f.line ++ code_json (code (broken_rule f.broken))
    ++ field_json (codes "message") (title_text f f.broken)

-- the time, the levels and the transfer
unfoldable pub place_json : Finding → List ℕ
place_json f =
    number_if_known (codes "time") f.time ++ levels_json (broken_rule f.broken) f.samples ++ transfer_json f.transfer

-- what is expected, the section of the standard, and help
unfoldable pub notes_json : Broken → List ℕ
notes_json broken =
    field_json (codes "expected") (expected_text broken)
    ++ field_unless_empty (codes "section") (section (broken_rule broken))
    ++ field_unless_empty (codes "help") (help_text broken)

-- a finding in a trace of this name
unfoldable pub finding_json : List ℕ → Finding → List ℕ
finding_json name f = head_json name f ++ place_json f ++ notes_json f.broken ++ codes "}\n"

-- why a text with a name is no trace
unfoldable pub rejection_json : List ℕ → Option ℕ → List ℕ → List ℕ
rejection_json name line text =
    file_json name ++ number_if_known (codes "line") line ++ codes ",\"severity\":\"error\""
    ++ field_json (codes "message") text ++ codes "}\n"

-- what was seen of a trace
unfoldable pub counts_json : Counts → List ℕ
counts_json c =
    number_json (codes "transfers") c.transfers ++ number_json (codes "handshakes") c.«data»
    ++ number_json (codes "tenures") c.tenures ++ number_json (codes "local_accesses") c.accesses
    ++ number_json (codes "samples") c.samples ++ number_json (codes "skipped") c.skipped

-- whether a dump ends within a transfer
unfoldable pub within_json : Bool → List ℕ
within_json is_within = key_json (codes "ends_within") ++ (if is_within then codes "true" else codes "false")

-- a further key and a list of texts
unfoldable pub texts_json : List ℕ → List (List ℕ) → List ℕ
texts_json key texts = key_json key ++ codes "[" ++ join_by quoted (codes ",") texts ++ codes "]"

-- the word for a verdict
unfoldable pub word_json : List ℕ → List ℕ
word_json verdict = codes "{\"verdict\":\"" ++ verdict ++ codes "\""

-- a verdict
unfoldable pub verdict_json : List ℕ → Counts → Bool → List (List ℕ) → List (List ℕ) → List ℕ
verdict_json verdict c is_within absent assumed =
    word_json verdict ++ counts_json c ++ within_json is_within ++ texts_json (codes "absent") absent
    ++ texts_json (codes "assumed") assumed ++ codes "}\n"
