-- Why a text is not judged, as text.
use Rattle.std.specs.Prelude.{ℕ, Bool, if◌then◌else◌, List, [], ◌++◌, codes, slice_get, Option, Some, None}
use Rattle.std.specs.Fmt.{decimal}
use Rattle.std.specs.Str.{is_utf8}
use Rattle.vme_bus_log.specs.FaultTexts as logs
use Rattle.vme_line_map.specs.Groups.{name}
use Rattle.vme_line_map.specs.Variables.{Map, Variable}
use Rattle.vme_vcd_reader.specs.FaultTexts.{fault_text, wanted_of}
use Rattle.vme_judge.specs.declared.log.LogBreak.{LogBreak}
use Rattle.vme_judge.specs.declared.log.LogBreak.TheVariants as breaks
use Rattle.vme_judge.specs.declared.rejection.Rejection.{Rejection}
use Rattle.vme_judge.specs.declared.rejection.Why.{Why}
use Rattle.vme_judge.specs.declared.rejection.Why.TheVariants as whys
use Rattle.vme_judge.specs.JsonTexts.{rejection_json}

-- the name of a variable, if it is text
abbrev pub variable_name : List ℕ → List ℕ
variable_name bytes = if is_utf8 bytes then bytes else codes "?"

-- the name of a variable and its lines, if the map has the variable
abbrev pub variable_text : Option Variable → List ℕ
variable_text None = []
variable_text (Some v) = codes ": `" ++ variable_name v.name ++ codes "` (" ++ name v.group ++ codes ")"

-- the variable of a map that is wanted and not there, if it is one
abbrev pub wanted_text : Map → Option ℕ → List ℕ
wanted_text map None = []
wanted_text map (Some index) = variable_text (slice_get map.variables index)

-- why a line of a log does not go on from the line before
abbrev pub break_text : LogBreak → List ℕ
break_text breaks.Number = codes "`n=` is neither 0 nor the number of data before it"
break_text breaks.Address = codes "`am=` and `a=` are not those of the transfer's first datum"

-- why a text is not judged
abbrev pub why_text : Map → Why → List ℕ
why_text map (whys.Dump fault) = fault_text fault ++ wanted_text map (wanted_of fault)
why_text map (whys.Log fault) = logs.fault_text fault
why_text map (whys.Break broken) = break_text broken
why_text map whys.Nothing = codes "no handshake and no local access: nothing is judged"

-- the number of a line after the name of a file, if it is known
abbrev pub line_text : Option ℕ → List ℕ
line_text None = []
line_text (Some line) = codes ":" ++ decimal line

-- why a text with a name is not judged
unfoldable pub rejection_text : List ℕ → Map → Rejection → List ℕ
rejection_text file map r = file ++ line_text r.line ++ codes ": error: " ++ why_text map r.why ++ codes "\n"

-- the same as text or JSON
abbrev pub rejected_text : Bool → List ℕ → Map → Rejection → List ℕ
rejected_text json file map r =
    if json then rejection_json file r.line (why_text map r.why) else rejection_text file map r
