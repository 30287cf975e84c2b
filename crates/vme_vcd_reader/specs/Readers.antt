-- How a reader remembers a dump.
use Rattle.std.specs.Prelude.{◌≡◌, ℕ, true, false, if◌then◌else◌, List, [], ◌∷◌, ◌++◌, ◌<◌, ◌⊎◌, length, Option, Some, None, Result, Ok, Err}
use Rattle.vme_line_map.specs.Variables.{Map}
use Rattle.vme_vcd_reader.specs.declared.reader.Step.{Step}
use Rattle.vme_vcd_reader.specs.declared.reader.Step.TheVariants as steps
use Rattle.vme_vcd_reader.specs.declared.reader.VcdReader.{VcdReader}
use Rattle.vme_vcd_reader.specs.declared.table.Row.{Row}
use Rattle.vme_vcd_reader.specs.Bodies.{Moment, Reading, Shown}
use Rattle.vme_vcd_reader.specs.Headers.{Heading, Outcome, Goes, Declares, Ends, Rejects}
use Rattle.vme_vcd_reader.specs.declared.fault.VcdFault.{VcdFault}
use Rattle.vme_vcd_reader.specs.declared.fault.VcdFault.TheVariants as faults
use Rattle.vme_vcd_reader.specs.declared.variable.Mapped.{Mapped}
use Rattle.vme_vcd_reader.specs.Faults.{byte_flaw, time_flaw}
use Rattle.vme_vcd_reader.specs.Found.{IsMapFault, IsMatching}
use Rattle.vme_vcd_reader.specs.Mapping.{Declaration, declaration}
use Rattle.vme_vcd_reader.specs.Matches.{lines_of}
use Rattle.vme_vcd_reader.specs.Presences.{presence_of}
use Rattle.vme_vcd_reader.specs.Headings.{IsHeading}
use Rattle.vme_vcd_reader.specs.Lines.{bytes_taken, list_of}
use Rattle.vme_vcd_reader.specs.Openings.{opening_of, resting}
use Rattle.vme_vcd_reader.specs.Places.{IsAt}
use Rattle.vme_vcd_reader.specs.Ports.{without_changes}
use Rattle.vme_vcd_reader.specs.Samples.{Samples, Sample, End, Broken, samples_of}
use Rattle.vme_vcd_reader.specs.Tables.{IsLinked, variables_of}
use Rattle.vme_vcd_reader.specs.Words.{Statement}

-- the variables that a reader has mapped
abbrev pub rows_of : VcdReader → List Row
rows_of v = v.table.rows.items

-- the time whose changes are read
abbrev pub time_of : VcdReader → Option Moment
time_of v = if v.is_begun then Some (record { time = v.time; line = v.time_line }) else None

-- a reader has read the header, and a body as far
pub record IsReading (r : Reading) (v : VcdReader) : Type 0 where
  pub entered : v.is_body ≡ true
  pub body : IsAt r.awaited r.word v.body
  pub table : IsLinked v.table.rows.items v.table.heads.items
  pub lines : v.bus ≡ r.lines
  pub time : r.time ≡ time_of v
  pub changed : r.changed ≡ v.is_changed
  pub line : v.line ≡ r.line

-- a reader has read part of the header at most: nothing of a body, and no variable is mapped
pub record IsBefore (v : VcdReader) : Type 0 where
  pub entered : v.is_body ≡ false
  pub body : IsAt Statement [] v.body
  pub rows : v.table.rows.items ≡ []
  pub heads : v.table.heads.items ≡ []
  pub lines : v.bus ≡ resting
  pub time : v.is_begun ≡ false
  pub changed : v.is_changed ≡ true

-- a reader goes on with the header, or has read it whole, and its body begins
abbrev pub Enters : Step → VcdReader → Type 0
Enters steps.More v = IsBefore v
Enters steps.Header v = IsReading (opening_of v.presence.busy v.line) v
Enters steps.Sample v = ⊥

-- a reader with a map has read a header as far, which has declared these variables
pub record IsHeader (map : Map) (h : Heading) (ds : List Declaration) (v : VcdReader) : Type 0 where
  pub before : IsBefore v
  pub same : v.map.now ≡ map
  pub heading : IsHeading h v.header
  pub matching : IsMatching map ds v.matching

-- a reader begins with the body of a dump that has these lines; with none if they are not read
abbrev pub EntersBody : Result (List (ℕ × Mapped)) VcdFault → VcdReader → Type 0
EntersBody (Ok lines) v =
    (variables_of (rows_of v) ≡ lines) × (v.presence ≡ presence_of lines)
    × IsReading (opening_of (presence_of lines).busy v.line) v
EntersBody (Err fault) v = ⊥

-- a reader has taken a byte of a header that has declared these variables: it goes on with the header, or has read it whole
abbrev pub TakesHeading : Map → Outcome → List Declaration → Step → VcdReader → Type 0
TakesHeading map (Goes h) ds step v = (step ≡ steps.More) × IsHeader map h ds v
TakesHeading map (Declares h) ds step v = (step ≡ steps.More) × IsHeader map h (ds ++ declaration h ∷ []) v
TakesHeading map Ends ds step v = (step ≡ steps.Header) × EntersBody (lines_of map ds) v
TakesHeading map (Rejects fault) ds step v = ⊥

-- why a reader does not take a byte of a header: no dump has it there, its variables are not the wanted ones, or an
-- allocation failed
abbrev pub IsHeadingFault : Outcome → Result (List (ℕ × Mapped)) VcdFault → VcdFault → Type 0
IsHeadingFault (Rejects why) lines fault = fault ≡ why
IsHeadingFault Ends lines fault = IsMapFault lines fault
IsHeadingFault outcome lines fault = fault ≡ faults.Memory

-- why a reader does not end a text in its header: an allocation failed, or this is why
abbrev pub IsEndFault : Option VcdFault → VcdFault → Type 0
IsEndFault why fault = (fault ≡ faults.Memory) ⊎ (why ≡ Some fault)

-- a reader reports a sample, or none
abbrev pub ReportsSample : Option Shown → Step → VcdReader → Type 0
ReportsSample None step v = step ≡ steps.More
ReportsSample (Some shown) step v =
    (step ≡ steps.Sample) × (v.sample_time ≡ shown.time) × (v.bus ≡ shown.lines) × (v.sample_is_changed ≡ shown.changed)
    × (v.sample_ports ≡ shown.ports) × (v.sample_line ≡ shown.line)

-- a reader has taken what was read, and reports the sample that it completes
abbrev pub TakesRead : Option (Reading × Option Shown) → Step → VcdReader → Type 0
TakesRead None step v = ⊥
TakesRead (Some taken) step v = IsReading taken.0 v × ReportsSample taken.1 step v

-- a reader has taken a line at the start of a text, with the same result as if it had taken its bytes: after it stands the
-- rest of the text
pub record TakesLine (rows : List Row) (r : Reading) (text rest : List ℕ) (step : Step) (v : VcdReader) : Type 0 where
  pub line : List ℕ
  pub text_is : text ≡ line ++ rest
  pub some : 0 < length line
  pub after : Reading
  pub shown : Option Shown
  pub taken : bytes_taken rows r line ≡ Some (after, list_of shown)
  pub reading : IsReading after v
  pub reports : ReportsSample shown step v

-- no body goes on with a byte, whatever follows: why not is known
abbrev pub IsBroken : List Row → Reading → ℕ → Type 0
IsBroken rows r b = (rest : List ℕ) → samples_of rows r (b ∷ rest) ≡ Broken (byte_flaw r b)

-- no body goes on with a text, whatever follows, since its time falls, and it has no further sample
abbrev pub IsBrokenText : List Row → Reading → List ℕ → Type 0
IsBrokenText rows r text = (rest : List ℕ) → samples_of rows r (text ++ rest) ≡ Broken (time_flaw r.line)

-- the sample of the time whose changes are read
abbrev pub shown_last : VcdReader → Shown
shown_last v = record {
  time = v.time;
  line = v.time_line;
  lines = without_changes v.bus;
  changed = v.is_changed;
  ports = v.bus.changed_ports;
}

-- the samples that are left at the end of a text: that of the time whose changes are read
abbrev pub samples_left : VcdReader → Samples
samples_left v = if v.is_begun then Sample (shown_last v) End else End

-- a reader reports the first of the last samples of a text, if there is one, and has the others left
abbrev pub ReportsLast : Samples → Step → VcdReader → Type 0
ReportsLast (Broken flaw) step v = ⊥
ReportsLast End step v = (step ≡ steps.More) × (samples_left v ≡ End)
ReportsLast (Sample shown samples) step v = ReportsSample (Some shown) step v × (samples_left v ≡ samples)
