-- The blanks before a trace, which are lines of a log and nothing of a dump.
use Rattle.std.specs.Prelude.{◌≡◌, ℕ, Bool, true, false, if◌then◌else◌, List, [], ◌∷◌, ◌++◌, length, Some, is_some}
use Rattle.vme_line_map.specs.Variables.{Map}
use Rattle.vme_bus_log.specs.Faults.{TooLong}
use Rattle.vme_bus_log.specs.Texts.{EndsNoLine, Reading, SaysAs}
use Rattle.vme_vcd_reader.specs.declared.reader.VcdReader.{VcdReader}
use Rattle.vme_vcd_reader.specs.Bodies.{line_after}
use Rattle.vme_vcd_reader.specs.Headers.{beginning}
use Rattle.vme_vcd_reader.specs.Readers.{IsHeader}
use Rattle.vme_judge.specs.declared.run.Kind.TheVariants as kinds
use Rattle.vme_judge.specs.declared.run.Run.{Run}
use Rattle.vme_judge.specs.DumpRuns.{InHeader, HasReached, IsUnjudged, Reached, dump_so_far, text_whole}
use Rattle.vme_judge.specs.Dumps.{DumpSoFar}
use Rattle.vme_judge.specs.DumpTexts.{after_blanks, long_blanks}
use Rattle.vme_judge.specs.Logs.{NoLine}
use Rattle.vme_judge.specs.Runs.{cause_of, form_after}

-- all bytes are blanks: the form of a trace that begins with them is not known yet
abbrev pub AreBlanks : List ℕ → Type 0
AreBlanks bytes = form_after kinds.Unknown bytes ≡ kinds.Unknown

-- a reader of lines has read blanks of a line
pub record IsBlankLine (line : List ℕ) (read : Reading) : Type 0 where
  pub blanks : AreBlanks line
  pub within : EndsNoLine line
  pub begin : SaysAs line read.line

-- a run has read blanks, and what it remembers of lines says whether one is too long
pub record ReadsBlanks (line : List ℕ) (old new : Run) (bytes : List ℕ) : Type 0 where
  pub rejection : new.rejection ≡ old.rejection
  pub after : List ℕ
  pub begin : IsBlankLine after new.log
  pub lines : (rest : List ℕ)
      → long_blanks (length line) old.log.number (bytes ++ rest) ≡ long_blanks (length after) new.log.number rest

-- a run has rejected blanks, unless it has rejected its text before: a line of them is too long
pub record RejectsBlanks (line : List ℕ) (old new : Run) (bytes : List ℕ) : Type 0 where
  pub rejected : is_some new.rejection ≡ true
  pub number : ℕ
  pub cause : cause_of new.rejection ≡ (if is_some old.rejection then cause_of old.rejection else NoLine number TooLong)
  pub lines : (rest : List ℕ) → long_blanks (length line) old.log.number (bytes ++ rest) ≡ Some number

-- a run has taken blanks after those of a line: it reads on, or has rejected them
pub record TakesBlanks (line : List ℕ) (old new : Run) (bytes : List ℕ) (goes_on : Bool) : Type 0 where
  pub judge : new.judge ≡ old.judge
  pub ports : new.ports ≡ old.ports
  pub reads : goes_on ≡ true → ReadsBlanks line old new bytes
  pub stops : goes_on ≡ false → RejectsBlanks line old new bytes

-- a reader is before the first byte of a dump
abbrev pub IsAtStart : Map → VcdReader → Type 0
IsAtStart map v = IsHeader map beginning [] v × (v.line ≡ 1)

-- the number of the line after bytes
abbrev pub line_past : List ℕ → ℕ → ℕ
line_past [] line = line
line_past (b ∷ bytes) line = line_past bytes (line_after b line)

-- a run is before the first byte of a trace that is no blank
pub record IsBlankSoFar (map : Map) (line : List ℕ) (run : Run) : Type 0 where
  pub reader : IsHeader map beginning [] run.vcd
  pub begin : IsBlankLine line run.log

-- a run has skipped blanks after those of a line
pub record SkipsBlanks (map : Map) (line : List ℕ) (old new : Run) (bytes : List ℕ) (goes_on : Bool) : Type 0 where
  pub reader : IsHeader map beginning [] new.vcd
  pub counts : new.vcd.line ≡ line_past bytes old.vcd.line
  pub takes : TakesBlanks line old new bytes goes_on

-- the whole dump, if blanks of a line are read and this text is left
abbrev pub blanks_whole : Map → List ℕ → Run → List ℕ → DumpSoFar
blanks_whole map line run rest =
    after_blanks (long_blanks (length line) run.log.number rest) (dump_so_far run)
    (text_whole map run (InHeader beginning []) rest)

-- a run has judged the first bytes of a dump, after blanks of a line, and reads on
pub record ReadsFirst (map : Map) (line : List ℕ) (old new : Run) (bytes : List ℕ) : Type 0 where
  pub after : Reached
  pub reading : HasReached map after new.vcd
  pub unjudged : (d : DumpSoFar) → dump_so_far old ≡ d → IsUnjudged d after new
  pub judges : (rest : List ℕ) → blanks_whole map line old (bytes ++ rest) ≡ text_whole map new after rest

-- a run has taken the first bytes of a dump, after blanks of a line
pub record BeginsDump (map : Map) (line : List ℕ) (old new : Run) (bytes : List ℕ) (goes_on : Bool) : Type 0 where
  pub reads : goes_on ≡ true → ReadsFirst map line old new bytes
  pub stops : goes_on ≡ false → (rest : List ℕ) → blanks_whole map line old (bytes ++ rest) ≡ dump_so_far new

-- a run whose trace had blanks alone has taken bytes of a dump, whose form is known then
abbrev pub TakesFirst : Map → List ℕ → Run → Run → List ℕ → Bool → Type 0
TakesFirst map line old new bytes goes_on = (new.kind ≡ kinds.Dump) × BeginsDump map line old new bytes goes_on

-- a run whose trace had blanks alone has taken further ones
abbrev pub TakesFurther : Map → List ℕ → Run → Run → List ℕ → Bool → Type 0
TakesFurther map line old new bytes goes_on = (new.kind ≡ kinds.Unknown) × SkipsBlanks map line old new bytes goes_on
