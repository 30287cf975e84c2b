-- A dump that is judged while it is read.
use Rattle.std.specs.Prelude.{◌≡◌, ℕ, Bool, true, false, List, [], ◌++◌, Option, Some, None, is_some, ⊤}
use Rattle.vme_line_map.specs.Variables.{Map}
use Rattle.vme_protocol.specs.declared.port.Port.{Port}
use Rattle.vme_vcd_reader.specs.declared.reader.VcdReader.{VcdReader}
use Rattle.vme_vcd_reader.specs.Bodies.{Reading, Shown}
use Rattle.vme_vcd_reader.specs.Headers.{Heading, Goes}
use Rattle.vme_vcd_reader.specs.Mapping.{Declaration}
use Rattle.vme_vcd_reader.specs.Readers.{IsHeader, IsReading, rows_of}
use Rattle.vme_vcd_reader.specs.Samples.{Samples, samples_of}
use Rattle.vme_judge.specs.declared.judge.Judge.{Judge}
use Rattle.vme_judge.specs.declared.run.Kind.TheVariants as kinds
use Rattle.vme_judge.specs.declared.run.Run.{Run}
use Rattle.vme_judge.specs.Dumps.{DumpSoFar, Broken, dump_by, dump_taken, next_shown, with_presence}
use Rattle.vme_judge.specs.DumpTexts.{header_judged}
use Rattle.vme_judge.specs.Logs.{Cause}
use Rattle.vme_judge.specs.Runs.{cause_of}
use Rattle.vme_judge.specs.Standing.{Course, Standing, course_map, course_then, remembered, standing, stands}

-- a judgement of a trace that stands has taken something of it
pub record Takes (old new : Judge) (taken : Standing → Course) (goes_on : Bool) : Type 0 where
  pub judged : standing new ≡ course_then taken (standing old)
  pub goes : goes_on ≡ stands (standing new)

-- the sample that a reader has completed
abbrev pub shown_by : VcdReader → Shown
shown_by v = record {
  time = v.sample_time;
  line = v.sample_line;
  lines = v.bus;
  changed = v.sample_is_changed;
  ports = v.sample_ports;
}

-- a judgement of a trace that stands, and what is remembered of local ports, have taken a sample
pub record TakesShown (old new : Judge) (last next : List (Option Port)) (shown : Shown) (goes_on : Bool) : Type 0 where
  pub dump : dump_by (standing new) next ≡ next_shown shown (dump_by (standing old) last)
  pub goes : goes_on ≡ stands (standing new)

-- a dump by whether it is rejected, and why, its course and what is remembered of its local ports
abbrev pub dump_at : Bool → Cause → Course → List (Option Port) → DumpSoFar
dump_at true cause c ports = Broken cause (remembered c)
dump_at false cause c ports = dump_by c ports

-- a dump as far as a run has judged it
abbrev pub dump_so_far : Run → DumpSoFar
dump_so_far r = dump_at (is_some r.rejection) (cause_of r.rejection) (standing r.judge) r.ports.last

-- the whole dump, if this text of its body is left to read
abbrev pub dump_whole : Run → Reading → List ℕ → DumpSoFar
dump_whole run r rest = dump_taken (dump_so_far run) (samples_of (rows_of run.vcd) r rest)

-- a dump as far as it is read: its header, which has declared variables, or its body
pub data Reached : Type 0 where
  InHeader : Heading → List Declaration → Reached
  InBody : Reading → Reached

-- a reader with a map has read a dump as far
abbrev pub HasReached : Map → Reached → VcdReader → Type 0
HasReached map (InHeader h ds) v = IsHeader map h ds v
HasReached map (InBody r) v = IsReading r v

-- the whole dump, if this text is left to read
abbrev pub text_whole : Map → Run → Reached → List ℕ → DumpSoFar
text_whole map run (InHeader h ds) rest =
    header_judged map (dump_so_far run) ds (Goes h) run.vcd.line run.vcd.line rest
text_whole map run (InBody r) rest = dump_whole run r rest

-- a run that is within the header of a dump has judged nothing of it
abbrev pub IsUnjudged : DumpSoFar → Reached → Run → Type 0
IsUnjudged d (InHeader h ds) run = dump_so_far run ≡ d
IsUnjudged d (InBody r) run = ⊤

-- a run has judged these bytes of a dump, and reads on
pub record ReadsOn (map : Map) (old new : Run) (reached : Reached) (bytes : List ℕ) : Type 0 where
  pub after : Reached
  pub reading : HasReached map after new.vcd
  pub unjudged : (d : DumpSoFar) → IsUnjudged d reached old → IsUnjudged d after new
  pub judges : (rest : List ℕ) → text_whole map old reached (bytes ++ rest) ≡ text_whole map new after rest

-- a run has taken bytes of a dump: it reads on, or has judged the whole dump, whatever follows
pub record TakesDump (map : Map) (old new : Run) (reached : Reached) (bytes : List ℕ) (goes_on : Bool) : Type 0 where
  pub reads : goes_on ≡ true → ReadsOn map old new reached bytes
  pub stops : goes_on ≡ false → (rest : List ℕ) → text_whole map old reached (bytes ++ rest) ≡ dump_so_far new

-- a dump after the sample that a step completes, if it does
abbrev pub next_if : Option Shown → DumpSoFar → DumpSoFar
next_if None d = d
next_if (Some s) d = next_shown s d

-- a run has taken the sample that its reader reports, if there is one
abbrev pub TakesNext : Run → Run → Option Shown → Type 0
TakesNext old new shown = (dump_so_far new ≡ next_if shown (dump_so_far old)) × (new.vcd ≡ old.vcd)

-- a run begins with the body of a dump: the header says which lines the dump has
pub record BeginsBody (old new : Run) : Type 0 where
  pub judged : standing new.judge ≡ course_map (with_presence old.vcd.presence) (standing old.judge)
  pub reader : new.vcd ≡ old.vcd
  pub ports : new.ports ≡ old.ports
  pub rejection : new.rejection ≡ old.rejection

-- a run has taken the last samples
abbrev pub TakesLast : Run → Run → Samples → Type 0
TakesLast old new samples = dump_so_far new ≡ dump_taken (dump_so_far old) samples

-- a run has judged a dump that ends here
abbrev pub EndsDump : Map → Run → Run → Reached → Type 0
EndsDump map old new reached = text_whole map old reached [] ≡ dump_so_far new

-- a run has taken bytes of a dump, whose form is known
abbrev pub TakesPiece : Map → Run → Run → Reached → List ℕ → Bool → Type 0
TakesPiece map old new reached bytes goes_on = (new.kind ≡ kinds.Dump) × TakesDump map old new reached bytes goes_on
