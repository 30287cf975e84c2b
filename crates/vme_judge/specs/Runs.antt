-- A log that is judged while it is read.
use Rattle.std.specs.Prelude.{◌≡◌, ℕ, Bool, true, false, not, ◌==◌, ◌&&◌, if◌then◌else◌, List, [], ◌∷◌, ◌++◌, Option, Some, None, Result, is_some}
use Rattle.vme_bus_log.specs.declared.entry.LogEntry.{LogEntry}
use Rattle.vme_bus_log.specs.Faults.{Fault, reported}
use Rattle.vme_bus_log.specs.Texts.{log_says}
use Rattle.vme_judge.specs.declared.run.Kind.{Kind}
use Rattle.vme_judge.specs.declared.run.Kind.TheVariants as kinds
use Rattle.vme_judge.specs.declared.run.Run.{Run}
use Rattle.vme_judge.specs.Standing.{standing, stands}
use Rattle.vme_judge.specs.declared.rejection.Rejection.{Rejection}
use Rattle.vme_judge.specs.declared.rejection.Why.{Why}
use Rattle.vme_judge.specs.declared.rejection.Why.TheVariants as whys
use Rattle.vme_judge.specs.Logs.{Cause, NoLine, Break, NoDump, Other, LogSoFar, so_far, log_taken, next_taken}
use Rattle.vme_judge.specs.Verdicts.{is_space}

-- the form of a trace after some bytes: by the first one that is no blank
abbrev pub form_after : Kind → List ℕ → Kind
form_after kinds.Dump text = kinds.Dump
form_after kinds.Log text = kinds.Log
form_after kinds.Unknown [] = kinds.Unknown
form_after kinds.Unknown (b ∷ text) =
    if is_space b then form_after kinds.Unknown text else (if b == 36 then kinds.Dump else kinds.Log)

-- whether a trace is no dump, as far as it goes
abbrev pub is_no_dump : Kind → Bool
is_no_dump kinds.Dump = false
is_no_dump kinds.Log = true
is_no_dump kinds.Unknown = true

-- why a line of a text is rejected
abbrev pub cause_by : Why → Option ℕ → Cause
cause_by (whys.Log fault) (Some line) = NoLine line (reported fault)
cause_by (whys.Break why) (Some line) = Break line why
cause_by (whys.Dump fault) (Some line) = NoDump line fault
cause_by why line = Other

-- why a text is rejected, if it is
abbrev pub cause_of : Option Rejection → Cause
cause_of None = Other
cause_of (Some r) = cause_by r.why r.line

-- a log as far as a run has judged it
unfoldable pub run_so_far : Run → LogSoFar
run_so_far r = so_far (is_some r.rejection) (cause_of r.rejection) (standing r.judge) r.state.last

-- the whole log, if this text of it is left to read
abbrev pub log_whole : Run → List ℕ → LogSoFar
log_whole r rest = log_taken (run_so_far r) r.log.number (log_says (r.log.line ++ rest))

-- whether a run has rejected nothing, and found nothing after which it stops
abbrev pub is_going : Run → Bool
is_going r = not (is_some r.rejection) && stands (standing r.judge)

-- a run goes on
abbrev pub IsGoing : Run → Type 0
IsGoing r = is_going r ≡ true

-- a run has judged these bytes of a log
abbrev pub Judges : Run → Run → List ℕ → Type 0
Judges old new bytes = (rest : List ℕ) → log_whole old (bytes ++ rest) ≡ log_whole new rest

-- a run has judged the line of a log with a number
abbrev pub TakesLine : Run → Run → ℕ → Result LogEntry Fault → Type 0
TakesLine old new line says = run_so_far new ≡ next_taken (run_so_far old) line says

-- a run has judged bytes of a log, whose form is known then
abbrev pub TakesLog : Run → Run → List ℕ → Type 0
TakesLog old new bytes = (new.kind ≡ form_after old.kind bytes) × Judges old new bytes

-- the readers, the datum before, the local ports and the form of the trace stay
abbrev pub KeepsReader : Run → Run → Type 0
KeepsReader old new =
    (new.log ≡ old.log) × (new.state ≡ old.state) × (new.kind ≡ old.kind) × (new.vcd ≡ old.vcd) × (new.ports ≡ old.ports)
