-- What is written of a trace, by its text.
use Rattle.std.specs.Prelude.{◌≡◌, ℕ, Bool, if◌then◌else◌, List, [], ◌++◌, Option, Some, None, IsSome, is_some}
use Rattle.std.specs.Io.KnownBytes.{Appends}
use Rattle.vme_bus_log.specs.declared.fault.LogFault.{LogFault}
use Rattle.vme_bus_log.specs.Faults.{reported}
use Rattle.vme_line_map.specs.Variables.{Map}
use Rattle.vme_vcd_reader.specs.declared.presence.Presence.{Presence}
use Rattle.vme_vcd_reader.specs.Presences.{no_lines}
use Rattle.vme_judge.specs.declared.boards.Board.{Board}
use Rattle.vme_judge.specs.declared.finding.Finding.{Finding}
use Rattle.vme_judge.specs.declared.options.Options.{Options}
use Rattle.vme_judge.specs.declared.rejection.Why.TheVariants as whys
use Rattle.vme_judge.specs.declared.run.Kind.{Kind}
use Rattle.vme_judge.specs.declared.run.Kind.TheVariants as kinds
use Rattle.vme_judge.specs.Dumps.{DumpSoFar, dump_says_before}
use Rattle.vme_judge.specs.Dumps as dumps
use Rattle.vme_judge.specs.DumpTexts.{dump_of}
use Rattle.vme_judge.specs.Logs.{Cause, NoLine, Break, NoDump, Other, LogSoFar, log_says_before}
use Rattle.vme_judge.specs.Logs as logs
use Rattle.vme_judge.specs.Standing.{Standing}
use Rattle.vme_judge.specs.Verdicts.{log_of}
use Rattle.vme_judge.specs.VerdictTexts.{Ending, verdict_text}

-- a text, unless nothing is to be printed
abbrev pub unless : Bool → List ℕ → List ℕ
unless quiet text = if quiet then [] else text

-- the text of a verdict, unless nothing is to be printed
abbrev pub verdict_printed : Options → Map → List Board → Ending → List ℕ
verdict_printed o map boards e = unless o.quiet (verdict_text o map boards e)

-- the end of a trace that is not rejected: its form, the lines that a dump has, the last finding, if the limit is reached with it,
-- and what is remembered
abbrev pub judged_ending : Kind → Presence → Option Finding → Standing → Ending
judged_ending kind presence finding m = record {
  kind = kind;
  presence = presence;
  rejection = None;
  finding = finding;
  found = m.found;
  counts = m.counts;
  is_within = is_some m.transfer;
}

-- a text is rejected for a cause
abbrev pub IsRejectedFor : Cause → Ending → Type 0
IsRejectedFor (NoLine line wrong) e =
    (fault : LogFault) × (reported fault ≡ wrong) × (e.rejection ≡ Some (record { why = whys.Log fault; line = Some line }))
IsRejectedFor (Break line why) e = e.rejection ≡ Some (record { why = whys.Break why; line = Some line })
IsRejectedFor (NoDump line fault) e = e.rejection ≡ Some (record { why = whys.Dump fault; line = Some line })
IsRejectedFor Other e = IsSome e.rejection

-- a log ends so: as it was judged, or rejected for a cause
abbrev pub EndsAsLog : LogSoFar → Ending → Type 0
EndsAsLog (logs.Legal m last) e = e ≡ judged_ending kinds.Log no_lines None m
EndsAsLog (logs.Illegal finding m) e = e ≡ judged_ending kinds.Log no_lines (Some finding) m
EndsAsLog (logs.Broken cause m) e = IsRejectedFor cause e

-- a dump ends so: as it was judged, with the lines that its header has, or rejected for a cause
abbrev pub EndsAsDump : DumpSoFar → Ending → Type 0
EndsAsDump (dumps.Legal m ports) e = e ≡ judged_ending kinds.Dump m.presence None m
EndsAsDump (dumps.Illegal finding m) e = e ≡ judged_ending kinds.Dump m.presence (Some finding) m
EndsAsDump (dumps.Broken cause m) e = IsRejectedFor cause e

-- after known bytes what is said before the verdict is written, then the verdict of a trace that ends so, and nothing else
abbrev pub Prints : (Ending → Type 0) → List ℕ → Options → Map → List Board → Option (List ℕ) → Option (List ℕ) → Type 0
Prints Ends said o map boards old new = (e : Ending) × Ends e × Appends old new (said ++ verdict_printed o map boards e)

-- what a log has printed, by what its text says
abbrev pub PrintsLog : Options → Map → List Board → List ℕ → Option (List ℕ) → Option (List ℕ) → Type 0
PrintsLog o map boards text old new =
    Prints (EndsAsLog (log_of o boards text)) (log_says_before (log_of o boards text)) o map boards old new

-- what a dump has printed, by what its text says
abbrev pub PrintsDump : Options → Map → List Board → List ℕ → Option (List ℕ) → Option (List ℕ) → Type 0
PrintsDump o map boards text old new =
    Prints (EndsAsDump (dump_of o map boards text)) (dump_says_before (dump_of o map boards text)) o map boards old new
