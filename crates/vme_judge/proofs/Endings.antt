-- What is written of a trace, from the run as it ends.
use Rattle.std.proofs.Common.{◌≡◌, ℕ, Bool, true, false, List, [], ◌++◌, append_assoc, append-nil, Option, Some, None, Result, Ok, Err, OnOk, IfSome, is_some, refl, ap, sym, subst, ◌∙◌}
use Rattle.std.specs.Prelude.{string_bytes}
use Rattle.std.specs.Io.KnownBytes.{Appends}
use Rattle.vme_bus_log.specs.declared.entry.LogDatum.{LogDatum}
use Rattle.vme_line_map.specs.Variables.{Map}
use Rattle.vme_protocol.specs.declared.port.Port.{Port}
use Rattle.vme_vcd_reader.specs.declared.presence.Presence.{Presence}
use Rattle.vme_vcd_reader.specs.Presences.{no_lines}
use Rattle.vme_judge.specs.declared.boards.Board.{Board}
use Rattle.vme_judge.specs.declared.fault.JudgeFault.{JudgeFault}
use Rattle.vme_judge.specs.declared.fault.Status.{Status}
use Rattle.vme_judge.specs.declared.finding.Finding.{Finding}
use Rattle.vme_judge.specs.declared.options.Options.{Options}
use Rattle.vme_judge.specs.declared.rejection.Rejection.{Rejection}
use Rattle.vme_judge.specs.declared.rejection.Why.{Why}
use Rattle.vme_judge.specs.declared.rejection.Why.TheVariants as whys
use Rattle.vme_judge.specs.declared.run.Kind.{Kind}
use Rattle.vme_judge.specs.declared.run.Kind.TheVariants as kinds
use Rattle.vme_judge.specs.declared.run.Run.{Run}
use Rattle.vme_judge.specs.DumpRuns.{dump_at, dump_so_far}
use Rattle.vme_judge.specs.Dumps.{DumpSoFar, dump_says_before}
use Rattle.vme_judge.specs.Dumps as dumps
use Rattle.vme_judge.specs.DumpTexts.{dump_of}
use Rattle.vme_judge.specs.Endings.{EndsAsDump, EndsAsLog, IsRejectedFor, Prints, PrintsDump, PrintsLog, judged_ending, unless, verdict_printed}
use Rattle.vme_judge.specs.Logs.{Cause, LogSoFar, log_says_before, so_far}
use Rattle.vme_judge.specs.Logs as logs
use Rattle.vme_judge.specs.Standing.{Standing, found_by, standing, state_of}
use Rattle.vme_judge.specs.Runs.{cause_by, cause_of, is_no_dump, run_so_far}
use Rattle.vme_judge.specs.Verdicts.{is_log, log_of}
use Rattle.vme_judge.specs.VerdictTexts.{Ending, ending_of, rest_text, verdict_text}
use Rattle.vme_judge.proofs.DumpSaying.{dump_first, dump_says_first}
use Rattle.vme_judge.proofs.DumpWholes.{IsDumpRead, IsDumpWhole}
use Rattle.vme_judge.proofs.LogSaying.{log_first, says_first}
use Rattle.vme_judge.proofs.Pieces.{IsLogRead, IsWhole}

-- the end of a run, by its parts
abbrev pub ending_by : Kind → Option Rejection → Option Finding → Standing → Ending
ending_by kind rejection finding m = record {
  kind = kind;
  presence = m.presence;
  rejection = rejection;
  finding = finding;
  found = m.found;
  counts = m.counts;
  is_within = is_some m.transfer;
}

-- an end whose verdict is the same text is as it is stated
pub record EndsLike (Ends : Ending → Type 0) (o : Options) (map : Map) (boards : List Board) (e : Ending) : Type 0 where
  pub stated : Ending
  pub ends : Ends stated
  pub text : verdict_text o map boards e ≡ verdict_text o map boards stated

-- what is rejected is rejected for its cause
rejected_for : (why : Why) (line : Option ℕ) (e : Ending) → e.rejection ≡ Some (record { why = why; line = line })
    → IsRejectedFor (cause_by why line) e
rejected_for (whys.Dump fault) None e is = ap is_some is
rejected_for (whys.Dump fault) (Some line) e is = is
rejected_for (whys.Log fault) None e is = ap is_some is
rejected_for (whys.Log fault) (Some line) e is = (fault, refl, is)
rejected_for (whys.Break why) None e is = ap is_some is
rejected_for (whys.Break why) (Some line) e is = is
rejected_for whys.Nothing line e is = ap is_some is

-- the text of a verdict on a log does not depend on the lines of a dump
as_log : (o : Options) (map : Map) (boards : List Board) (kind : Kind) (presence : Presence) (e : Ending) → is_no_dump kind ≡ true
    → verdict_text o map boards (record e { kind = kind; presence = presence })
    ≡ verdict_text o map boards (record e { kind = kinds.Log; presence = no_lines })
unfolding verdict_text rest_text
as_log o map boards kinds.Dump presence e is = absurd (cc is)
as_log o map boards kinds.Log presence e is = refl
as_log o map boards kinds.Unknown presence e is = refl

module _ (o : Options) (map : Map) (boards : List Board) (kind : Kind) (m : Standing) (last : Option LogDatum) (no_dump : is_no_dump kind ≡ true) where
  -- the end of a run, by whether it rejects the log and what it has found
  log_like : (rejection : Option Rejection) (finding : Option Finding)
      → EndsLike (EndsAsLog (so_far (is_some rejection) (cause_of rejection) (found_by finding m) last)) o map boards (ending_by kind rejection finding m)
  log_like (Some r) finding = record {
    stated = ending_by kind (Some r) finding m;
    ends = rejected_for r.why r.line (ending_by kind (Some r) finding m) refl;
    text = refl;
  }
  log_like None None = record {
    stated = judged_ending kinds.Log no_lines None m;
    ends = refl;
    text = as_log o map boards kind m.presence (judged_ending kinds.Log no_lines None m) no_dump;
  }
  log_like None (Some f) = record {
    stated = judged_ending kinds.Log no_lines (Some f) m;
    ends = refl;
    text = as_log o map boards kind m.presence (judged_ending kinds.Log no_lines (Some f) m) no_dump;
  }

-- the end of a run that has judged a dump and rejected nothing
dump_like : (o : Options) (map : Map) (boards : List Board) (m : Standing) (cause : Cause) (ports : List (Option Port)) (finding : Option Finding)
    → EndsLike (EndsAsDump (dump_at false cause (found_by finding m) ports)) o map boards (ending_by kinds.Dump None finding m)
dump_like o map boards m cause ports None = record {
  stated = judged_ending kinds.Dump m.presence None m;
  ends = refl;
  text = refl;
}
dump_like o map boards m cause ports (Some f) = record {
  stated = judged_ending kinds.Dump m.presence (Some f) m;
  ends = refl;
  text = refl;
}

module _ (o : Options) (map : Map) (boards : List Board) (kind : Kind) (m : Standing) (ports : List (Option Port)) where
  -- the end of a run, by whether it rejects the dump
  any_like : (rejection : Option Rejection) (finding : Option Finding) → (rejection ≡ None → kind ≡ kinds.Dump)
      → EndsLike (EndsAsDump (dump_at (is_some rejection) (cause_of rejection) (found_by finding m) ports)) o map boards
      (ending_by kind rejection finding m)
  any_like (Some r) finding is = record {
    stated = ending_by kind (Some r) finding m;
    ends = rejected_for r.why r.line (ending_by kind (Some r) finding m) refl;
    text = refl;
  }
  any_like None finding is =
      subst (λ kind. EndsLike (EndsAsDump (dump_at false (cause_of None) (found_by finding m) ports)) o map boards
      (ending_by kind None finding m)) (sym (is refl)) (dump_like o map boards m (cause_of None) ports finding)

-- how a log ends does not depend on what was said before
log_ends_first : (w : List ℕ) (log : LogSoFar) (e : Ending) → EndsAsLog log e → EndsAsLog (log_first w log) e
log_ends_first w (logs.Legal m last) e ends = ends
log_ends_first w (logs.Illegal finding m) e ends = ends
log_ends_first w (logs.Broken cause m) e ends = ends

-- nor how a dump ends
dump_ends_first : (w : List ℕ) (dump : DumpSoFar) (e : Ending) → EndsAsDump dump e → EndsAsDump (dump_first w dump) e
dump_ends_first w (dumps.Legal m ports) e ends = ends
dump_ends_first w (dumps.Illegal finding m) e ends = ends
dump_ends_first w (dumps.Broken cause m) e ends = ends

-- an end that is stated otherwise too
like_as : (Ends Other : Ending → Type 0) (o : Options) (map : Map) (boards : List Board) (e : Ending) → ((e : Ending) → Ends e → Other e)
    → EndsLike Ends o map boards e → EndsLike Other o map boards e
like_as Ends Other o map boards e goes like = record { stated = like.stated; ends = goes like.stated like.ends; text = like.text }

-- the end of a run that has judged a whole log
log_ends : (o : Options) (map : Map) (boards : List Board) (text said : List ℕ) (run : Run) → IsWhole o boards text said run
    → EndsLike (EndsAsLog (log_of o boards text)) o map boards (ending_of run)
unfolding run_so_far standing ending_of
log_ends o map boards text said run whole =
    subst (λ log. EndsLike (EndsAsLog log) o map boards (ending_of run)) (sym whole.judged)
    (like_as (EndsAsLog (run_so_far run)) (EndsAsLog (log_first said (run_so_far run))) o map boards (ending_of run)
    (log_ends_first said (run_so_far run))
    (log_like o map boards run.kind (state_of run.judge) run.state.last whole.kind run.rejection run.judge.finding))

-- the end of a run that has judged a whole dump
dump_ends : (o : Options) (map : Map) (boards : List Board) (text said : List ℕ) (run : Run) → IsDumpWhole o map boards text said run
    → EndsLike (EndsAsDump (dump_of o map boards text)) o map boards (ending_of run)
unfolding standing ending_of
dump_ends o map boards text said run whole =
    subst (λ dump. EndsLike (EndsAsDump dump) o map boards (ending_of run)) (sym whole.judged)
    (like_as (EndsAsDump (dump_so_far run)) (EndsAsDump (dump_first said (dump_so_far run))) o map boards (ending_of run)
    (dump_ends_first said (dump_so_far run))
    (any_like o map boards run.kind (state_of run.judge) run.ports.last run.rejection run.judge.finding whole.kind))

-- what a run says before the verdict is what is not written yet, by whether it rejects a log
log_says_by : (rejected : Bool) (cause : Cause) (finding : Option Finding) (m : Standing) (last : Option LogDatum)
    → log_says_before (so_far rejected cause (found_by finding m) last) ≡ m.said
log_says_by true cause None m last = refl
log_says_by true cause (Some f) m last = refl
log_says_by false cause None m last = refl
log_says_by false cause (Some f) m last = refl

-- what a run says before the verdict is what is not written yet, by whether it rejects a dump
dump_says_by : (rejected : Bool) (cause : Cause) (finding : Option Finding) (m : Standing) (ports : List (Option Port))
    → dump_says_before (dump_at rejected cause (found_by finding m) ports) ≡ m.said
dump_says_by true cause None m ports = refl
dump_says_by true cause (Some f) m ports = refl
dump_says_by false cause None m ports = refl
dump_says_by false cause (Some f) m ports = refl

-- what is said before the verdict on a whole log
log_said : (o : Options) (boards : List Board) (text said : List ℕ) (run : Run) → IsWhole o boards text said run
    → log_says_before (log_of o boards text) ≡ said ++ string_bytes run.judge.pending
unfolding run_so_far standing
log_said o boards text said run whole =
    ap log_says_before whole.judged ∙ says_first said (run_so_far run)
    ∙ ap (λ rest. said ++ rest)
    (log_says_by (is_some run.rejection) (cause_of run.rejection) run.judge.finding (state_of run.judge) run.state.last)

-- what is said before the verdict on a whole dump
dump_said : (o : Options) (map : Map) (boards : List Board) (text said : List ℕ) (run : Run) → IsDumpWhole o map boards text said run
    → dump_says_before (dump_of o map boards text) ≡ said ++ string_bytes run.judge.pending
unfolding standing
dump_said o map boards text said run whole =
    ap dump_says_before whole.judged ∙ dump_says_first said (dump_so_far run)
    ∙ ap (λ rest. said ++ rest)
    (dump_says_by (is_some run.rejection) (cause_of run.rejection) run.judge.finding (state_of run.judge) run.ports.last)

-- bytes that are written after others
pub appends_then : (was now new : Option (List ℕ)) (x y : List ℕ) → Appends was now x → Appends now new y → Appends was new (x ++ y)
appends_then None now new x y one two = tt
appends_then (Some a) None new x y one two = absurd one
appends_then (Some a) (Some b) None x y one two = absurd two
appends_then (Some a) (Some b) (Some c) x y one two = two ∙ ap (λ l. l ++ y) one ∙ append_assoc a x y

-- nothing that is written
pub appends_none : (was : Option (List ℕ)) → Appends was was []
appends_none None = tt
appends_none (Some a) = sym (append-nil a)

-- the verdict that is written, after what was written before and what is said before it
prints : (Ends : Ending → Type 0) (all said pending : List ℕ) (o : Options) (map : Map) (boards : List Board) (was now new : Option (List ℕ)) (e : Ending)
    → EndsLike Ends o map boards e → all ≡ said ++ pending → Appends was now said
    → Appends now new (pending ++ verdict_printed o map boards e) → Prints Ends all o map boards was new
prints Ends all said pending o map boards was now new e like is one two =
    let written : Appends was new (said ++ (pending ++ unless o.quiet (verdict_text o map boards e))) =
    appends_then was now new said (pending ++ verdict_printed o map boards e) one two in (
      like.stated,
      like.ends,
      subst (Appends was new)
          (sym (append_assoc said pending (unless o.quiet (verdict_text o map boards e)))
          ∙ ap (λ before. before ++ unless o.quiet (verdict_text o map boards e)) (sym is)
          ∙ ap (λ text. all ++ unless o.quiet text) like.text) written,
    )

-- what is written at the end of a log
pub log_printed : (o : Options) (map : Map) (boards : List Board) (whole was now new : Option (List ℕ)) (said : List ℕ) (run : Run)
    (result : Result Status JudgeFault) → IsLogRead o boards whole said run → Appends was now said
    → OnOk result (Appends now new (string_bytes run.judge.pending ++ verdict_printed o map boards (ending_of run)))
    → IfSome whole (λ text. is_log text ≡ true → OnOk result (PrintsLog o map boards text was new))
log_printed o map boards None was now new said run result read one two = tt
log_printed o map boards (Some text) was now new said run (Err fault) read one two = λ log. tt
log_printed o map boards (Some text) was now new said run (Ok status) read one two = λ log.
    prints (EndsAsLog (log_of o boards text)) (log_says_before (log_of o boards text)) said (string_bytes run.judge.pending) o map boards was now new
    (ending_of run) (log_ends o map boards text said run (read log)) (log_said o boards text said run (read log)) one two

-- what is written at the end of a dump
pub dump_printed : (o : Options) (map : Map) (boards : List Board) (whole was now new : Option (List ℕ)) (said : List ℕ) (run : Run)
    (result : Result Status JudgeFault) → IsDumpRead o map boards whole said run → Appends was now said
    → OnOk result (Appends now new (string_bytes run.judge.pending ++ verdict_printed o map boards (ending_of run)))
    → IfSome whole (λ text. is_log text ≡ false → OnOk result (PrintsDump o map boards text was new))
dump_printed o map boards None was now new said run result read one two = tt
dump_printed o map boards (Some text) was now new said run (Err fault) read one two = λ dump. tt
dump_printed o map boards (Some text) was now new said run (Ok status) read one two = λ dump.
    prints (EndsAsDump (dump_of o map boards text)) (dump_says_before (dump_of o map boards text)) said (string_bytes run.judge.pending) o map boards
    was now new (ending_of run) (dump_ends o map boards text said run (read dump)) (dump_said o map boards text said run (read dump)) one two
