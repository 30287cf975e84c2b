-- A trace that a reader gives in pieces, judged so far, of which what is said is written.
use Rattle.std.proofs.Common.{◌≡◌, ℕ, Bool, true, false, List, [], ◌++◌, Option, Result, OnOk, IfOk, IfSome, subst, sym, ◌∙◌}
use Rattle.std.specs.Prelude.{string_bytes}
use Rattle.std.specs.Io.KnownBytes.{Appends, Consumes, IsAtEnd}
use Rattle.std.specs.declared.alloc.Global.{Global}
use Rattle.std.specs.declared.string.String.{String}
use Rattle.vme_line_map.specs.Variables.{Map}
use Rattle.vme_judge.specs.declared.boards.Board.{Board}
use Rattle.vme_judge.specs.declared.fault.JudgeFault.{JudgeFault}
use Rattle.vme_judge.specs.declared.fault.Status.{Status}
use Rattle.vme_judge.specs.declared.options.Options.{Options}
use Rattle.vme_judge.specs.declared.run.Kind.TheVariants as kinds
use Rattle.vme_judge.specs.declared.run.Run.{Run}
use Rattle.vme_judge.specs.DumpRuns.{EndsDump, HasReached, Reached, dump_so_far}
use Rattle.vme_judge.specs.Dumps.{dump_status}
use Rattle.vme_judge.specs.DumpTexts.{dump_of}
use Rattle.vme_judge.specs.Endings.{PrintsDump, PrintsLog, verdict_printed}
use Rattle.vme_judge.specs.Logs.{status_of}
use Rattle.vme_judge.specs.Runs.{TakesLog, form_after, is_going, is_no_dump, log_whole, run_so_far}
use Rattle.vme_judge.specs.Verdicts.{is_log, log_of}
use Rattle.vme_judge.specs.VerdictTexts.{ending_of}
use Rattle.vme_judge.proofs.DumpEnds.{dump_goes_on, dump_status_is, dump_stops_at}
use Rattle.vme_judge.proofs.DumpPieces.{DumpBetween, TakesAny, dump_written}
use Rattle.vme_judge.proofs.DumpWholes.{IsDumpRead, dump_ended}
use Rattle.vme_judge.proofs.Endings.{appends_then, dump_printed, log_printed}
use Rattle.vme_judge.proofs.Ends.{log_status}
use Rattle.vme_judge.proofs.Pieces.{Between, IsLogRead, between_ends, between_more, between_stops, between_written}

-- a run has judged a reader's bytes up to those that are left, and what it said is written up to what is not written yet
pub record Progress (o : Options) (map : Map) (boards : List Board) (whole left was now : Option (List ℕ)) (run : Run) : Type 0 where
  pub said : List ℕ
  pub written : Appends was now said
  pub log : Between o boards whole left said run
  pub dump : DumpBetween o map boards whole left said run

-- a run has judged all of a reader's bytes
pub record IsRead (o : Options) (map : Map) (boards : List Board) (whole was now : Option (List ℕ)) (run : Run) : Type 0 where
  pub said : List ℕ
  pub written : Appends was now said
  pub log : IsLogRead o boards whole said run
  pub dump : IsDumpRead o map boards whole said run

module _ (o : Options) (map : Map) (boards : List Board) (whole left next was now : Option (List ℕ)) (run new : Run) (is : Progress o map boards whole left was now run) where
  -- a piece after which the run goes on
  pub progress_more : (bytes piece : List ℕ) (goes_on : Bool) → Consumes left next piece
      → (is_no_dump (form_after run.kind bytes) ≡ true → TakesLog run new bytes) → TakesAny map run new bytes goes_on → bytes ≡ piece
      → goes_on ≡ true → Progress o map boards whole next was now new
  progress_more bytes piece goes_on consumes log dump same on = record {
    said = is.said;
    written = is.written;
    log = between_more o boards whole left next is.said run new bytes is.log (subst (Consumes left next) (sym same) consumes) log;
    dump = dump_goes_on o map boards whole left next is.said run new bytes piece goes_on is.dump consumes dump same on;
  }

  -- a piece after which the run stops
  pub progress_stops : (bytes piece : List ℕ) (goes_on : Bool) → Consumes left next piece
      → (is_no_dump (form_after run.kind bytes) ≡ true → TakesLog run new bytes) → TakesAny map run new bytes goes_on → bytes ≡ piece
      → goes_on ≡ false → goes_on ≡ is_going new → IsRead o map boards whole was now new
  progress_stops bytes piece goes_on consumes log dump same off going = record {
    said = is.said;
    written = is.written;
    log =
        between_stops o boards whole next is.said new
        (between_more o boards whole left next is.said run new bytes is.log (subst (Consumes left next) (sym same) consumes) log)
        (sym going ∙ off);
    dump = dump_stops_at o map boards whole left next is.said run new bytes piece goes_on is.dump consumes dump same off;
  }

  -- the end of a reader's bytes
  pub progress_ends : Consumes left next [] → IsAtEnd next → new.kind ≡ run.kind
      → (is_no_dump run.kind ≡ true → log_whole run [] ≡ run_so_far new)
      → ((reached : Reached) → run.kind ≡ kinds.Dump → HasReached map reached run.vcd → EndsDump map run new reached)
      → IsRead o map boards whole was now new
  progress_ends consumes end kind log dump = record {
    said = is.said;
    written = is.written;
    log = between_ends o boards whole left next is.said run new is.log consumes end kind log;
    dump = dump_ended o map boards whole left next is.said run new is.dump consumes end kind dump;
  }

-- a run after what it said is written
pub progress_written : (o : Options) (map : Map) (boards : List Board) (whole left was now new : Option (List ℕ)) (run : Run) (pending : String Global)
    → Progress o map boards whole left was now run → Appends now new (string_bytes run.judge.pending) → string_bytes pending ≡ []
    → Progress o map boards whole left was new (record run { judge = record run.judge { pending = pending } })
progress_written o map boards whole left was now new run pending is writes empty = record {
  said = is.said ++ string_bytes run.judge.pending;
  written = appends_then was now new is.said (string_bytes run.judge.pending) is.written writes;
  log = between_written o boards whole left is.said run pending empty is.log;
  dump = dump_written o map boards whole left is.said run pending empty is.dump;
}

module _ (o : Options) (map : Map) (boards : List Board) (whole was now : Option (List ℕ)) (run : Run) (result : Result Status JudgeFault) (is : IsRead o map boards whole was now run) where
  -- the status of a log
  pub read_status : IfOk result (λ status. status ≡ status_of (run_so_far run))
      → IfSome whole (λ text. is_log text ≡ true → IfOk result (λ status. status ≡ status_of (log_of o boards text)))
  read_status status = log_status o boards whole is.said run result is.log status

  -- the status of a dump
  pub read_dump_status : IfOk result (λ status. status ≡ dump_status (dump_so_far run))
      → IfSome whole (λ text. is_log text ≡ false → IfOk result (λ status. status ≡ dump_status (dump_of o map boards text)))
  read_dump_status status = dump_status_is o map boards whole is.said run result is.dump status

  -- what is written of a log
  pub read_printed : (new : Option (List ℕ)) → OnOk result (Appends now new (string_bytes run.judge.pending ++ verdict_printed o map boards (ending_of run)))
      → IfSome whole (λ text. is_log text ≡ true → OnOk result (PrintsLog o map boards text was new))
  read_printed new text = log_printed o map boards whole was now new is.said run result is.log is.written text

  -- what is written of a dump
  pub read_dump_printed : (new : Option (List ℕ)) → OnOk result (Appends now new (string_bytes run.judge.pending ++ verdict_printed o map boards (ending_of run)))
      → IfSome whole (λ text. is_log text ≡ false → OnOk result (PrintsDump o map boards text was new))
  read_dump_printed new text = dump_printed o map boards whole was now new is.said run result is.dump is.written text
