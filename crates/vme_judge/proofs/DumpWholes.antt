-- A run that has judged a whole dump.
use Rattle.std.proofs.Common.{◌≡◌, ℕ, true, false, inl, inr, List, [], ◌++◌, Option, Some, None, IfSome, is_some, refl, ap, sym, ◌∙◌}
use Rattle.std.specs.Io.KnownBytes.{Consumes, IsAtEnd}
use Rattle.std.proofs.lemmas.Bool.{false≢true}
use Rattle.vme_bus_log.specs.Faults.{TooLong}
use Rattle.vme_line_map.specs.Variables.{Map}
use Rattle.vme_vcd_reader.specs.Headers.{beginning}
use Rattle.vme_judge.specs.declared.boards.Board.{Board}
use Rattle.vme_judge.specs.declared.fault.Status.{Status}
use Rattle.vme_judge.specs.declared.options.Options.{Options}
use Rattle.vme_judge.specs.declared.run.Kind.{Kind}
use Rattle.vme_judge.specs.declared.run.Kind.TheVariants as kinds
use Rattle.vme_judge.specs.declared.run.Run.{Run}
use Rattle.vme_judge.specs.Blanks.{TakesFirst, TakesFurther, blanks_whole}
use Rattle.vme_judge.specs.DumpRuns.{EndsDump, HasReached, InHeader, Reached, TakesPiece, dump_so_far, text_whole}
use Rattle.vme_judge.specs.Dumps.{dump_status}
use Rattle.vme_judge.specs.DumpTexts.{after_blanks, dump_of}
use Rattle.vme_judge.specs.Logs.{NoLine}
use Rattle.vme_judge.specs.Runs.{form_after}
use Rattle.vme_judge.specs.Verdicts.{is_log}
use Rattle.vme_judge.proofs.DumpPieces.{DumpBetween, IsDumpAhead, IsDumpAt, IsDumpBetween, TakesAny, form_left}
use Rattle.vme_judge.proofs.DumpRuns.{text_broken}
use Rattle.vme_judge.proofs.DumpSaying.{dump_first, dump_status_first}

-- a run has judged a whole dump; this was written
pub record IsDumpWhole (o : Options) (map : Map) (boards : List Board) (text w : List ℕ) (run : Run) : Type 0 where
  pub kind : run.rejection ≡ None → run.kind ≡ kinds.Dump
  pub judged : dump_of o map boards text ≡ dump_first w (dump_so_far run)

-- the status of a run is that of the dump that it has judged
pub whole_status : (o : Options) (map : Map) (boards : List Board) (text w : List ℕ) (run : Run) (status : Status)
    → dump_of o map boards text ≡ dump_first w (dump_so_far run) → status ≡ dump_status (dump_so_far run)
    → status ≡ dump_status (dump_of o map boards text)
whole_status o map boards text w run status judged is = is ∙ sym (dump_status_first w (dump_so_far run)) ∙ sym (ap dump_status judged)

-- a piece of a dump after which the run stops
piece_stops : (o : Options) (map : Map) (boards : List Board) (run new : Run) (text rest piece next w : List ℕ)
    (is : IsDumpBetween o map boards text rest w run) → rest ≡ piece ++ next → TakesPiece map run new is.reached piece false
    → IsDumpWhole o map boards text w new
piece_stops o map boards run new text rest piece next w is same takes = record {
  kind = λ none. takes.0;
  judged = is.judged ∙ ap (dump_first w) (ap (text_whole map run is.reached) same ∙ takes.1.stops refl next);
}

module _ (o : Options) (map : Map) (boards : List Board) (run new : Run) (text rest piece next w : List ℕ) (is : IsDumpAhead o map boards text rest w run) (same : rest ≡ piece ++ next) where
  -- the first bytes of a dump after which the run stops
  first_stops : TakesFirst map is.line run new piece false → IsDumpWhole o map boards text w new
  first_stops takes = record {
    kind = λ none. takes.0;
    judged = is.judged ∙ ap (dump_first w) (ap (blanks_whole map is.line run) same ∙ takes.1.stops refl next);
  }

  -- blanks after which the run stops
  further_stops : TakesFurther map is.line run new piece false → IsDumpWhole o map boards text w new
  further_stops takes =
      let stops = takes.1.takes.stops refl in
      record {
        kind = λ none. absurd (false≢true (sym (ap is_some none) ∙ stops.rejected));
        judged =
            is.judged
            ∙ ap (dump_first w)
            (text_broken run new (blanks_whole map is.line run rest) (NoLine stops.number TooLong) is.going
            (ap (blanks_whole map is.line run) same
            ∙ ap (λ long. after_blanks long (dump_so_far run) (text_whole map run (InHeader beginning []) (piece ++ next))) (stops.lines next))
            (stops.rejected, stops.cause) takes.1.takes.judge);
      }

  -- a piece after which the run stops, by the form of what is read then
  ahead_stops : (kind : Kind) → form_after kinds.Unknown piece ≡ kind → TakesAny map run new piece false → IsDumpWhole o map boards text w new
  ahead_stops kinds.Dump form takes = first_stops (takes.first is.line is.kind form is.blanks)
  ahead_stops kinds.Log form takes =
      absurd (let log : kinds.Log ≡ kinds.Dump =
      ap (λ kind. form_after kind next) (sym form) ∙ form_left o map boards run new text rest piece next w is same in cc log)
  ahead_stops kinds.Unknown form takes = further_stops (takes.blanks is.line is.kind form is.blanks)

-- a piece after which the run stops
stops_at : (o : Options) (map : Map) (boards : List Board) (run new : Run) (text rest piece next w : List ℕ)
    → IsDumpAt o map boards text rest w run → rest ≡ piece ++ next → TakesAny map run new piece false → IsDumpWhole o map boards text w new
stops_at o map boards run new text rest piece next w (inl is) same takes =
    ahead_stops o map boards run new text rest piece next w is same (form_after kinds.Unknown piece) refl takes
stops_at o map boards run new text rest piece next w (inr is) same takes =
    piece_stops o map boards run new text rest piece next w is same (takes.dump is.reached is.kind is.reading)

-- a run has judged all of a reader's bytes, if they are known and are no log; this was written
abbrev pub IsDumpRead : Options → Map → List Board → Option (List ℕ) → List ℕ → Run → Type 0
IsDumpRead o map boards whole w new = IfSome whole (λ text. is_log text ≡ false → IsDumpWhole o map boards text w new)

-- a reader's piece after which the run stops
pub dump_stopped : (o : Options) (map : Map) (boards : List Board) (whole left next : Option (List ℕ)) (w : List ℕ) (run new : Run) (piece : List ℕ)
    → DumpBetween o map boards whole left w run → Consumes left next piece → TakesAny map run new piece false
    → IsDumpRead o map boards whole w new
dump_stopped o map boards None left next w run new piece between is takes = tt
dump_stopped o map boards (Some text) None next w run new piece between is takes = absurd between
dump_stopped o map boards (Some text) (Some rest) None w run new piece between is takes = absurd is
dump_stopped o map boards (Some text) (Some rest) (Some next) w run new piece between is takes = λ dump.
    stops_at o map boards run new text rest piece next w (between dump) is takes

-- the end of a text, before a dump or within it
ended_at : (o : Options) (map : Map) (boards : List Board) (text rest w : List ℕ) (run new : Run)
    → IsDumpAt o map boards text rest w run → rest ≡ [] → new.kind ≡ run.kind
    → ((reached : Reached) → run.kind ≡ kinds.Dump → HasReached map reached run.vcd → EndsDump map run new reached)
    → IsDumpWhole o map boards text w new
ended_at o map boards text rest w run new (inl is) none kind takes =
    absurd (let unknown : kinds.Unknown ≡ kinds.Dump = sym (ap (form_after kinds.Unknown) none) ∙ is.form in cc unknown)
ended_at o map boards text rest w run new (inr is) none kind takes = record {
  kind = λ _. kind ∙ is.kind;
  judged =
      is.judged ∙ ap (dump_first w) (ap (text_whole map run is.reached) none ∙ takes is.reached is.kind is.reading);
}

-- the end of a reader's bytes
pub dump_ended : (o : Options) (map : Map) (boards : List Board) (whole left next : Option (List ℕ)) (w : List ℕ) (run new : Run)
    → DumpBetween o map boards whole left w run → Consumes left next [] → IsAtEnd next → new.kind ≡ run.kind
    → ((reached : Reached) → run.kind ≡ kinds.Dump → HasReached map reached run.vcd → EndsDump map run new reached)
    → IsDumpRead o map boards whole w new
dump_ended o map boards None left next w run new between is end kind takes = tt
dump_ended o map boards (Some text) None next w run new between is end kind takes = absurd between
dump_ended o map boards (Some text) (Some rest) None w run new between is end kind takes = absurd is
dump_ended o map boards (Some text) (Some rest) (Some next) w run new between is end kind takes = λ dump.
    ended_at o map boards text rest w run new (between dump) (is ∙ end) kind takes
