-- The status of a dump that a reader gives in pieces.
use Rattle.std.proofs.Common.{◌≡◌, ℕ, Bool, true, false, List, subst, Option, Some, None, Result, Ok, Err, IfOk, IfSome}
use Rattle.std.specs.Io.KnownBytes.{Consumes}
use Rattle.vme_line_map.specs.Variables.{Map}
use Rattle.vme_judge.specs.declared.boards.Board.{Board}
use Rattle.vme_judge.specs.declared.fault.JudgeFault.{JudgeFault}
use Rattle.vme_judge.specs.declared.fault.Status.{Status}
use Rattle.vme_judge.specs.declared.options.Options.{Options}
use Rattle.vme_judge.specs.declared.run.Kind.TheVariants as kinds
use Rattle.vme_judge.specs.declared.run.Run.{Run}
use Rattle.vme_judge.specs.Blanks.{AreBlanks, IsBlankSoFar, TakesFirst, TakesFurther}
use Rattle.vme_judge.specs.DumpRuns.{HasReached, Reached, TakesPiece, dump_so_far}
use Rattle.vme_judge.specs.Runs.{form_after}
use Rattle.vme_judge.specs.Dumps.{dump_status}
use Rattle.vme_judge.specs.DumpTexts.{dump_of}
use Rattle.vme_judge.specs.Verdicts.{is_log}
use Rattle.vme_judge.proofs.DumpPieces.{DumpBetween, TakesAny, dump_more}
use Rattle.vme_judge.proofs.DumpWholes.{IsDumpRead, dump_stopped, whole_status}

-- a status that is returned
pub dump_status_is : (o : Options) (map : Map) (boards : List Board) (whole : Option (List ℕ)) (w : List ℕ) (new : Run) (result : Result Status JudgeFault)
    → IsDumpRead o map boards whole w new → IfOk result (λ status. status ≡ dump_status (dump_so_far new))
    → IfSome whole (λ text. is_log text ≡ false → IfOk result (λ status. status ≡ dump_status (dump_of o map boards text)))
dump_status_is o map boards None w new result read is = tt
dump_status_is o map boards (Some text) w new (Err fault) read is = λ dump. tt
dump_status_is o map boards (Some text) w new (Ok status) read is = λ dump.
    whole_status o map boards text w new status (read dump).judged is

-- what is taken of a piece, by its three parts
pub taken_any : (map : Map) (run new : Run) (piece : List ℕ) (goes_on : Bool)
    → ((line : List ℕ) → run.kind ≡ kinds.Unknown → AreBlanks piece → IsBlankSoFar map line run → TakesFurther map line run new piece goes_on)
    → ((line : List ℕ) → run.kind ≡ kinds.Unknown → form_after kinds.Unknown piece ≡ kinds.Dump → IsBlankSoFar map line run
    → TakesFirst map line run new piece goes_on)
    → ((reached : Reached) → run.kind ≡ kinds.Dump → HasReached map reached run.vcd → TakesPiece map run new reached piece goes_on)
    → TakesAny map run new piece goes_on
taken_any map run new piece goes_on blanks first dump = record { blanks = blanks; first = first; dump = dump }

-- what was taken of some bytes, which are those of a piece, and whether the run goes on
taken_as : (map : Map) (run new : Run) (bytes piece : List ℕ) (goes_on goes : Bool) → TakesAny map run new bytes goes_on → bytes ≡ piece
    → goes_on ≡ goes → TakesAny map run new piece goes
taken_as map run new bytes piece goes_on goes takes same is =
    subst (λ piece. TakesAny map run new piece goes) same (subst (TakesAny map run new bytes) is takes)

-- a piece after which the run goes on
pub dump_goes_on : (o : Options) (map : Map) (boards : List Board) (whole left next : Option (List ℕ)) (w : List ℕ) (run new : Run)
    (bytes piece : List ℕ) (goes_on : Bool) → DumpBetween o map boards whole left w run → Consumes left next piece
    → TakesAny map run new bytes goes_on → bytes ≡ piece → goes_on ≡ true → DumpBetween o map boards whole next w new
dump_goes_on o map boards whole left next w run new bytes piece goes_on between is takes same goes =
    dump_more o map boards whole left next w run new piece between is (taken_as map run new bytes piece goes_on true takes same goes)

-- a piece at which the run stops
pub dump_stops_at : (o : Options) (map : Map) (boards : List Board) (whole left next : Option (List ℕ)) (w : List ℕ) (run new : Run)
    (bytes piece : List ℕ) (goes_on : Bool) → DumpBetween o map boards whole left w run → Consumes left next piece
    → TakesAny map run new bytes goes_on → bytes ≡ piece → goes_on ≡ false → IsDumpRead o map boards whole w new
dump_stops_at o map boards whole left next w run new bytes piece goes_on between is takes same stops =
    dump_stopped o map boards whole left next w run new piece between is (taken_as map run new bytes piece goes_on false takes same stops)
