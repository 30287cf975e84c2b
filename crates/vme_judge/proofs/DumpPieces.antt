-- A dump that is judged piece by piece, from the text to the status.
use Rattle.std.proofs.Common.{◌≡◌, ℕ, Bool, true, false, inl, inr, ◌⊎◌, List, [], ◌++◌, Option, Some, None, Result, Ok, Err, IfOk, refl, ap, sym, ◌∙◌}
use Rattle.std.specs.Prelude.{string_bytes}
use Rattle.std.specs.Io.KnownBytes.{Consumes}
use Rattle.std.specs.declared.alloc.AllocError.{AllocError}
use Rattle.std.specs.declared.alloc.Global.{Global}
use Rattle.std.specs.declared.string.String.{String}
use Rattle.vme_line_map.specs.Variables.{Map}
use Rattle.vme_vcd_reader.specs.Headers.{Goes, beginning}
use Rattle.vme_judge.specs.declared.boards.Board.{Board}
use Rattle.vme_judge.specs.declared.options.Options.{Options}
use Rattle.vme_judge.specs.declared.run.Kind.{Kind}
use Rattle.vme_judge.specs.declared.run.Kind.TheVariants as kinds
use Rattle.vme_judge.specs.declared.run.Run.{Run}
use Rattle.vme_judge.specs.Blanks.{AreBlanks, IsAtStart, IsBlankSoFar, TakesFirst, TakesFurther, blanks_whole}
use Rattle.vme_judge.specs.DumpRuns.{HasReached, InBody, InHeader, Reached, TakesDump, TakesPiece, dump_so_far, text_whole}
use Rattle.vme_judge.specs.Dumps.{DumpSoFar}
use Rattle.vme_judge.specs.DumpTexts.{after_blanks, dump_of, header_judged, long_blanks, unjudged}
use Rattle.vme_judge.specs.Runs.{IsGoing, form_after, is_no_dump}
use Rattle.vme_judge.specs.Verdicts.{is_log}
use Rattle.vme_judge.proofs.Blanks.{fresh}
use Rattle.vme_judge.proofs.DumpBlanks.{going_on, whole_on}
use Rattle.vme_judge.proofs.DumpRuns.{going_is, is_legal}
use Rattle.vme_judge.proofs.DumpSaying.{blanks_written, both_first, dump_first, nothing_first, text_written, written}
use Rattle.vme_judge.proofs.Pieces.{form_on, log_form}
use Rattle.vme_judge.proofs.Runs.{going_written}

-- bytes of a dump whose form was known
pub piece_known : (map : Map) (old new : Run) (reached : Reached) (bytes : List ℕ) (result : Result Bool AllocError)
    → IfOk result (TakesDump map old new reached bytes) → IfOk result (λ _. new.kind ≡ old.kind) → old.kind ≡ kinds.Dump
    → IfOk result (TakesPiece map old new reached bytes)
piece_known map old new reached bytes (Err fault) takes stays is = tt
piece_known map old new reached bytes (Ok goes_on) takes stays is = (stays ∙ is, takes)

-- a run is before the first byte of a dump that is no blank; this was written
pub record IsDumpAhead (o : Options) (map : Map) (boards : List Board) (text rest w : List ℕ) (run : Run) : Type 0 where
  pub kind : run.kind ≡ kinds.Unknown
  pub form : form_after kinds.Unknown rest ≡ kinds.Dump
  pub line : List ℕ
  pub blanks : IsBlankSoFar map line run
  pub judged : dump_of o map boards text ≡ dump_first w (blanks_whole map line run rest)
  pub going : IsGoing run

-- a run has judged a dump up to the rest of its text; this was written
pub record IsDumpBetween (o : Options) (map : Map) (boards : List Board) (text rest w : List ℕ) (run : Run) : Type 0 where
  pub kind : run.kind ≡ kinds.Dump
  pub reached : Reached
  pub reading : HasReached map reached run.vcd
  pub judged : dump_of o map boards text ≡ dump_first w (text_whole map run reached rest)

-- a run is before a dump or within it
abbrev pub IsDumpAt : Options → Map → List Board → List ℕ → List ℕ → List ℕ → Run → Type 0
IsDumpAt o map boards text rest w run = IsDumpAhead o map boards text rest w run ⊎ IsDumpBetween o map boards text rest w run

-- a run has judged a reader's bytes up to those that are left, if they are known and are no log; this was written
abbrev pub DumpBetween : Options → Map → List Board → Option (List ℕ) → Option (List ℕ) → List ℕ → Run → Type 0
DumpBetween o map boards None left w run = Unit {0}
DumpBetween o map boards (Some text) None w run = ⊥
DumpBetween o map boards (Some text) (Some rest) w run = is_log text ≡ false → IsDumpAt o map boards text rest w run

-- a text that is no log is a dump
is_dump : (kind : Kind) → is_no_dump kind ≡ false → kind ≡ kinds.Dump
is_dump kinds.Dump is = refl
is_dump kinds.Log is = absurd (cc is)
is_dump kinds.Unknown is = absurd (cc is)

-- a run before the first byte
pub dump_begins : (o : Options) (map : Map) (boards : List Board) (whole : Option (List ℕ)) (run : Run)
    → dump_so_far run ≡ unjudged o boards → IsAtStart map run.vcd → run.log.line ≡ [] → run.log.number ≡ 1 → run.kind ≡ kinds.Unknown
    → DumpBetween o map boards whole whole [] run
unfolding dump_of
dump_begins o map boards None run opens start line number kind = tt
dump_begins o map boards (Some text) run opens start line number kind = λ dump. inl (record {
  kind = kind;
  form = is_dump (form_after kinds.Unknown text) (sym (log_form text) ∙ dump);
  line = [];
  blanks = record { reader = start.0; begin = fresh run.log line };
  judged =
      ap (λ d. after_blanks (long_blanks 0 1 text) d (header_judged map d [] (Goes beginning) 1 1 text)) (sym opens)
      ∙ ap (λ number. after_blanks (long_blanks 0 number text) (dump_so_far run)
      (header_judged map (dump_so_far run) [] (Goes beginning) 1 1 text)) (sym number)
      ∙ ap (λ line. after_blanks (long_blanks 0 run.log.number text) (dump_so_far run)
      (header_judged map (dump_so_far run) [] (Goes beginning) line line text)) (sym start.1)
      ∙ nothing_first (blanks_whole map [] run text);
  going = going_is run ∙ ap is_legal opens;
})

module _ (o : Options) (map : Map) (boards : List Board) (text rest w : List ℕ) (run : Run) (pending : String Global) (empty : string_bytes pending ≡ []) where
  -- what is written comes before what is said then
  first_written : (whole after : DumpSoFar) → dump_of o map boards text ≡ dump_first w whole
      → whole ≡ dump_first (string_bytes run.judge.pending) after
      → dump_of o map boards text ≡ dump_first (w ++ string_bytes run.judge.pending) after
  first_written whole after judged is = judged ∙ ap (dump_first w) is ∙ both_first w (string_bytes run.judge.pending) after

  -- what is written does not change what is judged, by how far the dump is read
  written_by : run.kind ≡ kinds.Dump → (reached : Reached) → HasReached map reached run.vcd
      → dump_of o map boards text ≡ dump_first w (text_whole map run reached rest)
      → IsDumpBetween o map boards text rest (w ++ string_bytes run.judge.pending) (written run pending)
  written_by kind (InHeader h ds) reading judged = record {
    kind = kind;
    reached = InHeader h ds;
    reading = reading;
    judged =
        first_written (text_whole map run (InHeader h ds) rest) (text_whole map (written run pending) (InHeader h ds) rest) judged
        (text_written run pending empty map (InHeader h ds) rest);
  }
  written_by kind (InBody r) reading judged = record {
    kind = kind;
    reached = InBody r;
    reading = reading;
    judged =
        first_written (text_whole map run (InBody r) rest) (text_whole map (written run pending) (InBody r) rest) judged
        (text_written run pending empty map (InBody r) rest);
  }

  -- nor before a dump
  written_at : IsDumpAt o map boards text rest w run
      → IsDumpAt o map boards text rest (w ++ string_bytes run.judge.pending) (written run pending)
  written_at (inl is) = inl (record {
    kind = is.kind;
    form = is.form;
    line = is.line;
    blanks = record { reader = is.blanks.reader; begin = is.blanks.begin };
    judged =
        first_written (blanks_whole map is.line run rest) (blanks_whole map is.line (written run pending) rest) is.judged
        (blanks_written run pending empty map is.line rest);
    going = going_written run pending ∙ is.going;
  })
  written_at (inr is) = inr (written_by is.kind is.reached is.reading is.judged)

-- what is written does not change what is judged
pub dump_written : (o : Options) (map : Map) (boards : List Board) (whole left : Option (List ℕ)) (w : List ℕ) (run : Run) (pending : String Global)
    → string_bytes pending ≡ [] → DumpBetween o map boards whole left w run
    → DumpBetween o map boards whole left (w ++ string_bytes run.judge.pending) (record run { judge = record run.judge { pending = pending } })
dump_written o map boards None left w run pending empty between = tt
dump_written o map boards (Some text) None w run pending empty between = between
dump_written o map boards (Some text) (Some rest) w run pending empty between = λ dump.
    written_at o map boards text rest w run pending empty (between dump)

-- what a run takes of a piece: further blanks, the first bytes of a dump, or more of it
pub record TakesAny (map : Map) (run new : Run) (piece : List ℕ) (goes_on : Bool) : Type 0 where
  pub blanks : (line : List ℕ) → run.kind ≡ kinds.Unknown → AreBlanks piece → IsBlankSoFar map line run
      → TakesFurther map line run new piece goes_on
  pub first : (line : List ℕ) → run.kind ≡ kinds.Unknown → form_after kinds.Unknown piece ≡ kinds.Dump → IsBlankSoFar map line run
      → TakesFirst map line run new piece goes_on
  pub dump : (reached : Reached) → run.kind ≡ kinds.Dump → HasReached map reached run.vcd → TakesPiece map run new reached piece goes_on

-- a piece of a dump after which the run goes on
piece_read : (o : Options) (map : Map) (boards : List Board) (run new : Run) (text rest piece next w : List ℕ)
    (is : IsDumpBetween o map boards text rest w run) → rest ≡ piece ++ next → TakesPiece map run new is.reached piece true
    → IsDumpBetween o map boards text next w new
piece_read o map boards run new text rest piece next w is same takes =
    let on = takes.1.reads refl in
    record {
      kind = takes.0;
      reached = on.after;
      reading = on.reading;
      judged = is.judged ∙ ap (dump_first w) (ap (text_whole map run is.reached) same ∙ on.judges next);
    }

module _ (o : Options) (map : Map) (boards : List Board) (run new : Run) (text rest piece next w : List ℕ) (is : IsDumpAhead o map boards text rest w run) (same : rest ≡ piece ++ next) where
  -- the first bytes of a dump after which the run goes on
  first_read : TakesFirst map is.line run new piece true → IsDumpBetween o map boards text next w new
  first_read takes =
      let on = takes.1.reads refl in
      record {
        kind = takes.0;
        reached = on.after;
        reading = on.reading;
        judged = is.judged ∙ ap (dump_first w) (ap (blanks_whole map is.line run) same ∙ on.judges next);
      }

  -- the form after what is left
  pub form_left : form_after (form_after kinds.Unknown piece) next ≡ kinds.Dump
  form_left = sym (form_on kinds.Unknown piece next) ∙ ap (form_after kinds.Unknown) (sym same) ∙ is.form

  -- blanks after which the run goes on
  further_read : AreBlanks piece → TakesFurther map is.line run new piece true → IsDumpAhead o map boards text next w new
  further_read are takes =
      let skips = takes.1.takes in
      let reads = skips.reads refl in
      record {
        kind = takes.0;
        form = ap (λ kind. form_after kind next) (sym are) ∙ form_left;
        line = reads.after;
        blanks = record { reader = takes.1.reader; begin = reads.begin };
        judged =
            is.judged
            ∙ ap (dump_first w)
            (ap (blanks_whole map is.line run) same
            ∙ whole_on map is.line run new piece next reads are skips.judge skips.ports takes.1.counts);
        going = going_on map is.line run new new piece piece piece skips is.going;
      }

  -- a piece after which the run goes on, by the form of what is read then
  ahead_read : (kind : Kind) → form_after kinds.Unknown piece ≡ kind → TakesAny map run new piece true → IsDumpAt o map boards text next w new
  ahead_read kinds.Dump form takes = inr (first_read (takes.first is.line is.kind form is.blanks))
  ahead_read kinds.Log form takes = absurd (let log : kinds.Log ≡ kinds.Dump = ap (λ kind. form_after kind next) (sym form) ∙ form_left in cc log)
  ahead_read kinds.Unknown form takes = inl (further_read form (takes.blanks is.line is.kind form is.blanks))

-- a piece after which the run goes on
read_at : (o : Options) (map : Map) (boards : List Board) (run new : Run) (text rest piece next w : List ℕ) → IsDumpAt o map boards text rest w run
    → rest ≡ piece ++ next → TakesAny map run new piece true → IsDumpAt o map boards text next w new
read_at o map boards run new text rest piece next w (inl is) same takes =
    ahead_read o map boards run new text rest piece next w is same (form_after kinds.Unknown piece) refl takes
read_at o map boards run new text rest piece next w (inr is) same takes =
    inr (piece_read o map boards run new text rest piece next w is same (takes.dump is.reached is.kind is.reading))

-- a reader's piece after which the run goes on
pub dump_more : (o : Options) (map : Map) (boards : List Board) (whole left next : Option (List ℕ)) (w : List ℕ) (run new : Run) (piece : List ℕ)
    → DumpBetween o map boards whole left w run → Consumes left next piece → TakesAny map run new piece true
    → DumpBetween o map boards whole next w new
dump_more o map boards None left next w run new piece between is takes = tt
dump_more o map boards (Some text) None next w run new piece between is takes = absurd between
dump_more o map boards (Some text) (Some rest) None w run new piece between is takes = absurd is
dump_more o map boards (Some text) (Some rest) (Some next) w run new piece between is takes = λ dump.
    read_at o map boards run new text rest piece next w (between dump) is takes
