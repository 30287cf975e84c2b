-- A log that is judged piece by piece, from the text to what the run has judged.
use Rattle.std.proofs.Common.{◌≡◌, ℕ, Bool, true, false, ◌==◌, List, [], ◌∷◌, ◌++◌, Option, Some, None, Result, Ok, Err, IfOk, IfSome, refl, ap, sym, ◌∙◌}
use Rattle.std.specs.Prelude.{not, if◌then◌else◌, string_bytes}
use Rattle.std.specs.Io.KnownBytes.{Consumes, IsAtEnd}
use Rattle.std.proofs.lemmas.Bool.{false≢true}
use Rattle.std.specs.declared.alloc.AllocError.{AllocError}
use Rattle.std.specs.declared.alloc.Global.{Global}
use Rattle.std.specs.declared.string.String.{String}
use Rattle.vme_bus_log.specs.Texts.{log_says}
use Rattle.vme_bus_log.specs.declared.entry.LogDatum.{LogDatum}
use Rattle.vme_judge.specs.declared.boards.Board.{Board}
use Rattle.vme_judge.specs.declared.options.Options.{Options}
use Rattle.vme_judge.specs.declared.run.Kind.{Kind}
use Rattle.vme_judge.specs.declared.run.Kind.TheVariants as kinds
use Rattle.vme_judge.specs.declared.run.Run.{Run}
use Rattle.vme_judge.specs.Logs.{Cause, LogSoFar, Legal, so_far, log_taken}
use Rattle.vme_judge.specs.Openings.{opening}
use Rattle.vme_judge.specs.Runs.{run_so_far, log_whole, form_after, is_going, is_no_dump, IsGoing, Judges, TakesLog}
use Rattle.vme_judge.specs.Standing.{Course, Standing, Stands}
use Rattle.vme_judge.specs.Verdicts.{is_space, is_log, log_of}
use Rattle.vme_judge.proofs.LogSaying.{log_first, log_first-both, log_first-none, whole_written}
use Rattle.vme_judge.proofs.Over.{whole_over}

-- the form after two parts of a text, by whether the first byte is a blank or a $
form_by : (blank dollar : Bool) (more all : Kind) (rest : List ℕ) → all ≡ form_after more rest
    → (if blank then all else (if dollar then kinds.Dump else kinds.Log))
    ≡ form_after (if blank then more else (if dollar then kinds.Dump else kinds.Log)) rest
form_by true dollar more all rest is = is
form_by false true more all rest is = refl
form_by false false more all rest is = refl

-- the form after two parts of a text
pub form_on : (kind : Kind) (text rest : List ℕ) → form_after kind (text ++ rest) ≡ form_after (form_after kind text) rest
form_on kinds.Dump text rest = refl
form_on kinds.Log text rest = refl
form_on kinds.Unknown [] rest = refl
form_on kinds.Unknown (b ∷ text) rest =
    form_by (is_space b) (b == 36) (form_after kinds.Unknown text) (form_after kinds.Unknown (text ++ rest)) rest
    (form_on kinds.Unknown text rest)

-- whether a text is a log, by whether its first byte is a blank or a $
log_by : (blank dollar log : Bool) (kind : Kind) → log ≡ is_no_dump kind
    → (if blank then log else not dollar) ≡ is_no_dump (if blank then kind else (if dollar then kinds.Dump else kinds.Log))
log_by true dollar log kind is = is
log_by false true log kind is = refl
log_by false false log kind is = refl

-- a text is a log exactly if its form is no dump
pub log_form : (text : List ℕ) → is_log text ≡ is_no_dump (form_after kinds.Unknown text)
log_form [] = refl
log_form (b ∷ text) = log_by (is_space b) (b == 36) (is_log text) (form_after kinds.Unknown text) (log_form text)

-- a trace that is no dump is none before
pub no_dump_before : (kind : Kind) (rest : List ℕ) → is_no_dump (form_after kind rest) ≡ true → is_no_dump kind ≡ true
no_dump_before kinds.Dump rest is = is
no_dump_before kinds.Log rest is = refl
no_dump_before kinds.Unknown rest is = refl

-- a log before its first line
pub opens_as : (cause : Cause) (c : Course) (opened : Standing) (last : Option LogDatum) → c ≡ Stands opened → last ≡ None
    → so_far false cause c last ≡ Legal opened None
opens_as cause c opened last is none = ap (λ c. so_far false cause c last) is ∙ ap (Legal opened) none

-- bytes by which the form is found
pub takes_first : (old new : Run) (bytes : List ℕ) (result : Result Bool AllocError) (kind : Kind)
    → (IsGoing old → IfOk result (λ _. Judges old new bytes)) → IfOk result (λ _. new.kind ≡ kind) → kind ≡ form_after kinds.Unknown bytes
    → old.kind ≡ kinds.Unknown → IsGoing old → IfOk result (λ _. TakesLog old new bytes)
takes_first old new bytes (Err fault) kind judges stays form unknown on = tt
takes_first old new bytes (Ok goes_on) kind judges stays form unknown on =
    (stays ∙ form ∙ ap (λ kind. form_after kind bytes) (sym unknown), judges on)

-- bytes of a trace that is known to be a log
pub takes_more : (old new : Run) (bytes : List ℕ) (result : Result Bool AllocError) → (IsGoing old → IfOk result (λ _. Judges old new bytes))
    → IfOk result (λ _. new.kind ≡ old.kind) → old.kind ≡ kinds.Log → IsGoing old → IfOk result (λ _. TakesLog old new bytes)
takes_more old new bytes (Err fault) judges stays known on = tt
takes_more old new bytes (Ok goes_on) judges stays known on =
    (stays ∙ known ∙ ap (λ kind. form_after kind bytes) (sym known), judges on)

-- bytes of a dump are none of a log
pub takes_none : (old : Run) (bytes : List ℕ) → old.kind ≡ kinds.Dump → is_no_dump (form_after old.kind bytes) ≡ true → ⊥
takes_none old bytes dump log = false≢true (ap (λ kind. is_no_dump (form_after kind bytes)) (sym dump) ∙ log)

-- a run has judged a log up to the rest of its text, of which this was said and written
pub record IsBetween (o : Options) (boards : List Board) (text rest said : List ℕ) (run : Run) : Type 0 where
  pub kind : form_after run.kind rest ≡ form_after kinds.Unknown text
  pub judged : log_of o boards text ≡ log_first said (log_whole run rest)

-- a run has judged a reader's bytes up to those that are left, if they are known and are a log
abbrev pub Between : Options → List Board → Option (List ℕ) → Option (List ℕ) → List ℕ → Run → Type 0
Between o boards None left said run = Unit {0}
Between o boards (Some text) None said run = ⊥
Between o boards (Some text) (Some rest) said run = is_log text ≡ true → IsBetween o boards text rest said run

-- a run before the first byte
pub between_begins : (o : Options) (boards : List Board) (whole : Option (List ℕ)) (run : Run)
    → run_so_far run ≡ Legal (opening o boards) None → run.log.line ≡ [] → run.log.number ≡ 1 → run.kind ≡ kinds.Unknown
    → Between o boards whole whole [] run
unfolding log_of
between_begins o boards None run opens line number kind = tt
between_begins o boards (Some text) run opens line number kind = λ log. record {
  kind = ap (λ kind. form_after kind text) kind;
  judged = sym (
      log_first-none (log_whole run text)
      ∙ ap (λ log. log_taken log run.log.number (log_says (run.log.line ++ text))) opens
      ∙ ap (λ n. log_taken (Legal (opening o boards) None) n (log_says (run.log.line ++ text))) number
      ∙ ap (λ line. log_taken (Legal (opening o boards) None) 1 (log_says (line ++ text))) line
      );
}

-- what is written comes before what is said then
pub between_written : (o : Options) (boards : List Board) (whole left : Option (List ℕ)) (said : List ℕ) (run : Run) (pending : String Global)
    → string_bytes pending ≡ [] → Between o boards whole left said run
    → Between o boards whole left (said ++ string_bytes run.judge.pending) (record run { judge = record run.judge { pending = pending } })
between_written o boards None left said run pending empty between = tt
between_written o boards (Some text) None said run pending empty between = between
between_written o boards (Some text) (Some rest) said run pending empty between = λ log. record {
  kind = (between log).kind;
  judged =
      (between log).judged ∙ ap (log_first said) (whole_written run pending rest empty)
      ∙ log_first-both said (string_bytes run.judge.pending) (log_whole (record run { judge = record run.judge { pending = pending } }) rest);
}

module _ (o : Options) (boards : List Board) (run new : Run) (text rest piece next said : List ℕ) (log : is_log text ≡ true) (between : IsBetween o boards text rest said run) (is : rest ≡ piece ++ next) where
  -- the form of a piece is that of the whole
  piece_form : form_after (form_after run.kind piece) next ≡ form_after kinds.Unknown text
  piece_form = sym (form_on run.kind piece next) ∙ ap (form_after run.kind) (sym is) ∙ between.kind

  -- a piece of a log is one of a log
  piece_log : is_no_dump (form_after run.kind piece) ≡ true
  piece_log = no_dump_before (form_after run.kind piece) next (ap is_no_dump piece_form ∙ sym (log_form text) ∙ log)

  -- a log up to the end of a piece
  piece_taken : TakesLog run new piece → IsBetween o boards text next said new
  piece_taken takes = record {
    kind = ap (λ kind. form_after kind next) takes.0 ∙ piece_form;
    judged = between.judged ∙ ap (λ rest. log_first said (log_whole run rest)) is ∙ ap (log_first said) (takes.1 next);
  }

-- a reader's piece
pub between_more : (o : Options) (boards : List Board) (whole left next : Option (List ℕ)) (said : List ℕ) (run new : Run) (piece : List ℕ)
    → Between o boards whole left said run → Consumes left next piece
    → (is_no_dump (form_after run.kind piece) ≡ true → TakesLog run new piece) → Between o boards whole next said new
between_more o boards None left next said run new piece between is takes = tt
between_more o boards (Some text) None next said run new piece between is takes = absurd between
between_more o boards (Some text) (Some rest) None said run new piece between is takes = absurd is
between_more o boards (Some text) (Some rest) (Some next) said run new piece between is takes = λ log.
    piece_taken o boards run new text rest piece next said log (between log) is
    (takes (piece_log o boards run new text rest piece next said log (between log) is))

-- a run has judged a whole log, of which this was said and written
pub record IsWhole (o : Options) (boards : List Board) (text said : List ℕ) (run : Run) : Type 0 where
  pub kind : is_no_dump run.kind ≡ true
  pub judged : log_of o boards text ≡ log_first said (run_so_far run)

-- a run has judged all of a reader's bytes, if they are known and are a log
abbrev pub IsLogRead : Options → List Board → Option (List ℕ) → List ℕ → Run → Type 0
IsLogRead o boards whole said run = IfSome whole (λ text. is_log text ≡ true → IsWhole o boards text said run)

-- a run that has stopped
pub between_stops : (o : Options) (boards : List Board) (whole left : Option (List ℕ)) (said : List ℕ) (run : Run)
    → Between o boards whole left said run → is_going run ≡ false → IsLogRead o boards whole said run
between_stops o boards None left said run between off = tt
between_stops o boards (Some text) None said run between off = absurd between
between_stops o boards (Some text) (Some rest) said run between off = λ log. record {
  kind = no_dump_before run.kind rest (ap is_no_dump (between log).kind ∙ sym (log_form text) ∙ log);
  judged = (between log).judged ∙ ap (log_first said) (whole_over run rest off);
}

-- the end of a reader's bytes
pub between_ends : (o : Options) (boards : List Board) (whole left next : Option (List ℕ)) (said : List ℕ) (run new : Run)
    → Between o boards whole left said run → Consumes left next [] → IsAtEnd next → new.kind ≡ run.kind
    → (is_no_dump run.kind ≡ true → log_whole run [] ≡ run_so_far new) → IsLogRead o boards whole said new
between_ends o boards None left next said run new between is end kind judges = tt
between_ends o boards (Some text) None next said run new between is end kind judges = absurd between
between_ends o boards (Some text) (Some rest) None said run new between is end kind judges = absurd is
between_ends o boards (Some text) (Some rest) (Some next) said run new between is end kind judges = λ log.
    let no_dump = no_dump_before run.kind rest (ap is_no_dump (between log).kind ∙ sym (log_form text) ∙ log) in
    record {
      kind = ap is_no_dump kind ∙ no_dump;
      judged = (between log).judged ∙ ap (λ rest. log_first said (log_whole run rest)) (is ∙ end) ∙ ap (log_first said) (judges no_dump);
    }
