-- A log that is judged while it is read.
use Rattle.std.proofs.Common.{◌≡◌, ℕ, Bool, true, false, not, ◌&&◌, List, [], ◌∷◌, ◌++◌, append_assoc, append-nil, Option, Some, None, Result, Ok, Err, IfOk, is_some, refl, ap, sym, ◌∙◌}
use Rattle.std.specs.Prelude.{if◌then◌else◌}
use Rattle.std.specs.declared.alloc.AllocError.{AllocError}
use Rattle.std.specs.declared.alloc.Global.{Global}
use Rattle.std.specs.declared.string.String.{String}
use Rattle.vme_bus_log.specs.Faults.{Fault}
use Rattle.vme_bus_log.specs.Texts.{log_says, Reading, SaysAs}
use Rattle.vme_bus_log.specs.declared.entry.LogAccess.{LogAccess}
use Rattle.vme_bus_log.specs.declared.entry.LogDatum.{LogDatum}
use Rattle.vme_bus_log.specs.declared.entry.LogEntry.{LogEntry}
use Rattle.vme_bus_log.specs.declared.entry.LogEntry.TheVariants as entries
use Rattle.vme_judge.specs.declared.finding.Finding.{Finding}
use Rattle.vme_judge.specs.declared.judge.Judge.{Judge}
use Rattle.vme_judge.specs.declared.rejection.Rejection.{Rejection}
use Rattle.vme_judge.specs.declared.run.Run.{Run}
use Rattle.vme_judge.specs.Seen.{one_more}
use Rattle.vme_judge.specs.Standing.{Course, Falls, IsStanding, Standing, Stands, course_then, resumed, standing, stands, state_of}
use Rattle.vme_judge.specs.Logs.{Cause, Broken, access_spot, access_taken, break_after, datum_by, datum_on, datum_spot, line_taken, local_of, log_by, log_taken, next_taken, so_far}
use Rattle.vme_judge.specs.Runs.{IsGoing, Judges, TakesLine, cause_of, is_going, log_whole, run_so_far}
use Rattle.vme_judge.proofs.Blanks.{left_then}
use Rattle.vme_judge.proofs.Over.{is_over, whole_over}
use Rattle.vme_judge.proofs.Samples.{stands_by}

-- a trace that goes on is not rejected, and stands
going_by : (rejected stood : Bool) → (not rejected && stood) ≡ true → (rejected ≡ false) × (stood ≡ true)
going_by true stood on = absurd (cc on)
going_by false stood on = (refl, on)

-- a run that goes on has rejected nothing
pub going_whole : (run : Run) → IsGoing run → is_some run.rejection ≡ false
going_whole run on = (going_by (is_some run.rejection) (stands (standing run.judge)) on).0

-- a run that goes on stands
pub going_stands : (run : Run) → IsGoing run → IsStanding (standing run.judge)
going_stands run on = (going_by (is_some run.rejection) (stands (standing run.judge)) on).1

-- a run that has rejected nothing goes on if it stands
pub goes_if : (rejected : Bool) (goes_on stood : Bool) → rejected ≡ false → goes_on ≡ stood → goes_on ≡ (not rejected && stood)
goes_if true goes_on stood none is = absurd (cc none)
goes_if false goes_on stood none is = is

-- a run that has rejected its text does not go on
pub stops_if : (rejected stood : Bool) → rejected ≡ true → false ≡ (not rejected && stood)
stops_if true stood is = refl
stops_if false stood is = absurd (cc is)

-- a line that is taken
taken_by : (was now : Option Rejection) (old new : Course) (last next : Option LogDatum) (line : ℕ) (says : Result LogEntry Fault)
    → (not (is_some was) && stands old) ≡ true → now ≡ was → ((m : Standing) → old ≡ Stands m → log_by next new ≡ line_taken line m last says)
    → so_far (is_some now) (cause_of now) new next ≡ next_taken (so_far (is_some was) (cause_of was) old last) line says
taken_by (Some r) now old new last next line says on same taken = absurd (cc on)
taken_by None now (Falls finding m) new last next line says on same taken = absurd (cc on)
taken_by None now (Stands m) new last next line says on same taken =
    ap (λ (r : Option Rejection). so_far (is_some r) (cause_of r) new next) same ∙ taken m refl

-- a line that is rejected
refused_by : (was now : Option Rejection) (old : Course) (last next : Option LogDatum) (cause : Cause) (line : ℕ) (says : Result LogEntry Fault)
    → (not (is_some was) && stands old) ≡ true → is_some now ≡ true → cause_of now ≡ (if is_some was then cause_of was else cause)
    → ((m : Standing) → line_taken line m last says ≡ Broken cause m)
    → so_far (is_some now) (cause_of now) old next ≡ next_taken (so_far (is_some was) (cause_of was) old last) line says
refused_by (Some r) now old last next cause line says on is why broken = absurd (cc on)
refused_by None now (Falls finding m) last next cause line says on is why broken = absurd (cc on)
refused_by None now (Stands m) last next cause line says on is why broken =
    ap (λ test. so_far test (cause_of now) (Stands m) next) is ∙ ap (λ c. Broken c m) why ∙ sym (broken m)

-- a run that has taken a line
pub line_is_taken : (old new : Run) (line : ℕ) (says : Result LogEntry Fault) → IsGoing old → new.rejection ≡ old.rejection
    → ((m : Standing) → standing old.judge ≡ Stands m → log_by new.state.last (standing new.judge) ≡ line_taken line m old.state.last says)
    → TakesLine old new line says
unfolding run_so_far
line_is_taken old new line says on same taken =
    taken_by old.rejection new.rejection (standing old.judge) (standing new.judge) old.state.last new.state.last line says on same taken

-- a run that has rejected a line
pub line_is_refused : (old new : Run) (cause : Cause) (line : ℕ) (says : Result LogEntry Fault) → IsGoing old → is_some new.rejection ≡ true
    → cause_of new.rejection ≡ (if is_some old.rejection then cause_of old.rejection else cause) → new.judge ≡ old.judge
    → ((m : Standing) → line_taken line m old.state.last says ≡ Broken cause m) → TakesLine old new line says
unfolding run_so_far
line_is_refused old new cause line says on is why judge broken =
    ap (λ j. so_far (is_some new.rejection) (cause_of new.rejection) (standing j) new.state.last) judge
    ∙ refused_by old.rejection new.rejection (standing old.judge) old.state.last new.state.last cause line says on is why broken

-- a run of which these bytes of a log are left to judge
abbrev pub Leaves : Run → Run → List ℕ → List ℕ → Type 0
Leaves old new bytes left = (rest : List ℕ) → log_whole old (bytes ++ rest) ≡ log_whole new (left ++ rest)

-- a run that has judged one more line
pub leaves_after : (old mid new : Run) (bytes left line after : List ℕ) → Leaves old mid bytes left → left ≡ line ++ 10 ∷ after
    → Judges mid new (line ++ 10 ∷ []) → Leaves old new bytes after
leaves_after old mid new bytes left line after one parts two = λ rest.
    one rest ∙ ap (log_whole mid) (left_then left line after rest parts) ∙ two (after ++ rest)

-- a run that has stopped has judged all bytes
pub judges_all : (old new : Run) (bytes left : List ℕ) → Leaves old new bytes left → is_going new ≡ false → Judges old new bytes
judges_all old new bytes left judges off = λ rest. judges rest ∙ whole_over new (left ++ rest) off ∙ sym (whole_over new rest off)

-- a run that keeps the begin of a line has judged all bytes
pub judges_kept : (old mid new : Run) (read : Reading) (bytes left : List ℕ) → Leaves old mid bytes left → run_so_far new ≡ run_so_far mid
    → new.log ≡ read → SaysAs (mid.log.line ++ left) read.line → read.number ≡ mid.log.number → Judges old new bytes
judges_kept old mid new read bytes left judges same log says number = λ rest.
    let lines : log_says (mid.log.line ++ (left ++ rest)) ≡ log_says (new.log.line ++ rest) =
    ap log_says (sym (append_assoc mid.log.line left rest)) ∙ says rest ∙ ap (λ (r : Reading). log_says (r.line ++ rest)) (sym log) in
    let line : mid.log.number ≡ new.log.number = sym number ∙ ap (λ (r : Reading). r.number) (sym log) in
    judges rest
    ∙ ap (λ log. log_taken log mid.log.number (log_says (mid.log.line ++ (left ++ rest)))) (sym same)
    ∙ ap (λ n. log_taken (run_so_far new) n (log_says (mid.log.line ++ (left ++ rest)))) line
    ∙ ap (log_taken (run_so_far new) new.log.number) lines

module _ (old new : Run) (line : List ℕ) (says : Result LogEntry Fault) (taken : TakesLine old new old.log.number says) (ends : (rest : List ℕ) → log_says (old.log.line ++ (line ++ 10 ∷ rest)) ≡ says ∷ log_says rest) where
  -- a log after the rest of a line
  line_then : (rest : List ℕ) → log_whole old ((line ++ 10 ∷ []) ++ rest) ≡ log_taken (run_so_far new) (one_more old.log.number) (log_says rest)
  line_then rest =
      ap (log_whole old) (append_assoc line (10 ∷ []) rest) ∙ ap (log_taken (run_so_far old) old.log.number) (ends rest)
      ∙ ap (λ log. log_taken log (one_more old.log.number) (log_says rest)) (sym taken)

  -- a run that has judged the rest of a line
  pub line_pushed : (read : Reading) → new.log ≡ read → read ≡ record { line = []; number = one_more old.log.number } → Judges old new (line ++ 10 ∷ [])
  line_pushed read log next = λ rest.
      line_then rest ∙ ap (λ (r : Reading). log_taken (run_so_far new) r.number (log_says (r.line ++ rest))) (sym (log ∙ next))

  -- a run that has rejected the rest of a line
  pub line_stopped : is_going new ≡ false → Judges old new (line ++ 10 ∷ [])
  line_stopped off = λ rest. line_then rest ∙ is_over new (one_more old.log.number) (log_says rest) off ∙ sym (whole_over new rest off)

-- a run that has judged the line with which a log ends
pub ended_taken : (old new : Run) (says : Result LogEntry Fault) → TakesLine old new old.log.number says → log_says old.log.line ≡ says ∷ []
    → log_whole old [] ≡ run_so_far new
ended_taken old new says taken ends =
    ap (λ line. log_taken (run_so_far old) old.log.number (log_says line)) (append-nil old.log.line)
    ∙ ap (log_taken (run_so_far old) old.log.number) ends ∙ sym taken

-- whether a run goes on does not depend on what is not written yet
pub going_written : (run : Run) (pending : String Global)
    → is_going (record run { judge = record run.judge { pending = pending } }) ≡ is_going run
unfolding standing
going_written run pending =
    ap (λ stood. not (is_some run.rejection) && stood)
    (stands_by run.judge.finding (state_of (record run.judge { pending = pending })) ∙ sym (stands_by run.judge.finding (state_of run.judge)))

-- a run that has taken the datum of a line
pub datum_is_taken : (old new : Run) (line : ℕ) (d : LogDatum) (result : Result Bool AllocError) → IsGoing old → new.rejection ≡ old.rejection
    → break_after old.state.last d ≡ None
    → ((m : Standing) → standing old.judge ≡ Stands m
    → IfOk result (λ _. log_by new.state.last (standing new.judge) ≡ datum_on (datum_spot line d) m old.state.last d))
    → IfOk result (λ _. TakesLine old new line (Ok (entries.Datum d)))
datum_is_taken old new line d (Err fault) on same none taken = tt
datum_is_taken old new line d (Ok goes_on) on same none taken =
    line_is_taken old new line (Ok (entries.Datum d)) on same (λ m is. taken m is ∙ ap (datum_by line m old.state.last d) (sym none))

-- a run that has taken the local access of a line
pub access_is_taken : (old new : Run) (line : ℕ) (a : LogAccess) (result : Result Bool AllocError) → IsGoing old → new.rejection ≡ old.rejection
    → new.state.last ≡ old.state.last
    → (IsStanding (standing old.judge) → IfOk result (λ _. standing new.judge
    ≡ course_then (λ m. resumed (access_taken (access_spot line a) a.slot (local_of a) m)) (standing old.judge)))
    → IfOk result (λ _. TakesLine old new line (Ok (entries.Access a)))
access_is_taken old new line a (Err fault) on same last taken = tt
access_is_taken old new line a (Ok goes_on) on same last taken =
    line_is_taken old new line (Ok (entries.Access a)) on same (λ m is.
    ap (λ last. log_by last (standing new.judge)) last ∙ ap (log_by old.state.last) (taken (going_stands old on)
    ∙ ap (course_then (λ m. resumed (access_taken (access_spot line a) a.slot (local_of a) m))) is))

-- whether a run goes on after what its judgement takes
pub goes_after : (old new : Run) (result : Result Bool AllocError) → IsGoing old → new.rejection ≡ old.rejection
    → (IsStanding (standing old.judge) → IfOk result (λ goes_on. goes_on ≡ stands (standing new.judge)))
    → IfOk result (λ goes_on. goes_on ≡ is_going new)
goes_after old new (Err fault) on same goes = tt
goes_after old new (Ok goes_on) on same goes =
    goes_if (is_some new.rejection) goes_on (stands (standing new.judge)) (ap is_some same ∙ going_whole old on) (goes (going_stands old on))
