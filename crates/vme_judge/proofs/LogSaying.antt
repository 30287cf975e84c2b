-- What is judged of a log does not depend on what was said before.
use Rattle.std.proofs.Common.{◌≡◌, ℕ, Bool, true, false, ◌==◌, if◌then◌else◌, List, [], ◌∷◌, ◌++◌, append_assoc, Option, Some, None, Result, Ok, Err, is_some, refl, ap, sym, ◌∙◌}
use Rattle.std.specs.Prelude.{string_bytes}
use Rattle.std.specs.declared.alloc.Global.{Global}
use Rattle.std.specs.declared.string.String.{String}
use Rattle.vme_bus_log.specs.Faults.{Fault}
use Rattle.vme_bus_log.specs.Texts.{log_says}
use Rattle.vme_bus_log.specs.declared.entry.LogAccess.{LogAccess}
use Rattle.vme_bus_log.specs.declared.entry.LogDatum.{LogDatum}
use Rattle.vme_bus_log.specs.declared.entry.LogEntry.{LogEntry}
use Rattle.vme_bus_log.specs.declared.entry.LogEntry.TheVariants as entries
use Rattle.vme_judge.specs.declared.judge.Judge.{Judge}
use Rattle.vme_judge.specs.declared.judge.Spot.{Spot}
use Rattle.vme_judge.specs.declared.log.LogBreak.{LogBreak}
use Rattle.vme_judge.specs.Logs.{Broken, Cause, Illegal, Legal, LogSoFar, access_spot, access_taken, addressed_by, begun_by, break_after, datum_by, datum_further, datum_on, datum_spot, first_taken, line_taken, local_of, log_by, log_says_before, log_taken, next_taken, shown_by, so_far, status_of, unstarted}
use Rattle.vme_judge.specs.declared.run.Run.{Run}
use Rattle.vme_judge.specs.Runs.{cause_of, log_whole, run_so_far}
use Rattle.vme_judge.specs.Samples.{address_samples, datum_samples, fall_samples}
use Rattle.vme_judge.specs.Seen.{one_more}
use Rattle.vme_judge.specs.Standing.{Course, Falls, Standing, Stands, course_map, course_then, resumed, samples_taken, standing}
use Rattle.vme_judge.proofs.Saying.{Follows, access_first, course_first, map_first, resumed_first, said_first, samples_first, standing_written, then_first}

-- a log where this was said before
abbrev pub log_first : List ℕ → LogSoFar → LogSoFar
log_first w (Legal m last) = Legal (said_first w m) last
log_first w (Illegal finding m) = Illegal finding (said_first w m)
log_first w (Broken cause m) = Broken cause (said_first w m)

module _ (w : List ℕ) where
  -- a log by its course
  pub by_first : (last : Option LogDatum) (c : Course) → log_by last (course_first w c) ≡ log_first w (log_by last c)
  by_first last (Stands m) = refl
  by_first last (Falls finding m) = refl

  -- a log by whether it is broken
  pub so_far_first : (rejected : Bool) (cause : Cause) (c : Course) (last : Option LogDatum)
      → so_far rejected cause (course_first w c) last ≡ log_first w (so_far rejected cause c last)
  so_far_first true cause (Stands m) last = refl
  so_far_first true cause (Falls finding m) last = refl
  so_far_first false cause c last = by_first last c

  -- a datum after its samples
  shown_by_first : (d : LogDatum) (c : Course) → shown_by d (course_first w c) ≡ log_first w (shown_by d c)
  shown_by_first d (Stands m) = refl
  shown_by_first d (Falls finding m) =
      ap (log_by None) (resumed_first w (Falls finding m)) ∙ by_first None (resumed (Falls finding m))

  -- AS* falls
  begun_first : (spot : Spot) (d : LogDatum) → Follows w (begun_by spot d)
  begun_first spot d m =
      ap (course_map unstarted) (samples_first w spot (fall_samples d) m)
      ∙ map_first w unstarted (λ m. refl) (samples_taken spot (fall_samples d) m)

  -- a transfer begins
  addressed_first : (spot : Spot) (d : LogDatum) → Follows w (addressed_by spot d)
  addressed_first spot d m =
      ap (course_then (samples_taken spot (address_samples d))) (begun_first spot d m)
      ∙ then_first w (samples_taken spot (address_samples d)) (samples_first w spot (address_samples d)) (begun_by spot d m)

  -- a transfer begins with its first datum
  first_first : (spot : Spot) (d : LogDatum) → Follows w (first_taken spot d)
  first_first spot d m =
      ap (course_then (samples_taken spot (datum_samples d))) (addressed_first spot d m)
      ∙ then_first w (samples_taken spot (datum_samples d)) (samples_first w spot (datum_samples d)) (addressed_by spot d m)

  -- a datum that begins no transfer
  further_first : (spot : Spot) (m : Standing) (last : Option LogDatum) (d : LogDatum)
      → datum_further spot (said_first w m) last d ≡ log_first w (datum_further spot m last d)
  further_first spot m None d = refl
  further_first spot m (Some last) d =
      ap (shown_by d) (samples_first w spot (datum_samples d) m) ∙ shown_by_first d (samples_taken spot (datum_samples d) m)

  -- a datum, by whether it begins a transfer
  on_by : (spot : Spot) (m : Standing) (last : Option LogDatum) (d : LogDatum) (begins : Bool)
      → (if begins then shown_by d (first_taken spot d (said_first w m)) else datum_further spot (said_first w m) last d)
      ≡ log_first w (if begins then shown_by d (first_taken spot d m) else datum_further spot m last d)
  on_by spot m last d true = ap (shown_by d) (first_first spot d m) ∙ shown_by_first d (first_taken spot d m)
  on_by spot m last d false = further_first spot m last d

  -- a datum of a line, by why it does not go on
  datum_first : (line : ℕ) (m : Standing) (last : Option LogDatum) (d : LogDatum) (why : Option LogBreak)
      → datum_by line (said_first w m) last d why ≡ log_first w (datum_by line m last d why)
  datum_first line m last d None = on_by (datum_spot line d) m last d (d.index == 0)
  datum_first line m last d (Some why) = refl

  -- a line
  line_first : (line : ℕ) (m : Standing) (last : Option LogDatum) (says : Result LogEntry Fault)
      → line_taken line (said_first w m) last says ≡ log_first w (line_taken line m last says)
  line_first line m last (Err fault) = refl
  line_first line m last (Ok entries.Nothing) = refl
  line_first line m last (Ok (entries.Datum d)) = datum_first line m last d (break_after last d)
  line_first line m last (Ok (entries.Access a)) =
      let c : Course = access_taken (access_spot line a) a.slot (local_of a) m in
      ap (λ c. log_by last (resumed c)) (access_first w (access_spot line a) a.slot (local_of a) m)
      ∙ ap (log_by last) (resumed_first w c) ∙ by_first last (resumed c)

  -- a line of a log
  next_first : (log : LogSoFar) (line : ℕ) (says : Result LogEntry Fault)
      → next_taken (log_first w log) line says ≡ log_first w (next_taken log line says)
  next_first (Legal m last) line says = line_first line m last says
  next_first (Illegal finding m) line says = refl
  next_first (Broken cause m) line says = refl

  -- lines of a log
  pub lines_first : (log : LogSoFar) (line : ℕ) (lines : List (Result LogEntry Fault))
      → log_taken (log_first w log) line lines ≡ log_first w (log_taken log line lines)
  lines_first log line [] = refl
  lines_first log line (says ∷ lines) =
      ap (λ log. log_taken log (one_more line) lines) (next_first log line says) ∙ lines_first (next_taken log line says) (one_more line) lines

  -- the verdict
  pub status_first : (log : LogSoFar) → status_of (log_first w log) ≡ status_of log
  status_first (Legal m last) = refl
  status_first (Illegal finding m) = refl
  status_first (Broken cause m) = refl

  -- what is said before the verdict
  pub says_first : (log : LogSoFar) → log_says_before (log_first w log) ≡ w ++ log_says_before log
  says_first (Legal m last) = refl
  says_first (Illegal finding m) = refl
  says_first (Broken cause m) = refl

-- a log where two texts were said before
pub log_first-both : (v w : List ℕ) (log : LogSoFar) → log_first v (log_first w log) ≡ log_first (v ++ w) log
log_first-both v w (Legal m last) = ap (λ said. let n : Standing = record m { said = said } in Legal n last) (sym (append_assoc v w m.said))
log_first-both v w (Illegal finding m) =
    ap (λ said. let n : Standing = record m { said = said } in Illegal finding n) (sym (append_assoc v w m.said))
log_first-both v w (Broken cause m) =
    ap (λ said. let n : Standing = record m { said = said } in Broken cause n) (sym (append_assoc v w m.said))

-- a log where nothing was said before
pub log_first-none : (log : LogSoFar) → log_first [] log ≡ log
log_first-none (Legal m last) = refl
log_first-none (Illegal finding m) = refl
log_first-none (Broken cause m) = refl

-- a log as far as it is judged, before what is said is written and after it
pub whole_written : (run : Run) (pending : String Global) (rest : List ℕ) → string_bytes pending ≡ []
    → log_whole run rest ≡ log_first (string_bytes run.judge.pending) (log_whole (record run { judge = record run.judge { pending = pending } }) rest)
unfolding run_so_far
whole_written run pending rest empty =
    let w : List ℕ = string_bytes run.judge.pending in
    let judge : Judge = record run.judge { pending = pending } in
    let lines : List (Result LogEntry Fault) = log_says (run.log.line ++ rest) in
    ap (λ c. log_taken (so_far (is_some run.rejection) (cause_of run.rejection) c run.state.last) run.log.number lines)
    (standing_written run.judge pending empty)
    ∙ ap (λ log. log_taken log run.log.number lines)
    (so_far_first w (is_some run.rejection) (cause_of run.rejection) (standing judge) run.state.last)
    ∙ lines_first w (so_far (is_some run.rejection) (cause_of run.rejection) (standing judge) run.state.last) run.log.number lines
