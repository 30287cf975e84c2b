-- What is judged does not depend on what was said before.
use Rattle.std.proofs.Common.{◌≡◌, ℕ, ◌+◌, Bool, true, false, ◌==◌, if◌then◌else◌, List, [], ◌∷◌, ◌++◌, append_assoc, append-nil, Option, Some, None, Result, Ok, Err, refl, ap, sym, ◌∙◌}
use Rattle.std.specs.Prelude.{string_bytes}
use Rattle.std.specs.List.{position}
use Rattle.std.specs.declared.alloc.Global.{Global}
use Rattle.std.specs.declared.string.String.{String}
use Rattle.vme_protocol.specs.declared.datum.Datum.{Datum}
use Rattle.vme_protocol.specs.declared.port.Local.{Local}
use Rattle.vme_protocol.specs.declared.rule.Rule.{Rule}
use Rattle.vme_protocol.specs.declared.sample.Sample.{Sample}
use Rattle.vme_protocol.specs.declared.watch.Watch.{Watch}
use Rattle.vme_protocol.specs.Watching.{answer_of}
use Rattle.vme_answers.specs.Taking.{Judged, local_taken, taken}
use Rattle.vme_vcd_reader.specs.declared.control.ControlLine.{ControlLine}
use Rattle.vme_judge.specs.declared.finding.Finding.{Finding}
use Rattle.vme_judge.specs.declared.judge.Judge.{Judge}
use Rattle.vme_judge.specs.declared.judge.Spot.{Spot}
use Rattle.vme_judge.specs.FindingTexts.{found_text}
use Rattle.vme_judge.specs.LogLines.{access_printed, datum_printed}
use Rattle.vme_judge.specs.Logs.{access_judged, access_known, access_taken, accessed}
use Rattle.vme_judge.specs.Seen.{one_more}
use Rattle.vme_judge.specs.Standing.{Course, Falls, Standing, Stands, begins_with, begun, closed, counted, course_map, course_then, datum_judged, datum_known, found_by, noted, opened, order_judged, passed_over, printed, resumed, sample_judged, sample_taken, samples_taken, shown_judged, standing, state_of, waited, with_finding}

-- what is remembered where this was said before
abbrev pub said_first : List ℕ → Standing → Standing
said_first w m = record m { said = w ++ m.said }

-- a trace where this was said before
abbrev pub course_first : List ℕ → Course → Course
course_first w (Stands m) = Stands (said_first w m)
course_first w (Falls finding m) = Falls finding (said_first w m)

-- what is taken does not depend on what was said before
abbrev pub Follows : List ℕ → (Standing → Course) → Type 0
Follows w f = (m : Standing) → f (said_first w m) ≡ course_first w (f m)

-- what is remembered with more said
abbrev pub with_said : Standing → List ℕ → Standing
with_said m said = record m { said = said }

module _ (w : List ℕ) where
  -- a trace that goes on
  pub then_first : (f : Standing → Course) → Follows w f → (c : Course) → course_then f (course_first w c) ≡ course_first w (course_then f c)
  then_first f follows (Stands m) = follows m
  then_first f follows (Falls finding m) = refl

  -- a trace of which what is remembered is changed
  pub map_first : (g : Standing → Standing) → ((m : Standing) → g (said_first w m) ≡ said_first w (g m)) → (c : Course)
      → course_map g (course_first w c) ≡ course_first w (course_map g c)
  map_first g same (Stands m) = ap Stands (same m)
  map_first g same (Falls finding m) = refl

  -- a trace after a finding, by whether the limit is reached
  resumed_by : (finding : Finding) (m : Standing) (last : Bool)
      → (if last then Falls finding (said_first w m) else Stands (with_finding finding (said_first w m)))
      ≡ course_first w (if last then Falls finding m else Stands (with_finding finding m))
  resumed_by finding m true = refl
  resumed_by finding m false =
      ap (λ said. Stands (with_said (with_finding finding m) said)) (append_assoc w m.said (found_text m.options finding))

  -- a trace after a finding
  pub resumed_first : (c : Course) → resumed (course_first w c) ≡ course_first w (resumed c)
  resumed_first (Stands m) = refl
  resumed_first (Falls finding m) = resumed_by finding m (one_more m.found == m.options.limit)

  -- what is remembered where no sample is watched, by whether the judgement begins
  waited_by : (s : Sample) (m : Standing) (begins : Bool)
      → (if begins then begun s (said_first w m) else passed_over s (said_first w m))
      ≡ said_first w (if begins then begun s m else passed_over s m)
  waited_by s m true = refl
  waited_by s m false = refl

  -- a trace after a datum, by the answer of its board
  known_first : (spot : Spot) (before s : Sample) (d : Datum) (k : Judged) (m : Standing) (r : Result Judged Rule)
      → datum_known spot before s d k (said_first w m) r ≡ course_first w (datum_known spot before s d k m r)
  known_first spot before s d k m (Ok next) = refl
  known_first spot before s d k m (Err rule) = refl

  -- a trace after a datum, by what is known
  judged_first : (spot : Spot) (before s : Sample) (d : Datum) (m : Standing) (k : Option Judged)
      → datum_judged spot before s d (said_first w m) k ≡ course_first w (datum_judged spot before s d m k)
  judged_first spot before s d m None = refl
  judged_first spot before s d m (Some k) = known_first spot before s d k m (taken k d)

  -- a trace after a sample, by the datum that it shows
  shown_first : (spot : Spot) (before s : Sample) (m : Standing) (datum : Option Datum)
      → shown_judged spot before s (said_first w m) datum ≡ course_first w (shown_judged spot before s m datum)
  shown_first spot before s m None = refl
  shown_first spot before s m (Some d) =
      let n : Standing = noted d (opened before s m) in
      ap (λ said. datum_judged spot before s d (with_said n said) m.answers) (append_assoc w m.said (datum_printed m.options.log spot s d))
      ∙ judged_first spot before s d (printed spot s d n) m.answers

  -- a trace after a sample, by the rule that it breaks
  order_first : (spot : Spot) (undefined : Option ControlLine) (v : Watch) (s : Sample) (m : Standing) (r : Result (Option Datum) Rule)
      → order_judged spot undefined v s (said_first w m) r ≡ course_first w (order_judged spot undefined v s m r)
  order_first spot undefined v s m (Err rule) = refl
  order_first spot undefined v s m (Ok datum) =
      ap (course_map (closed v.last s)) (shown_first spot v.last s (counted v s m) datum)
      ∙ map_first (closed v.last s) (λ m. refl) (shown_judged spot v.last s (counted v s m) datum)

  -- a trace after a sample, by the samples before it
  sample_by : (spot : Spot) (undefined : Option ControlLine) (s : Sample) (m : Standing) (v : Option Watch)
      → sample_judged spot undefined s (said_first w m) v ≡ course_first w (sample_judged spot undefined s m v)
  sample_by spot undefined s m None = ap Stands (waited_by s m (begins_with m s))
  sample_by spot undefined s m (Some v) = order_first spot undefined v s m (answer_of v s)

  -- a trace after a sample
  pub sample_first : (spot : Spot) (undefined : Option ControlLine) (s : Sample) → Follows w (sample_taken spot undefined s)
  unfolding sample_taken
  sample_first spot undefined s m = sample_by spot undefined s m m.watch

  -- a trace after samples
  pub samples_first : (spot : Spot) (samples : List Sample) → Follows w (samples_taken spot samples)
  samples_first spot [] m = refl
  samples_first spot (s ∷ samples) m =
      ap (course_then (samples_taken spot samples)) (sample_first spot None s m)
      ∙ then_first (samples_taken spot samples) (samples_first spot samples) (sample_taken spot None s m)

  -- a trace after a local access, by the board's answer
  access_by : (spot : Spot) (slot : ℕ) (a : Local) (board : ℕ) (k : Judged) (m : Standing) (r : Result Judged Rule)
      → access_known spot slot a board k (said_first w m) r ≡ course_first w (access_known spot slot a board k m r)
  access_by spot slot a board k m (Ok next) = refl
  access_by spot slot a board k m (Err rule) = refl

  -- a trace after a local access, by its board and what is known
  access_judged_first : (spot : Spot) (slot : ℕ) (a : Local) (m : Standing) (board : Option ℕ) (k : Option Judged)
      → access_judged spot slot a (said_first w m) board k ≡ course_first w (access_judged spot slot a m board k)
  access_judged_first spot slot a m None k = refl
  access_judged_first spot slot a m (Some board) None = refl
  access_judged_first spot slot a m (Some board) (Some k) = access_by spot slot a board k m (local_taken k board a)

  -- a trace after a local access
  pub access_first : (spot : Spot) (slot : ℕ) (a : Local) → Follows w (access_taken spot slot a)
  unfolding access_taken
  access_first spot slot a m =
      let board : Option ℕ = position (λ board. board.slot == slot) m.boards in
      ap (λ said. access_judged spot slot a (with_said (accessed spot slot a m) said) board m.answers)
      (append_assoc w m.said (access_printed m.options.log spot slot a))
      ∙ access_judged_first spot slot a (accessed spot slot a m) board m.answers

-- a trace, by what is found, before what is said is written and after it
written_by : (finding : Option Finding) (m : Standing) (rest : List ℕ) → rest ≡ []
    → found_by finding m ≡ course_first m.said (found_by finding (with_said m rest))
written_by None m rest empty = ap (λ said. Stands (with_said m said)) (sym (append-nil m.said) ∙ ap (λ rest. m.said ++ rest) (sym empty))
written_by (Some finding) m rest empty =
    ap (λ said. Falls finding (with_said m said)) (sym (append-nil m.said) ∙ ap (λ rest. m.said ++ rest) (sym empty))

-- a trace as far as a judgement has it, before what is said is written and after it
pub standing_written : (judge : Judge) (pending : String Global) → string_bytes pending ≡ []
    → standing judge ≡ course_first (string_bytes judge.pending) (standing (record judge { pending = pending }))
unfolding standing
standing_written judge pending empty = written_by judge.finding (state_of judge) (string_bytes pending) empty
