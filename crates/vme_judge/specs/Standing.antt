-- What is remembered of a trace that is judged, and what is found at a sample that is not legal.
use Rattle.std.specs.Prelude.{◌≡◌, ℕ, Bool, true, false, not, ◌==◌, ◌&&◌, ◌||◌, if◌then◌else◌, List, [], ◌∷◌, ◌++◌, slice_get, string_bytes, Option, Some, None, is_none, Result, Ok, Err}
use Rattle.std.specs.Option.{option_map}
use Rattle.vme_protocol.specs.declared.datum.Datum.{Datum}
use Rattle.vme_protocol.specs.declared.rule.Rule.{Rule}
use Rattle.vme_protocol.specs.declared.sample.Sample.{Sample}
use Rattle.vme_protocol.specs.declared.scope.Scope.{Scope}
use Rattle.vme_protocol.specs.declared.transfer.Transfer.{Transfer}
use Rattle.vme_protocol.specs.declared.watch.Watch.{Watch}
use Rattle.vme_protocol.specs.Samples.{is_at_rest}
use Rattle.vme_protocol.specs.Watching.{answer_of, broken, started, next_watch}
use Rattle.vme_vcd_reader.specs.declared.presence.Presence.{Presence}
use Rattle.vme_answers.specs.declared.wrong.Wrong.{Wrong}
use Rattle.vme_answers.specs.Taking.{Judged, taken}
use Rattle.vme_answers.specs.Wrongs.{wrong_of}
use Rattle.vme_vcd_reader.specs.declared.control.ControlLine.{ControlLine}
use Rattle.vme_judge.specs.declared.boards.Board.{Board}
use Rattle.vme_judge.specs.declared.counts.Counts.{Counts}
use Rattle.vme_judge.specs.declared.finding.Asked.TheVariants as askeds
use Rattle.vme_judge.specs.declared.finding.Broken.TheVariants as brokens
use Rattle.vme_judge.specs.declared.finding.Finding.{Finding}
use Rattle.vme_judge.specs.declared.judge.Judge.{Judge}
use Rattle.vme_judge.specs.declared.judge.Spot.{Spot}
use Rattle.vme_judge.specs.declared.options.Options.{Options}
use Rattle.vme_judge.specs.declared.transfer.OpenTransfer.{OpenTransfer}
use Rattle.vme_judge.specs.FindingTexts.{found_text}
use Rattle.vme_judge.specs.Forgetting.{without_opened, without_transfer, without_watched, without_wrong}
use Rattle.vme_judge.specs.LogLines.{datum_printed}
use Rattle.vme_judge.specs.Seen.{counts_opened, closed_at, one_more, opened_at, with_data, with_datum}

-- what is remembered of a trace: what is asked, which rules are judged, the lines that a dump has, once its header is read, the
-- boards, the samples (none before the first at rest), what is known of the boards' bytes, if answers are judged, what was seen,
-- the transfer that is open, the number of findings, whether AS* was low in the last sample that was left out, and what is said
-- before the verdict: the lines of the bus log, and the findings after which the judgement went on
pub record Standing : Type 0 where
  pub options : Options
  pub scope : Scope
  pub presence : Presence
  pub boards : List Board
  pub watch : Option Watch
  pub answers : Option Judged
  pub counts : Counts
  pub transfer : Option OpenTransfer
  pub found : ℕ
  pub is_under : Bool
  pub said : List ℕ

-- a trace so far: it stands, with what is remembered of it; or it falls with a finding, with what is remembered after it
pub data Course : Type 0 where
  Stands : Standing → Course
  Falls : Finding → Standing → Course

-- a trace that stands goes on
abbrev pub course_then : (Standing → Course) → Course → Course
course_then f (Stands m) = f m
course_then f (Falls finding m) = Falls finding m

-- what is remembered of a trace that stands is changed
abbrev pub course_map : (Standing → Standing) → Course → Course
course_map f (Stands m) = Stands (f m)
course_map f (Falls finding m) = Falls finding m

-- what is remembered of a trace
abbrev pub remembered : Course → Standing
remembered (Stands m) = m
remembered (Falls finding m) = m

-- whether a trace stands
abbrev pub stands : Course → Bool
stands (Stands m) = true
stands (Falls finding m) = false

-- a trace stands
abbrev pub IsStanding : Course → Type 0
IsStanding c = stands c ≡ true

-- a trace has fallen
abbrev pub HasFallen : Course → Type 0
HasFallen c = stands c ≡ false

-- what is remembered with one finding more, which is said
abbrev pub with_finding : Finding → Standing → Standing
with_finding finding m = record m { found = one_more m.found; said = m.said ++ found_text m.options finding }

-- a trace after a finding: the judgement goes on, unless the limit is reached
abbrev pub resumed : Course → Course
resumed (Stands m) = Stands m
resumed (Falls finding m) = if one_more m.found == m.options.limit then Falls finding m else Stands (with_finding finding m)

-- the slot of a board by its place, if it has one
abbrev pub slot_of : List Board → Option ℕ → Option ℕ
slot_of boards None = None
slot_of boards (Some index) = option_map (λ b. b.slot) (slice_get boards index)

-- the finding at a sample that breaks a rule of the order
abbrev pub order_finding : Spot → Option ControlLine → Sample → Sample → Option OpenTransfer → Rule → Finding
order_finding spot undefined before s transfer rule = record {
  line = spot.line;
  time = spot.time;
  broken = brokens.Order rule;
  samples = Some (before, s);
  transfer = transfer;
  undefined = undefined;
}

-- the finding at a sample whose datum is not that of a board
abbrev pub answer_finding : Spot → List Board → Sample → Sample → Option OpenTransfer → Datum → Wrong → Finding
answer_finding spot boards before s transfer d wrong = record {
  line = spot.line;
  time = spot.time;
  broken = brokens.Answer wrong (askeds.Datum d) (slot_of boards wrong.board);
  samples = Some (before, s);
  transfer = transfer;
  undefined = None;
}

-- whether a sample breaks no rule beside itself
abbrev pub is_lawful : Scope → Sample → Bool
is_lawful scope s = is_none (broken (started scope s) s)

-- whether the judgement begins with a sample: the first at rest; after a finding it breaks no rule by itself
abbrev pub begins_with : Standing → Sample → Bool
begins_with m s = is_at_rest s && (m.found == 0 || is_lawful m.scope s)

-- what is remembered after the sample with which the judgement begins
abbrev pub begun : Sample → Standing → Standing
begun s m = record m {
  watch = Some (started m.scope s);
  counts = record m.counts { samples = one_more m.counts.samples };
}

-- what is remembered after a sample that is left out: after a finding the bytes of the transfer are forgotten that it opens
abbrev pub passed_over : Sample → Standing → Standing
passed_over s m = record m {
  counts = record m.counts { skipped = one_more m.counts.skipped };
  answers =
      if not (m.found == 0) && not m.is_under && not s.address_strobe then without_opened m.boards m.scope s m.answers
      else m.answers;
  is_under = not s.address_strobe;
}

-- what is remembered after a sample where none is watched
abbrev pub waited : Sample → Standing → Standing
waited s m = if begins_with m s then begun s m else passed_over s m

-- what is remembered after an illegal sample: no transfer is open, the bytes of one that it opens are forgotten, and the
-- judgement begins anew with it, if it is at rest and breaks no rule by itself
abbrev pub begun_after : Sample → Standing → Standing
begun_after s m = record m {
  transfer = None;
  watch = if is_at_rest s && is_lawful m.scope s then Some (started m.scope s) else None;
  is_under = not s.address_strobe;
  answers = if s.address_strobe then m.answers else without_opened m.boards m.scope s m.answers;
}

-- what is remembered once the bytes of a transfer are forgotten, if it is begun
abbrev pub without_begun : Bool → Transfer → Standing → Standing
without_begun begins t m = record m { answers = if begins then without_transfer m.boards t false m.answers else m.answers }

-- what is remembered after a sample that breaks a rule of the order
abbrev pub unordered : Watch → Sample → Standing → Standing
unordered w s m = begun_after s (without_begun (not w.last.address_strobe) w.transfer m)

-- what is remembered after a sample whose datum has a wrong answer, of which this was known: its bytes and those of its transfer
-- are forgotten
abbrev pub refused : Sample → Wrong → Judged → Standing → Standing
refused s wrong k m =
    begun_after s (record m { answers = without_watched m.boards m.watch (Some (without_wrong wrong wrong.board k)) })

-- what is remembered of a sample that breaks no rule of the order: it is the last one, and counted
abbrev pub counted : Watch → Sample → Standing → Standing
counted w s m = record m {
  watch = Some (next_watch w s);
  counts = record m.counts { samples = one_more m.counts.samples };
}

-- the transfer and the tenure that begin at a sample
abbrev pub opened : Sample → Sample → Standing → Standing
opened before s m = record m {
  counts = counts_opened before s m.counts;
  transfer = opened_at before s m.transfer;
}

-- the transfer that ends at a sample
abbrev pub closed : Sample → Sample → Standing → Standing
closed before s m = record m { transfer = closed_at before s m.transfer }

-- a datum is counted, and is the last one of its transfer
abbrev pub noted : Datum → Standing → Standing
noted d m = record m { counts = with_data m.counts; transfer = with_datum d m.transfer }

-- what is remembered once the line of a datum is printed, if the bus log is
abbrev pub printed : Spot → Sample → Datum → Standing → Standing
printed spot s d m = record m { said = m.said ++ datum_printed m.options.log spot s d }

-- a trace after a datum, by the answer of its board
abbrev pub datum_known : Spot → Sample → Sample → Datum → Judged → Standing → Result Judged Rule → Course
datum_known spot before s d k m (Ok next) = Stands (record m { answers = Some next })
datum_known spot before s d k m (Err rule) =
    Falls (answer_finding spot m.boards before s m.transfer d (wrong_of k d rule)) (refused s (wrong_of k d rule) k m)

-- a trace after a datum, by what is known of the boards' bytes: if answers are not judged, each is legal
abbrev pub datum_judged : Spot → Sample → Sample → Datum → Standing → Option Judged → Course
datum_judged spot before s d m None = Stands m
datum_judged spot before s d m (Some k) = datum_known spot before s d k m (taken k d)

-- a trace after a sample, by the datum that it shows
abbrev pub shown_judged : Spot → Sample → Sample → Standing → Option Datum → Course
shown_judged spot before s m None = Stands (opened before s m)
shown_judged spot before s m (Some d) = datum_judged spot before s d (printed spot s d (noted d (opened before s m))) m.answers

-- a trace after a sample, by the rule of the order that it breaks or the datum that it shows
abbrev pub order_judged : Spot → Option ControlLine → Watch → Sample → Standing → Result (Option Datum) Rule → Course
order_judged spot undefined w s m (Err rule) =
    Falls (order_finding spot undefined w.last s m.transfer rule) (unordered w s (counted w s m))
order_judged spot undefined w s m (Ok datum) =
    course_map (closed w.last s) (shown_judged spot w.last s (counted w s m) datum)

-- a trace after a sample, by the samples before it
abbrev pub sample_judged : Spot → Option ControlLine → Sample → Standing → Option Watch → Course
sample_judged spot undefined s m None = Stands (waited s m)
sample_judged spot undefined s m (Some w) = order_judged spot undefined w s m (answer_of w s)

-- a trace that stands, after a sample at a place; a control line may be undefined
unfoldable pub sample_taken : Spot → Option ControlLine → Sample → Standing → Course
sample_taken spot undefined s m = sample_judged spot undefined s m m.watch

-- the same after samples at one place
abbrev pub samples_taken : Spot → List Sample → Standing → Course
samples_taken spot [] m = Stands m
samples_taken spot (s ∷ samples) m = course_then (samples_taken spot samples) (sample_taken spot None s m)

-- what a judgement remembers
abbrev pub state_of : Judge → Standing
state_of j = record {
  options = j.options.now;
  scope = j.scope;
  presence = j.presence;
  boards = j.boards.now;
  watch = j.watch;
  answers = j.answers;
  counts = j.counts;
  transfer = j.transfer;
  found = j.found;
  is_under = j.is_under;
  said = string_bytes j.pending;
}

-- a trace by what is found and what is remembered
abbrev pub found_by : Option Finding → Standing → Course
found_by None m = Stands m
found_by (Some finding) m = Falls finding m

-- a trace as far as a judgement has it; what is said is what is not written yet
unfoldable pub standing : Judge → Course
standing j = found_by j.finding (state_of j)
