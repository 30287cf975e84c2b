-- A sample of a dump, passed over or taken with its local ports.
use Rattle.std.proofs.Common.{◌≡◌, ℕ, Bool, true, false, inl, inr, ◌⊎◌, List, Option, Some, None, Result, Ok, Err, IfOk, refl, ap, sym, ◌∙◌, subst}
use Rattle.std.specs.Prelude.{if◌then◌else◌}
use Rattle.std.specs.declared.alloc.AllocError.{AllocError}
use Rattle.std.proofs.lemmas.Bool.{false≢true}
use Rattle.vme_protocol.specs.declared.port.Port.{Port}
use Rattle.vme_protocol.specs.declared.sample.Sample.{Sample}
use Rattle.vme_vcd_reader.specs.declared.bus.BusLines.{BusLines}
use Rattle.vme_vcd_reader.specs.declared.control.ControlLine.{ControlLine}
use Rattle.vme_vcd_reader.specs.Bodies.{Shown}
use Rattle.vme_vcd_reader.specs.Buses.{sample_of}
use Rattle.vme_judge.specs.declared.finding.Finding.{Finding}
use Rattle.vme_judge.specs.declared.judge.Judge.{Judge}
use Rattle.vme_judge.specs.declared.judge.Spot.{Spot}
use Rattle.vme_judge.specs.DumpRuns.{Takes, TakesShown}
use Rattle.vme_judge.specs.Dumps.{DumpSoFar, Legal, dump_by, is_passed, next_shown, passed, ports_after, ports_taken, shown_taken, spot_of, undefined_at}
use Rattle.vme_judge.specs.Standing.{Course, Falls, HasFallen, IsStanding, Standing, Stands, course_map, found_by, course_then, resumed, sample_taken, standing, stands, state_of}
use Rattle.vme_judge.proofs.Dumps.{takes_both, takes_first}

-- what is remembered of samples by what is judged of them
dump_same : (c n : Course) (next ports : List (Option Port)) → c ≡ n → HasFallen c ⊎ (next ≡ ports) → dump_by c next ≡ dump_by n ports
dump_same (Falls finding m) n next ports same fell = ap (λ n. dump_by n ports) same
dump_same (Stands m) n next ports same (inl fell) = absurd (cc fell)
dump_same (Stands m) n next ports same (inr is) = ap (Legal m) is ∙ ap (λ n. dump_by n ports) same

-- a sample that is passed over, by whether something was found
passed_by : (s : Shown) (ports : List (Option Port)) (finding : Option Finding) (m : Standing) → is_passed s m ≡ true
    → dump_by (course_map passed (found_by finding m)) ports ≡ next_shown s (dump_by (found_by finding m) ports)
passed_by s ports (Some finding) m over = refl
passed_by s ports None m over =
    sym (ap (λ test. let r : DumpSoFar =
    if test then Legal (passed m) ports else dump_by (shown_taken s ports m) (ports_after s.lines s.ports 0 ports) in r) over)

-- a sample that is taken, by whether something was found
shown_by_test : (s : Shown) (last next : List (Option Port)) (n : Course) (finding : Option Finding) (m : Standing)
    → is_passed s m ≡ false → n ≡ course_then (shown_taken s last) (found_by finding m)
    → HasFallen n ⊎ (next ≡ ports_after s.lines s.ports 0 last)
    → dump_by n next ≡ next_shown s (dump_by (found_by finding m) last)
shown_by_test s last next n (Some finding) m taken judged kept = ap (λ n. dump_by n next) judged
shown_by_test s last next n None m taken judged kept =
    dump_same n (shown_taken s last m) next (ports_after s.lines s.ports 0 last) judged kept
    ∙ sym (ap (λ test. let r : DumpSoFar =
    if test then Legal (passed m) last else dump_by (shown_taken s last m) (ports_after s.lines s.ports 0 last) in r) taken)

-- a course whose memory is changed stands as before
map_stands : (f : Standing → Standing) (c : Course) → stands c ≡ stands (course_map f c)
map_stands f (Stands m) = refl
map_stands f (Falls finding m) = refl

-- a sample that is passed over
pub shown_passed : (old new : Judge) (last : List (Option Port)) (s : Shown) (is_over : Bool) → is_over ≡ is_passed s (state_of old)
    → is_over ≡ true → IsStanding (standing old) → standing new ≡ course_map passed (standing old) → TakesShown old new last last s true
unfolding standing
shown_passed old new last s is_over is this stood same = record {
  dump = ap (λ n. dump_by n last) same ∙ passed_by s last old.finding (state_of old) (sym is ∙ this);
  goes = sym stood ∙ map_stands passed (standing old) ∙ ap stands (sym same);
}

-- what is remembered has fallen, or the ports are those after the sample
by_goes : (c : Course) (next ports : List (Option Port)) (goes_on : Bool) → goes_on ≡ stands c → (goes_on ≡ true → next ≡ ports)
    → HasFallen c ⊎ (next ≡ ports)
by_goes c next ports true goes after = inr (after refl)
by_goes c next ports false goes after = inl (sym goes)

-- a sample that is taken
shown_taken_as : (old new : Judge) (last next : List (Option Port)) (s : Shown) (is_over goes_on : Bool)
    → is_over ≡ is_passed s (state_of old) → is_over ≡ false → Takes old new (shown_taken s last) goes_on
    → (goes_on ≡ true → next ≡ ports_after s.lines s.ports 0 last) → TakesShown old new last next s goes_on
unfolding standing
shown_taken_as old new last next s is_over goes_on is this takes after = record {
  dump =
      shown_by_test s last next (standing new) old.finding (state_of old) (sym is ∙ this) takes.judged
      (by_goes (standing new) next (ports_after s.lines s.ports 0 last) goes_on takes.goes after);
  goes = takes.goes;
}

-- what is taken of a sample at a place at which a line may be undefined; after a finding the judgement may go on
abbrev pub lines_at : Spot → Option ControlLine → Sample → Standing → Course
lines_at spot undefined sample m = resumed (sample_taken spot undefined sample m)

-- the same at the place of what a reader shows
abbrev lines_taken : Shown → Sample → Option ControlLine → Standing → Course
lines_taken s sample undefined = lines_at (spot_of s) undefined sample

-- what is taken of the sample that lines show
abbrev own_taken : Shown → Standing → Course
own_taken s = lines_taken s (sample_of s.lines s.time) (undefined_at s.lines (sample_of s.lines s.time).undefined)

-- a sample that a reader shows is taken, with what is undefined at it
taken_own : (old new : Judge) (s : Shown) (sample : Sample) (undefined : Option ControlLine) (goes_on : Bool)
    → sample ≡ sample_of s.lines s.time → undefined ≡ undefined_at s.lines sample.undefined
    → Takes old new (lines_taken s sample undefined) goes_on → Takes old new (own_taken s) goes_on
taken_own old new s sample undefined goes_on shown line takes =
    subst (λ (sample : Sample). Takes old new (lines_taken s sample (undefined_at s.lines sample.undefined)) goes_on) shown
    (subst (λ undefined. Takes old new (lines_taken s sample undefined) goes_on) line takes)

-- a sample at which the judgement stops
shown_stopped : (old new : Judge) (last : List (Option Port)) (s : Shown) (sample : Sample) (undefined : Option ControlLine)
    (is_over goes_on : Bool) → is_over ≡ is_passed s (state_of old) → is_over ≡ false
    → sample ≡ sample_of s.lines s.time → undefined ≡ undefined_at s.lines sample.undefined
    → Takes old new (lines_taken s sample undefined) goes_on → goes_on ≡ false → TakesShown old new last last s false
shown_stopped old new last s sample undefined is_over goes_on is this shown line takes stopped =
    shown_taken_as old new last last s is_over false is this
    (takes_first old new (own_taken s) (ports_taken (spot_of s) s.lines s.ports 0 last)
    (taken_own old new s sample undefined false shown line
    (subst (λ goes. Takes old new (lines_taken s sample undefined) goes) stopped takes)))
    (λ on. absurd (false≢true on))

-- a sample with its ports
shown_whole : (old mid new : Judge) (last next : List (Option Port)) (s : Shown) (sample : Sample) (undefined : Option ControlLine)
    (is_over goes_on : Bool) (result : Result Bool AllocError) → is_over ≡ is_passed s (state_of old) → is_over ≡ false
    → sample ≡ sample_of s.lines s.time → undefined ≡ undefined_at s.lines sample.undefined
    → Takes old mid (lines_taken s sample undefined) goes_on → goes_on ≡ true
    → IfOk result (Takes mid new (ports_taken (spot_of s) s.lines s.ports 0 last))
    → IfOk result (λ goes_on. goes_on ≡ true → next ≡ ports_after s.lines s.ports 0 last)
    → IfOk result (TakesShown old new last next s)
shown_whole old mid new last next s sample undefined is_over goes_on (Err fault) is this shown line takes goes ports after = tt
shown_whole old mid new last next s sample undefined is_over goes_on (Ok on) is this shown line takes goes ports after =
    shown_taken_as old new last next s is_over on is this
    (takes_both old mid new (own_taken s) (ports_taken (spot_of s) s.lines s.ports 0 last) on
    (taken_own old mid s sample undefined true shown line
    (subst (λ goes. Takes old mid (lines_taken s sample undefined) goes) goes takes)) ports)
    after

-- the place of a sample, by its line and time
spot_is : (s : Shown) (line time : ℕ) (spot : Spot) → spot ≡ record { line = line; time = Some time } → line ≡ s.line → time ≡ s.time → spot ≡ spot_of s
spot_is s line time spot is on now =
    is ∙ ap (λ line. let r : Spot = record { line = line; time = Some time } in r) on
    ∙ ap (λ time. let r : Spot = record { line = s.line; time = Some time } in r) now

-- what a reader gives of a sample
pub record IsRead (s : Shown) (sample : Sample) (undefined : Option ControlLine) (lines : BusLines) (line time : ℕ) (spot : Spot) : Type 0 where
  pub shows : sample ≡ sample_of lines time
  pub names : undefined ≡ undefined_at lines sample.undefined
  pub place : spot ≡ record { line = line; time = Some time }
  pub same_lines : lines ≡ s.lines
  pub same_line : line ≡ s.line
  pub same_time : time ≡ s.time

-- the same by each of its parts
pub reads : (s : Shown) (sample : Sample) (undefined : Option ControlLine) (lines : BusLines) (line time : ℕ) → sample ≡ sample_of lines time
    → undefined ≡ undefined_at lines sample.undefined → lines ≡ s.lines → line ≡ s.line → time ≡ s.time
    → IsRead s sample undefined lines line time (record { line = line; time = Some time })
reads s sample undefined lines line time is names same on now =
    record { shows = is; names = names; place = refl; same_lines = same; same_line = on; same_time = now }

module _ (s : Shown) (sample : Sample) (undefined : Option ControlLine) (lines : BusLines) (line time : ℕ) (spot : Spot) (read : IsRead s sample undefined lines line time spot) where
  -- the sample that it shows
  own_sample : sample ≡ sample_of s.lines s.time
  own_sample = read.shows ∙ ap (λ lines. sample_of lines time) read.same_lines ∙ ap (sample_of s.lines) read.same_time

  -- the line that is undefined at it
  own_undefined : undefined ≡ undefined_at s.lines sample.undefined
  own_undefined = read.names ∙ ap (λ lines. undefined_at lines sample.undefined) read.same_lines

  -- its place
  own_spot : spot ≡ spot_of s
  own_spot = spot_is s line time spot read.place read.same_line read.same_time

  -- a sample at which the judgement stops, as a reader gives it
  pub stopped_read : (old new : Judge) (last : List (Option Port)) (is_over goes_on : Bool) → is_over ≡ is_passed s (state_of old)
      → is_over ≡ false → Takes old new (lines_at spot undefined sample) goes_on → goes_on ≡ false → TakesShown old new last last s false
  stopped_read old new last is_over goes_on is this takes stopped =
      shown_stopped old new last s sample undefined is_over goes_on is this own_sample own_undefined
      (subst (λ spot. Takes old new (lines_at spot undefined sample) goes_on) own_spot takes) stopped

  -- a sample with its ports, as a reader gives them
  pub shown_read : (old mid new : Judge) (last next : List (Option Port)) (changed : ℕ) (is_over goes_on : Bool)
      (result : Result Bool AllocError) → is_over ≡ is_passed s (state_of old) → is_over ≡ false → changed ≡ s.ports
      → Takes old mid (lines_at spot undefined sample) goes_on → goes_on ≡ true
      → IfOk result (Takes mid new (ports_taken spot lines changed 0 last))
      → IfOk result (λ goes_on. goes_on ≡ true → next ≡ ports_after lines changed 0 last) → IfOk result (TakesShown old new last next s)
  shown_read old mid new last next changed is_over goes_on result is this slots takes goes ports after =
      shown_whole old mid new last next s sample undefined is_over goes_on result is this own_sample own_undefined
      (subst (λ spot. Takes old mid (lines_at spot undefined sample) goes_on) own_spot takes) goes
      (subst (λ spot. IfOk result (Takes mid new (ports_taken spot s.lines s.ports 0 last))) own_spot
      (subst (λ lines. IfOk result (Takes mid new (ports_taken spot lines s.ports 0 last))) read.same_lines
      (subst (λ changed. IfOk result (Takes mid new (ports_taken spot lines changed 0 last))) slots ports)))
      (subst (λ lines. IfOk result (λ goes_on. goes_on ≡ true → next ≡ ports_after lines s.ports 0 last)) read.same_lines
      (subst (λ changed. IfOk result (λ goes_on. goes_on ≡ true → next ≡ ports_after lines changed 0 last)) slots after))
