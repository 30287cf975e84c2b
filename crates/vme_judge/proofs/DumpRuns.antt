-- A dump that is judged while it is read.
use Rattle.std.proofs.Common.{ok_or, if◌then◌else◌, ◌≡◌, ℕ, Bool, true, false, not, ◌&&◌, List, [], ◌∷◌, ◌++◌, replicate, subst, Option, Some, None, is_some, Result, Ok, Err, IfOk, refl, ap, sym, ◌∙◌}
use Rattle.std.specs.declared.alloc.AllocError.{AllocError}
use Rattle.std.proofs.lemmas.Bool.{false≢true}
use Rattle.vme_line_map.specs.Variables.{Map}
use Rattle.vme_protocol.specs.declared.port.Port.{Port}
use Rattle.vme_vcd_reader.specs.declared.reader.Step.{Step}
use Rattle.vme_vcd_reader.specs.declared.reader.Step.TheVariants as steps
use Rattle.vme_vcd_reader.specs.declared.reader.VcdReader.{VcdReader}
use Rattle.vme_vcd_reader.specs.declared.table.Row.{Row}
use Rattle.vme_vcd_reader.specs.Bodies.{Reading, Shown, byte_taken}
use Rattle.vme_vcd_reader.specs.declared.fault.VcdFault.{VcdFault}
use Rattle.vme_vcd_reader.specs.Faults.{Flaw, byte_flaw}
use Rattle.vme_vcd_reader.specs.Lines.{list_of, shown_first}
use Rattle.vme_vcd_reader.specs.Readers.{IsReading, ReportsLast, ReportsSample, TakesRead, rows_of, samples_left, shown_last}
use Rattle.vme_vcd_reader.specs.Samples.{Samples, Sample, End, Broken as BrokenBody, before, samples_by, samples_of}
use Rattle.vme_judge.specs.declared.dump.Ports.{Ports}
use Rattle.vme_judge.specs.declared.judge.Judge.{Judge}
use Rattle.vme_judge.specs.declared.run.Run.{Run}
use Rattle.vme_judge.specs.DumpRuns.{EndsDump, Reached, InBody, TakesDump, TakesLast, TakesNext, TakesShown, dump_at, dump_so_far, dump_whole, next_if, shown_by, text_whole}
use Rattle.vme_judge.specs.Dumps.{DumpSoFar, Legal, Illegal, Broken, broken_off, dump_by, dump_taken, next_shown}
use Rattle.vme_judge.specs.Logs.{Cause, NoDump}
use Rattle.vme_judge.specs.Runs.{IsGoing, cause_of, is_going}
use Rattle.vme_judge.specs.Standing.{Course, Falls, IsStanding, Standing, Stands, standing, stands}
use Rattle.vme_judge.proofs.Runs.{goes_if, going_stands, going_whole, stops_if}

-- whether a dump is neither illegal nor rejected
abbrev pub is_legal : DumpSoFar → Bool
is_legal (Legal m ports) = true
is_legal (Illegal finding m) = false
is_legal (Broken cause m) = false

-- a dump is, if its trace stands and nothing is rejected
going_at : (rejected : Bool) (cause : Cause) (c : Course) (ports : List (Option Port))
    → (not rejected && stands c) ≡ is_legal (dump_at rejected cause c ports)
going_at true cause c ports = refl
going_at false cause (Stands m) ports = refl
going_at false cause (Falls finding m) ports = refl

-- a run goes on if its dump is
pub going_is : (run : Run) → is_going run ≡ is_legal (dump_so_far run)
going_is run = going_at (is_some run.rejection) (cause_of run.rejection) (standing run.judge) run.ports.last

-- a run that has judged the same goes on as well
pub going_same : (old new : Run) → dump_so_far new ≡ dump_so_far old → IsGoing old → IsGoing new
going_same old new same going = going_is new ∙ ap is_legal same ∙ sym (going_is old) ∙ going

-- a dump before its first sample
pub dump_opens : (c : Course) (opened : Standing) (ports : List (Option Port)) → c ≡ Stands opened → ports ≡ replicate 21 None
    → dump_by c ports ≡ Legal opened (replicate 21 None)
dump_opens c opened ports is none = ap (λ c. dump_by c ports) is ∙ ap (Legal opened) none

-- a run that says that it goes on does
pub still_going : (run : Run) (goes_on : Bool) → goes_on ≡ is_going run → goes_on ≡ true → IsGoing run
still_going run goes_on goes on = sym goes ∙ on

-- a sample, by whether the dump is rejected
next_at : (s : Shown) (rejected : Bool) (cause : Cause) (c n : Course) (last next : List (Option Port)) → rejected ≡ false
    → dump_by n next ≡ next_shown s (dump_by c last) → dump_at rejected cause n next ≡ next_shown s (dump_at rejected cause c last)
next_at s true cause c n last next none is = absurd (cc none)
next_at s false cause c n last next none is = is

-- a run that takes a sample
pub shown_next : (old : Run) (judge : Judge) (ports : Ports) (s : Shown) (result : Result Bool AllocError) → IsGoing old
    → IfOk result (TakesShown old.judge judge old.ports.last ports.last s)
    → IfOk result (λ _. TakesNext old (record old { judge = judge; ports = ports }) (Some s))
shown_next old judge ports s (Err fault) going takes = tt
shown_next old judge ports s (Ok goes_on) going takes = (
  next_at s (is_some old.rejection) (cause_of old.rejection) (standing old.judge) (standing judge) old.ports.last ports.last
      (going_whole old going) takes.dump,
  refl,
)

-- whether it goes on then
pub shown_goes : (old : Run) (judge : Judge) (ports : Ports) (s : Shown) (result : Result Bool AllocError) → IsGoing old
    → IfOk result (TakesShown old.judge judge old.ports.last ports.last s)
    → IfOk result (λ goes_on. goes_on ≡ is_going (record old { judge = judge; ports = ports }))
shown_goes old judge ports s (Err fault) going takes = tt
shown_goes old judge ports s (Ok goes_on) going takes =
    goes_if (is_some old.rejection) goes_on (stands (standing judge)) (going_whole old going) takes.goes

-- the sample that a reader reports
reports_is : (s : Shown) (step : Step) (v : VcdReader) → ReportsSample (Some s) step v → shown_by v ≡ s
reports_is s step v is =
    ap (λ time. record (shown_by v) { time = time }) is.1
    ∙ ap (λ lines. record (shown_by v) { time = s.time; lines = lines }) is.2
    ∙ ap (λ changed. record (shown_by v) { time = s.time; lines = s.lines; changed = changed }) is.3
    ∙ ap (λ ports. record (shown_by v) { time = s.time; lines = s.lines; changed = s.changed; ports = ports }) is.4
    ∙ ap (λ line. record s { line = line }) is.5

-- a run that takes no sample
pub next_nothing : (run : Run) (step : Step) (shown : Option Shown) → step ≡ steps.More → ReportsSample shown step run.vcd
    → TakesNext run run shown
next_nothing run step None more is = (refl, refl)
next_nothing run step (Some s) more is = absurd (let both : steps.More ≡ steps.Sample = sym more ∙ is.0 in cc both)

-- a run that takes the sample that its reader reports
pub next_reported : (old new : Run) (step : Step) (result : Result Bool AllocError) (shown : Option Shown) → step ≡ steps.Sample
    → ReportsSample shown step old.vcd → IfOk result (λ _. TakesNext old new (Some (shown_by old.vcd)))
    → IfOk result (λ _. TakesNext old new shown)
next_reported old new step result None sample is takes = absurd (let both : steps.Sample ≡ steps.More = sym sample ∙ is in cc both)
next_reported old new step result (Some s) sample is takes =
    subst (λ s. IfOk result (λ _. TakesNext old new (Some s))) (reports_is s step old.vcd is) takes

-- a header is no sample
pub next_never : (step : Step) (v : VcdReader) (shown : Option Shown) → step ≡ steps.Header → ReportsSample shown step v → ⊥
next_never step v None header is = let both : steps.Header ≡ steps.More = sym header ∙ is in cc both
next_never step v (Some s) header is = let both : steps.Header ≡ steps.Sample = sym header ∙ is.0 in cc both

-- samples after one that is there, if it is
dump_before : (d : DumpSoFar) (shown : Option Shown) (samples : Samples)
    → dump_taken d (before shown samples) ≡ dump_taken (next_if shown d) samples
dump_before d None samples = refl
dump_before d (Some s) samples = refl

-- samples of a text after what a byte completes
pub samples_first : (rows : List Row) (taken : Reading × Option Shown) (rest : List ℕ)
    → samples_by rows (Ok taken) rest ≡ before taken.1 (samples_of rows taken.0 rest)
samples_first rows taken [] = refl
samples_first rows taken (b ∷ bs) = refl

-- samples before others
abbrev pub all_before : List Shown → Samples → Samples
all_before [] samples = samples
all_before (s ∷ list) samples = Sample s (all_before list samples)

-- samples of a list of one at most
pub one_before : (shown : Option Shown) (samples : Samples) → all_before (list_of shown) samples ≡ before shown samples
one_before None samples = refl
one_before (Some s) samples = refl

-- a sample before others
pub first_before : (shown : Option Shown) (more : Reading × List Shown) (samples : Samples)
    → before shown (all_before more.1 samples) ≡ all_before ((shown_first shown more).1) samples
first_before None more samples = refl
first_before (Some s) more samples = refl

-- the reading after a sample
pub first_reading : (shown : Option Shown) (more : Reading × List Shown) → (shown_first shown more).0 ≡ more.0
first_reading None more = refl
first_reading (Some s) more = refl

-- a dump that nothing changes
pub over : (d : DumpSoFar) (samples : Samples) → is_legal d ≡ false → dump_taken d samples ≡ d
over (Legal m ports) samples not_legal = absurd (cc not_legal)
over (Illegal finding m) End not_legal = refl
over (Illegal finding m) (BrokenBody flaw) not_legal = refl
over (Illegal finding m) (Sample s samples) not_legal = over (Illegal finding m) samples not_legal
over (Broken cause m) End not_legal = refl
over (Broken cause m) (BrokenBody flaw) not_legal = refl
over (Broken cause m) (Sample s samples) not_legal = over (Broken cause m) samples not_legal

-- what is left of a dump changes nothing once a run has stopped
pub run_over : (run : Run) (samples : Samples) (goes_on : Bool) → goes_on ≡ is_going run → goes_on ≡ false
    → dump_taken (dump_so_far run) samples ≡ dump_so_far run
run_over run samples goes_on goes off = over (dump_so_far run) samples (sym (going_is run) ∙ sym goes ∙ off)

-- what is left of a dump after the sample which bytes complete
whole_judged : (old new : Run) (v : VcdReader) (r after : Reading) (bytes : List ℕ) (shown : Option Shown) (rest : List ℕ)
    → samples_of (rows_of old.vcd) r (bytes ++ rest) ≡ before shown (samples_of (rows_of old.vcd) after rest) → rows_of v ≡ rows_of old.vcd
    → TakesNext (record old { vcd = v }) new shown → dump_whole old r (bytes ++ rest) ≡ dump_whole new after rest
whole_judged old new v r after bytes shown rest says rows takes =
    ap (dump_taken (dump_so_far old)) says
    ∙ dump_before (dump_so_far old) shown (samples_of (rows_of old.vcd) after rest)
    ∙ ap (λ d. dump_taken d (samples_of (rows_of old.vcd) after rest)) (sym takes.0)
    ∙ ap (λ rows. dump_taken (dump_so_far new) (samples_of rows after rest)) (sym (ap rows_of takes.1 ∙ rows))

module _ (map : Map) (old new : Run) (v : VcdReader) (r after : Reading) (bytes : List ℕ) (shown : Option Shown) where
  -- a run that takes the sample which bytes complete
  pub bytes_judged : (goes_on : Bool) → ((rest : List ℕ) → samples_of (rows_of old.vcd) r (bytes ++ rest)
      ≡ before shown (samples_of (rows_of old.vcd) after rest)) → IsReading after v → rows_of v ≡ rows_of old.vcd
      → TakesNext (record old { vcd = v }) new shown → goes_on ≡ is_going new → TakesDump map old new (InBody r) bytes goes_on
  bytes_judged goes_on says reading rows takes goes = record {
    reads = λ on. record {
      after = InBody after;
      reading = subst (IsReading after) (sym takes.1) reading;
      unjudged = λ d was. tt;
      judges = λ rest. whole_judged old new v r after bytes shown rest (says rest) rows takes;
    };
    stops = λ off rest.
        whole_judged old new v r after bytes shown rest (says rest) rows takes
        ∙ run_over new (samples_of (rows_of new.vcd) after rest) goes_on goes off;
  }

-- a run that takes the byte of a body, by what it says
byte_by : (map : Map) (old new : Run) (v : VcdReader) (r : Reading) (byte : ℕ) (step : Step) (o : Option (Reading × Option Shown))
    (result : Result Bool AllocError) → byte_taken (rows_of old.vcd) r byte ≡ o → TakesRead o step v → rows_of v ≡ rows_of old.vcd
    → ((shown : Option Shown) → ReportsSample shown step v → IfOk result (λ _. TakesNext (record old { vcd = v }) new shown))
    → IfOk result (λ goes_on. goes_on ≡ is_going new) → IfOk result (TakesDump map old new (InBody r) (byte ∷ []))
byte_by map old new v r byte step o (Err fault) is reads rows takes goes = tt
byte_by map old new v r byte step None (Ok goes_on) is reads rows takes goes = absurd reads
byte_by map old new v r byte step (Some taken) (Ok goes_on) is reads rows takes goes =
    bytes_judged map old new v r taken.0 (byte ∷ []) taken.1 goes_on
    (λ rest. ap (λ o. samples_by (rows_of old.vcd) (ok_or o (byte_flaw r byte)) rest) is ∙ samples_first (rows_of old.vcd) taken rest) reads.0 rows
    (takes taken.1 reads.1) goes

-- a run that takes the byte of a body
pub byte_judged : (map : Map) (old new : Run) (v : VcdReader) (r : Reading) (byte : ℕ) (step : Step) (result : Result Bool AllocError)
    → TakesRead (byte_taken (rows_of old.vcd) r byte) step v → rows_of v ≡ rows_of old.vcd
    → ((shown : Option Shown) → ReportsSample shown step v → IfOk result (λ _. TakesNext (record old { vcd = v }) new shown))
    → IfOk result (λ goes_on. goes_on ≡ is_going new) → IfOk result (TakesDump map old new (InBody r) (byte ∷ []))
byte_judged map old new v r byte step result reads rows takes goes =
    byte_by map old new v r byte step (byte_taken (rows_of old.vcd) r byte) result refl reads rows takes goes

-- a dump whose text is none of a dump, by what was judged of it before
broken_at : (rejected : Bool) (earlier cause : Cause) (c : Course) (ports : List (Option Port)) → rejected ≡ false → IsStanding c
    → broken_off cause (dump_at rejected earlier c ports) ≡ dump_at true (if rejected then earlier else cause) c ports
broken_at true earlier cause c ports none stood = absurd (cc none)
broken_at false earlier cause (Falls finding m) ports none stood = absurd (cc stood)
broken_at false earlier cause (Stands m) ports none stood = refl

-- a run has rejected a dump for a cause, unless it had rejected it before
abbrev pub IsRejectedAs : Run → Run → Cause → Type 0
IsRejectedAs old new cause =
    (is_some new.rejection ≡ true)
    × (cause_of new.rejection ≡ (if is_some old.rejection then cause_of old.rejection else cause))

-- the same for another cause that is the same one
pub for_cause : (old new : Run) (line at : ℕ) (fault why : VcdFault) → is_some new.rejection ≡ true
    → cause_of new.rejection ≡ (if is_some old.rejection then cause_of old.rejection else NoDump line fault) → line ≡ at → fault ≡ why
    → IsRejectedAs old new (NoDump at why)
for_cause old new line at fault why rejected cause same is = (
  rejected,
  cause ∙ ap (λ cause. let r : Cause = if is_some old.rejection then cause_of old.rejection else cause in r)
      (ap (λ line. NoDump line fault) same ∙ ap (NoDump at) is),
)

-- a run that goes on and rejects a dump, whose text is none of a dump for a cause
pub text_broken : (old new : Run) (whole : DumpSoFar) (cause : Cause) → IsGoing old → whole ≡ broken_off cause (dump_so_far old)
    → IsRejectedAs old new cause → new.judge ≡ old.judge → whole ≡ dump_so_far new
text_broken old new whole cause going is rejected judge =
    is
    ∙ broken_at (is_some old.rejection) (cause_of old.rejection) cause (standing old.judge) old.ports.last
    (going_whole old going) (going_stands old going)
    ∙ ap (λ cause. dump_at true cause (standing old.judge) old.ports.last) (sym rejected.1)
    ∙ ap (λ j. dump_at true (cause_of new.rejection) (standing j) new.ports.last) (sym judge)
    ∙ ap (λ rejected. dump_at rejected (cause_of new.rejection) (standing new.judge) new.ports.last) (sym rejected.0)

-- a run that rejects a body
body_rejected : (old new : Run) (r : Reading) (text : List ℕ) (flaw : Flaw) → IsGoing old → samples_of (rows_of old.vcd) r text ≡ BrokenBody flaw
    → IsRejectedAs old new (NoDump flaw.line flaw.fault) → new.judge ≡ old.judge → dump_whole old r text ≡ dump_so_far new
body_rejected old new r text flaw going broken rejected judge =
    text_broken old new (dump_whole old r text) (NoDump flaw.line flaw.fault) going
    (ap (dump_taken (dump_so_far old)) broken) rejected judge

-- a run that rejects bytes of a dump, whatever follows
pub dump_rejected : (map : Map) (old new : Run) (reached : Reached) (bytes : List ℕ) (goes_on : Bool)
    → ((rest : List ℕ) → text_whole map old reached (bytes ++ rest) ≡ dump_so_far new) → goes_on ≡ false
    → TakesDump map old new reached bytes goes_on
dump_rejected map old new reached bytes goes_on judges stops = record {
  reads = λ on. absurd (false≢true (sym stops ∙ on));
  stops = λ off. judges;
}

-- a run that has rejected its text does not go on
pub rejected_stops : (run : Run) (result : Result Bool AllocError) → IfOk result (λ goes_on. goes_on ≡ false)
    → IfOk result (λ _. is_some run.rejection ≡ true) → IfOk result (λ goes_on. goes_on ≡ is_going run)
rejected_stops run (Err failed) stops rejected = tt
rejected_stops run (Ok goes_on) stops rejected = stops ∙ stops_if (is_some run.rejection) (stands (standing run.judge)) rejected

-- a run that rejects bytes of a body, whatever follows
pub bytes_rejected : (map : Map) (old new : Run) (r : Reading) (bytes : List ℕ) (flaw : Flaw) (line : ℕ) (fault : VcdFault)
    (result : Result Bool AllocError) → IsGoing old → ((rest : List ℕ) → samples_of (rows_of old.vcd) r (bytes ++ rest) ≡ BrokenBody flaw)
    → IfOk result (λ goes_on. goes_on ≡ false) → IfOk result (λ _. is_some new.rejection ≡ true)
    → IfOk result (λ _. cause_of new.rejection ≡ (if is_some old.rejection then cause_of old.rejection else NoDump line fault))
    → line ≡ flaw.line → fault ≡ flaw.fault → IfOk result (λ _. new.judge ≡ old.judge) → IfOk result (TakesDump map old new (InBody r) bytes)
bytes_rejected map old new r bytes flaw line fault (Err failed) going broken stops rejected cause same is judge = tt
bytes_rejected map old new r bytes flaw line fault (Ok goes_on) going broken stops rejected cause same is judge =
    dump_rejected map old new (InBody r) bytes goes_on
    (λ rest. body_rejected old new r (bytes ++ rest) flaw going (broken rest)
    (for_cause old new line flaw.line fault flaw.fault rejected cause same is) judge) stops

-- the last of the samples that are left at the end of a text is none
last_left : (v : VcdReader) (begun : Bool) (s : Shown) (samples : Samples) → v.is_begun ≡ begun → samples_left v ≡ Sample s samples → samples ≡ End
last_left v true s samples is left =
    let one : Sample (shown_last v) End ≡ Sample s samples = rw is at left in
    cc one
last_left v false s samples is left = absurd (let none : End ≡ Sample s samples = rw is at left in cc none)

-- no samples are left, if a reader reports none
none_left : (left : Samples) (next : Step) (v : VcdReader) → ReportsLast left next v → (next ≡ steps.Sample → ⊥) → left ≡ End
none_left (BrokenBody flaw) next v last other = absurd last
none_left End next v last other = refl
none_left (Sample t others) next v last other = absurd (other last.0.0)

-- a run that stops at the first of the last samples
pub last_stopped : (old new : Run) (step : Step) (samples : Samples) (goes_on : Bool) → step ≡ steps.Sample → ReportsLast samples step old.vcd
    → TakesNext old new (Some (shown_by old.vcd)) → goes_on ≡ is_going new → goes_on ≡ false → TakesLast old new samples
last_stopped old new step (BrokenBody flaw) goes_on is last takes goes off = absurd last
last_stopped old new step End goes_on is last takes goes off = absurd (let both : steps.Sample ≡ steps.More = sym is ∙ last.0 in cc both)
last_stopped old new step (Sample s samples) goes_on is last takes goes off =
    sym (run_over new samples goes_on goes off)
    ∙ ap (λ d. dump_taken d samples) (takes.0 ∙ ap (λ s. next_shown s (dump_so_far old)) (reports_is s step old.vcd last.0))

-- a run that takes the only one of the last samples
pub last_only : (old mid : Run) (v : VcdReader) (step next : Step) (samples : Samples) → step ≡ steps.Sample
    → ReportsLast samples step old.vcd → TakesNext old mid (Some (shown_by old.vcd)) → ReportsLast (samples_left mid.vcd) next v
    → (next ≡ steps.Sample → ⊥) → TakesLast old (record mid { vcd = v }) samples
last_only old mid v step next (BrokenBody flaw) is last takes left other = absurd last
last_only old mid v step next End is last takes left other = absurd (let both : steps.Sample ≡ steps.More = sym is ∙ last.0 in cc both)
last_only old mid v step next (Sample s samples) is last takes left other =
    takes.0
    ∙ ap (λ s. next_shown s (dump_so_far old)) (reports_is s step old.vcd last.0)
    ∙ sym (ap (dump_taken (next_shown s (dump_so_far old)))
    (sym last.1 ∙ ap samples_left (sym takes.1) ∙ none_left (samples_left mid.vcd) next v left other))

-- a run that takes the second of the last samples, by which are left after the first
second_by : (old mid new : Run) (v : VcdReader) (next : Step) (s : Shown) (left samples : Samples) → next ≡ steps.Sample
    → samples_left old.vcd ≡ samples → left ≡ samples → ReportsLast left next v → TakesNext old mid (Some s)
    → TakesNext (record mid { vcd = v }) new (Some (shown_by v)) → TakesLast old new (Sample s samples)
second_by old mid new v next s (BrokenBody flaw) samples is were same last first second = absurd last
second_by old mid new v next s End samples is were same last first second =
    absurd (let both : steps.Sample ≡ steps.More = sym is ∙ last.0 in cc both)
second_by old mid new v next s (Sample t others) samples is were same last first second =
    second.0
    ∙ ap (next_shown (shown_by v)) first.0
    ∙ ap (λ t. next_shown t (next_shown s (dump_so_far old))) (reports_is t next v last.0)
    ∙ ap (λ others. dump_taken (next_shown s (dump_so_far old)) (Sample t others))
    (sym (last_left old.vcd old.vcd.is_begun t others refl (were ∙ sym same)))
    ∙ ap (dump_taken (next_shown s (dump_so_far old))) same

-- a run that takes both of the last samples
pub last_taken : (old mid new : Run) (v : VcdReader) (step next : Step) (samples : Samples) → step ≡ steps.Sample
    → ReportsLast samples step old.vcd → TakesNext old mid (Some (shown_by old.vcd))
    → ReportsLast (samples_left mid.vcd) next v → next ≡ steps.Sample
    → TakesNext (record mid { vcd = v }) new (Some (shown_by v)) → TakesLast old new samples
last_taken old mid new v step next (BrokenBody flaw) is last first left again second = absurd last
last_taken old mid new v step next End is last first left again second =
    absurd (let both : steps.Sample ≡ steps.More = sym is ∙ last.0 in cc both)
last_taken old mid new v step next (Sample s samples) is last first left again second =
    second_by old mid new v next s (samples_left mid.vcd) samples again last.1 (ap samples_left first.1 ∙ last.1) left
    (subst (λ s. TakesNext old mid (Some s)) (reports_is s step old.vcd last.0) first) second

-- a run that has taken the last samples of a body
pub ended_as : (map : Map) (old new : Run) (v : VcdReader) (r : Reading) (result : Result (Unit {0}) AllocError)
    → IfOk result (λ _. TakesLast (record old { vcd = v }) new (samples_of (rows_of old.vcd) r []))
    → IfOk result (λ _. EndsDump map old new (InBody r))
ended_as map old new v r (Err fault) takes = tt
ended_as map old new v r (Ok value) takes = sym takes
