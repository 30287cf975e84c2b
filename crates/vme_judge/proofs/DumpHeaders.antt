-- The header of a dump, byte by byte, and the body after it.
use Rattle.std.proofs.Common.{ok_or, ◌≡◌, ◌≢◌, ℕ, Bool, true, false, not, ◌==◌, ◌&&◌, ◌||◌, inl, inr, List, [], ◌∷◌, ◌++◌, subst, Option, Some, None, is_some, Result, Ok, Err, IfOk, refl, ap, sym, ◌∙◌}
use Rattle.std.specs.Prelude.{if◌then◌else◌}
use Rattle.std.specs.Option.{option_map, option_and_then}
use Rattle.std.specs.declared.alloc.AllocError.{AllocError}
use Rattle.std.proofs.lemmas.Bool.{false≢true}
use Rattle.vme_line_map.specs.Variables.{Map}
use Rattle.vme_protocol.specs.declared.port.Port.{Port}
use Rattle.vme_vcd_reader.specs.declared.bits.Bits.{Bits}
use Rattle.vme_vcd_reader.specs.declared.bus.BusLines.{BusLines}
use Rattle.vme_vcd_reader.specs.declared.fault.VcdFault.{VcdFault}
use Rattle.vme_vcd_reader.specs.declared.fault.VcdFault.TheVariants.{Memory}
use Rattle.vme_vcd_reader.specs.declared.presence.Presence.{Presence}
use Rattle.vme_vcd_reader.specs.declared.reader.Step.{Step}
use Rattle.vme_vcd_reader.specs.declared.reader.Step.TheVariants as steps
use Rattle.vme_vcd_reader.specs.declared.reader.VcdReader.{VcdReader}
use Rattle.vme_vcd_reader.specs.declared.table.Row.{Row}
use Rattle.vme_vcd_reader.specs.declared.variable.Mapped.{Mapped}
use Rattle.vme_vcd_reader.specs.Bodies.{Reading, Shown, after_byte, byte_taken, fact_taken, line_after, at_word}
use Rattle.vme_vcd_reader.specs.Buses.{bus_after}
use Rattle.vme_vcd_reader.specs.Faults.{Flaw, byte_flaw, end_fault, end_flaw}
use Rattle.vme_vcd_reader.specs.Headers.{Heading, Outcome, Goes, Declares, Ends, Rejects, byte_read, header_end}
use Rattle.vme_vcd_reader.specs.Levels.{value_of}
use Rattle.vme_vcd_reader.specs.Mapping.{Declaration, declaration}
use Rattle.vme_vcd_reader.specs.Matches.{lines_of}
use Rattle.vme_vcd_reader.specs.Openings.{opening_of}
use Rattle.vme_vcd_reader.specs.Presences.{presence_of}
use Rattle.vme_vcd_reader.specs.Readers.{EntersBody, IsEndFault, IsHeader, IsHeadingFault, IsReading, ReportsSample, TakesHeading, rows_of}
use Rattle.vme_vcd_reader.specs.Samples.{Broken, End, before, byte_result, ends_with, samples_by, samples_of}
use Rattle.vme_vcd_reader.specs.Tables.{has_variable, variables_after, variables_of}
use Rattle.vme_vcd_reader.specs.Words.{Awaited, Fact, Silence, At, Change, byte_says}
use Rattle.vme_judge.specs.declared.dump.Ports.{Ports}
use Rattle.vme_judge.specs.declared.rejection.Rejection.{Rejection}
use Rattle.vme_judge.specs.declared.run.Run.{Run}
use Rattle.vme_judge.specs.DumpRuns.{BeginsBody, EndsDump, InHeader, InBody, TakesDump, TakesLast, TakesNext, dump_at, dump_so_far, dump_whole, text_whole}
use Rattle.vme_judge.specs.Dumps.{DumpSoFar, broken_off, dump_taken, with_presence}
use Rattle.vme_judge.specs.DumpTexts.{body_judged, headed, header_judged, header_over, rows_with}
use Rattle.vme_judge.specs.Logs.{Cause, NoDump}
use Rattle.vme_judge.specs.Runs.{IsGoing, cause_of, is_going}
use Rattle.vme_judge.specs.Standing.{Course, Falls, Stands, course_map, standing, stands}
use Rattle.vme_judge.proofs.DumpRuns.{dump_rejected, for_cause, going_same, text_broken}
use Rattle.vme_judge.proofs.Runs.{going_whole}

-- variables with other links
abbrev relinked : List Row → List Row
relinked rows = rows_with (variables_of rows)

-- the lines of the bus after a change do not depend on links
relinked_after : (rows : List Row) (identifier : ℕ) (bits : Bits) (bus : BusLines)
    → variables_after (relinked rows) identifier bits bus ≡ variables_after rows identifier bits bus
relinked_after [] identifier bits bus = refl
relinked_after (row ∷ rows) identifier bits bus =
    ap (λ after. let r : BusLines = if row.identifier == identifier then bus_after after row.mapped bits else after in r)
    (relinked_after rows identifier bits bus)

-- whether a variable is mapped does not
relinked_has : (rows : List Row) (identifier : ℕ) → has_variable (relinked rows) identifier ≡ has_variable rows identifier
relinked_has [] identifier = refl
relinked_has (row ∷ rows) identifier = ap (λ had. row.identifier == identifier || had) (relinked_has rows identifier)

-- a reading after a change
abbrev changed_to : Reading → BusLines → Bool → Option (Reading × Option Shown)
changed_to r lines had = Some (record r { lines = lines; changed = r.changed || had }, None)

-- what a word says
fact_relinked : (rows : List Row) (r : Reading) (fact : Fact) → fact_taken (relinked rows) r fact ≡ fact_taken rows r fact
fact_relinked rows r Silence = refl
fact_relinked rows r (At time) = refl
fact_relinked rows r (Change identifier levels) =
    ap (λ lines. changed_to r lines (has_variable (relinked rows) identifier)) (relinked_after rows identifier (value_of levels) r.lines)
    ∙ ap (changed_to r (variables_after rows identifier (value_of levels) r.lines)) (relinked_has rows identifier)

-- what a byte says
says_relinked : (rows : List Row) (r : Reading) (o : Option ((Awaited × List ℕ) × Fact))
    → option_and_then (λ (says : (Awaited × List ℕ) × Fact). fact_taken (relinked rows) (at_word r says.0) says.1) o
    ≡ option_and_then (λ (says : (Awaited × List ℕ) × Fact). fact_taken rows (at_word r says.0) says.1) o
says_relinked rows r None = refl
says_relinked rows r (Some says) = fact_relinked rows (at_word r says.0) says.1

-- a byte
byte_relinked : (rows : List Row) (r : Reading) (b : ℕ) → byte_taken (relinked rows) r b ≡ byte_taken rows r b
byte_relinked rows r b = ap (option_map (after_byte b)) (says_relinked rows r (byte_says r.awaited r.word b))

-- samples do not depend on links
samples_relinked : (rows : List Row) (text : List ℕ) (o : Result (Reading × Option Shown) Flaw)
    → samples_by (relinked rows) o text ≡ samples_by rows o text
samples_relinked rows text (Err flaw) = refl
samples_relinked rows [] (Ok taken) =
    ap (λ o. before taken.1 (ends_with (ok_or o (byte_flaw taken.0 32)))) (byte_relinked rows taken.0 32)
samples_relinked rows (b ∷ bs) (Ok taken) =
    ap (before taken.1)
    (samples_relinked rows bs (byte_result (relinked rows) taken.0 b)
    ∙ ap (λ o. samples_by rows (ok_or o (byte_flaw taken.0 b)) bs) (byte_relinked rows taken.0 b))

-- a dump at the end of its header, by whether it is rejected
headed_at : (p : Presence) (rejected : Bool) (cause : Cause) (c : Course) (ports : List (Option Port)) → rejected ≡ false
    → dump_at rejected cause (course_map (with_presence p) c) ports ≡ headed p (dump_at rejected cause c ports)
headed_at p true cause c ports none = absurd (cc none)
headed_at p false cause (Falls finding m) ports none = refl
headed_at p false cause (Stands m) ports none = refl

module _ (old new : Run) (v : VcdReader) (lines : List (ℕ × Mapped)) where
  -- a run that begins with a body, by the lines of its header
  headed_is : IsGoing old → v.presence ≡ presence_of lines → BeginsBody (record old { vcd = v }) new
      → dump_so_far new ≡ headed (presence_of lines) (dump_so_far old)
  headed_is going presence begins =
      ap (λ (r : Option Rejection). dump_at (is_some r) (cause_of r) (standing new.judge) new.ports.last) begins.rejection
      ∙ ap (λ c. dump_at (is_some old.rejection) (cause_of old.rejection) c new.ports.last) begins.judged
      ∙ ap (λ (ports : Ports). dump_at (is_some old.rejection) (cause_of old.rejection)
      (course_map (with_presence v.presence) (standing old.judge)) ports.last) begins.ports
      ∙ ap (λ p. dump_at (is_some old.rejection) (cause_of old.rejection) (course_map (with_presence p) (standing old.judge)) old.ports.last) presence
      ∙ headed_at (presence_of lines) (is_some old.rejection) (cause_of old.rejection) (standing old.judge) old.ports.last
      (going_whole old going)

  -- the samples of its body
  body_samples : (r : Reading) (rest : List ℕ) → variables_of (rows_of v) ≡ lines → BeginsBody (record old { vcd = v }) new
      → samples_of (rows_with lines) r rest ≡ samples_of (rows_of new.vcd) r rest
  body_samples r rest variables begins =
      ap (λ lines. samples_of (rows_with lines) r rest) (sym variables)
      ∙ samples_relinked (rows_of v) rest (Ok (r, None))
      ∙ ap (λ (v : VcdReader). samples_of (rows_of v) r rest) (sym begins.reader)

  -- the whole of it
  body_begun : (at line : ℕ) (rest : List ℕ) → IsGoing old → v.line ≡ line → variables_of (rows_of v) ≡ lines
      → v.presence ≡ presence_of lines → BeginsBody (record old { vcd = v }) new
      → body_judged (dump_so_far old) (Ok lines) at line rest ≡ dump_whole new (opening_of (presence_of lines).busy v.line) rest
  body_begun at line rest going same variables presence begins =
      ap (λ line. body_judged (dump_so_far old) (Ok lines) at line rest) (sym same)
      ∙ ap (dump_taken (headed (presence_of lines) (dump_so_far old)))
      (body_samples (opening_of (presence_of lines).busy v.line) rest variables begins)
      ∙ ap (λ d. dump_taken d (samples_of (rows_of new.vcd) (opening_of (presence_of lines).busy v.line) rest))
      (sym (headed_is going presence begins))

-- a trace stands with the lines of the header too
stands_headed : (p : Presence) (c : Course) → stands (course_map (with_presence p) c) ≡ stands c
stands_headed p (Stands m) = refl
stands_headed p (Falls finding m) = refl

-- a run goes on after the header
pub begins_going : (old new : Run) → IsGoing old → BeginsBody old new → IsGoing new
begins_going old new going begins =
    ap (λ (r : Option Rejection). not (is_some r) && stands (standing new.judge)) begins.rejection
    ∙ ap (λ c. not (is_some old.rejection) && stands c) begins.judged
    ∙ ap (λ stood. not (is_some old.rejection) && stood) (stands_headed old.vcd.presence (standing old.judge))
    ∙ going

-- a header that declares a variable goes on with it
declares_as : (map : Map) (d : DumpSoFar) (ds : List Declaration) (h : Heading) (at now line : ℕ) (text : List ℕ)
    → header_judged map d ds (Declares h) at line text ≡ header_judged map d (ds ++ declaration h ∷ []) (Goes h) now line text
declares_as map d ds h at now line [] = refl
declares_as map d ds h at now line (b ∷ bs) = refl

-- a header that goes on does so whatever line was read last
pub goes_as : (map : Map) (d : DumpSoFar) (ds : List Declaration) (h : Heading) (at now line : ℕ) (text : List ℕ)
    → header_judged map d ds (Goes h) at line text ≡ header_judged map d ds (Goes h) now line text
goes_as map d ds h at now line [] = refl
goes_as map d ds h at now line (b ∷ bs) = refl

-- the same header of the same dump
header_same : (map : Map) (d e : DumpSoFar) (ds : List Declaration) (out : Outcome) (line now : ℕ) (text : List ℕ) → e ≡ d → now ≡ line
    → header_judged map d ds out line line text ≡ header_judged map e ds out now now text
header_same map d e ds out line now text dump same =
    ap (λ d. header_judged map d ds out line line text) (sym dump) ∙ ap (λ line. header_judged map e ds out line line text) (sym same)

module _ (map : Map) (old new : Run) (v : VcdReader) (h : Heading) (ds : List Declaration) (byte : ℕ) (goes_on : Bool) (was : IsGoing old) (goes : goes_on ≡ is_going new) where
  -- a run that goes on with a header
  heading_goes : (next : Heading) (all : List Declaration) → ((rest : List ℕ) → header_judged map (dump_so_far old) ds
      (byte_read h byte) old.vcd.line (line_after byte old.vcd.line) rest
      ≡ header_judged map (dump_so_far old) all (Goes next) (line_after byte old.vcd.line) (line_after byte old.vcd.line) rest)
      → IsHeader map next all v → v.line ≡ line_after byte old.vcd.line → TakesNext (record old { vcd = v }) new None
      → TakesDump map old new (InHeader h ds) (byte ∷ []) goes_on
  heading_goes next all same header line takes = record {
    reads = λ _. record {
      after = InHeader next all;
      reading = subst (IsHeader map next all) (sym takes.1) header;
      unjudged = λ d before. takes.0 ∙ before;
      judges = λ rest.
          same rest
          ∙ header_same map (dump_so_far old) (dump_so_far new) all (Goes next) (line_after byte old.vcd.line) new.vcd.line rest takes.0
          (ap (λ (v : VcdReader). v.line) takes.1 ∙ line);
    };
    stops = λ off. absurd (false≢true (sym off ∙ goes ∙ going_same (record old { vcd = v }) new takes.0 was));
  }

  -- a run that begins with the body, by the lines that it has
  heading_ends : (lines : Result (List (ℕ × Mapped)) VcdFault) → byte_read h byte ≡ Ends → lines_of map ds ≡ lines → EntersBody lines v
      → v.line ≡ line_after byte old.vcd.line → BeginsBody (record old { vcd = v }) new
      → TakesDump map old new (InHeader h ds) (byte ∷ []) goes_on
  heading_ends (Err fault) ends is enters line begins = absurd enters
  heading_ends (Ok lines) ends is enters line begins = record {
    reads = λ _. record {
      after = InBody (opening_of (presence_of lines).busy v.line);
      reading = subst (IsReading (opening_of (presence_of lines).busy v.line)) (sym begins.reader) enters.2;
      unjudged = λ d before. tt;
      judges = λ rest.
          ap (λ out. header_judged map (dump_so_far old) ds out old.vcd.line (line_after byte old.vcd.line) rest) ends
          ∙ ap (λ lines. body_judged (dump_so_far old) lines old.vcd.line (line_after byte old.vcd.line) rest) is
          ∙ body_begun old new v lines old.vcd.line (line_after byte old.vcd.line) rest was line enters.0 enters.1 begins;
    };
    stops = λ off. absurd (false≢true (sym off ∙ goes ∙ begins_going (record old { vcd = v }) new was begins));
  }

-- a run that takes a byte of a header, by what becomes of it
heading_by : (map : Map) (old new : Run) (v : VcdReader) (h : Heading) (ds : List Declaration) (byte : ℕ) (step : Step) (out : Outcome)
    (goes_on : Bool) → IsGoing old → byte_read h byte ≡ out → TakesHeading map out ds step v → v.line ≡ line_after byte old.vcd.line
    → ((shown : Option Shown) → ReportsSample shown step v → TakesNext (record old { vcd = v }) new shown)
    → (step ≡ steps.Header → BeginsBody (record old { vcd = v }) new) → goes_on ≡ is_going new
    → TakesDump map old new (InHeader h ds) (byte ∷ []) goes_on
heading_by map old new v h ds byte step (Goes next) goes_on was is takes line sample begins goes =
    heading_goes map old new v h ds byte goes_on was goes next ds
    (λ rest. ap (λ out. header_judged map (dump_so_far old) ds out old.vcd.line (line_after byte old.vcd.line) rest) is
    ∙ goes_as map (dump_so_far old) ds next old.vcd.line (line_after byte old.vcd.line) (line_after byte old.vcd.line) rest)
    takes.1 line (sample None takes.0)
heading_by map old new v h ds byte step (Declares next) goes_on was is takes line sample begins goes =
    heading_goes map old new v h ds byte goes_on was goes next (ds ++ declaration next ∷ [])
    (λ rest. ap (λ out. header_judged map (dump_so_far old) ds out old.vcd.line (line_after byte old.vcd.line) rest) is
    ∙ declares_as map (dump_so_far old) ds next old.vcd.line (line_after byte old.vcd.line) (line_after byte old.vcd.line) rest)
    takes.1 line (sample None takes.0)
heading_by map old new v h ds byte step Ends goes_on was is takes line sample begins goes =
    heading_ends map old new v h ds byte goes_on was goes (lines_of map ds) is refl takes.1 line (begins takes.0)
heading_by map old new v h ds byte step (Rejects fault) goes_on was is takes line sample begins goes = absurd takes

-- why a header is rejected: whatever follows, the text is no dump
broken_by : (map : Map) (d : DumpSoFar) (ds : List Declaration) (out : Outcome) (fault : VcdFault) (at line : ℕ)
    (rest : List ℕ) → IsHeadingFault out (lines_of map ds) fault → fault ≢ Memory
    → header_judged map d ds out at line rest ≡ broken_off (NoDump at fault) d
broken_by map d ds (Goes h) fault at line rest is why = absurd (why is)
broken_by map d ds (Declares h) fault at line rest is why = absurd (why is)
broken_by map d ds (Rejects f) fault at line rest is why = ap (λ f. broken_off (NoDump at f) d) (sym is)
broken_by map d ds Ends fault at line rest (inl is) why = absurd (why is)
broken_by map d ds Ends fault at line rest (inr is) why = ap (λ lines. body_judged d lines at line rest) is

-- a run that rejects a byte of a header
pub heading_rejected : (map : Map) (old new : Run) (h : Heading) (ds : List Declaration) (byte line : ℕ) (fault : VcdFault)
    (result : Result Bool AllocError) → IsGoing old → IsHeadingFault (byte_read h byte) (lines_of map ds) fault
    → IfOk result (λ goes_on. goes_on ≡ false) → IfOk result (λ _. is_some new.rejection ≡ true)
    → IfOk result (λ _. cause_of new.rejection ≡ (if is_some old.rejection then cause_of old.rejection else NoDump line fault))
    → line ≡ old.vcd.line → IfOk result (λ _. new.judge ≡ old.judge) → IfOk result (λ _. fault ≢ Memory)
    → IfOk result (TakesDump map old new (InHeader h ds) (byte ∷ []))
heading_rejected map old new h ds byte line fault (Err failed) was is stops rejected cause same judge why = tt
heading_rejected map old new h ds byte line fault (Ok goes_on) was is stops rejected cause same judge why =
    dump_rejected map old new (InHeader h ds) (byte ∷ []) goes_on
    (λ rest. text_broken old new (text_whole map old (InHeader h ds) (byte ∷ rest)) (NoDump old.vcd.line fault) was
    (broken_by map (dump_so_far old) ds (byte_read h byte) fault old.vcd.line (line_after byte old.vcd.line) rest is why)
    (for_cause old new line old.vcd.line fault fault rejected cause same refl) judge) stops

-- a run that takes a byte of a header
pub heading_judged : (map : Map) (old new : Run) (v : VcdReader) (h : Heading) (ds : List Declaration) (byte : ℕ) (step : Step)
    (result : Result Bool AllocError) → IsGoing old → TakesHeading map (byte_read h byte) ds step v → v.line ≡ line_after byte old.vcd.line
    → ((shown : Option Shown) → ReportsSample shown step v → IfOk result (λ _. TakesNext (record old { vcd = v }) new shown))
    → (step ≡ steps.Header → IfOk result (λ _. BeginsBody (record old { vcd = v }) new)) → IfOk result (λ goes_on. goes_on ≡ is_going new)
    → IfOk result (TakesDump map old new (InHeader h ds) (byte ∷ []))
heading_judged map old new v h ds byte step (Err failed) was takes line sample begins goes = tt
heading_judged map old new v h ds byte step (Ok goes_on) was takes line sample begins goes =
    heading_by map old new v h ds byte step (byte_read h byte) goes_on was refl takes line sample begins goes

-- a run that ends with a header, which is whole
pub header_ended : (map : Map) (old new : Run) (v : VcdReader) (h : Heading) (ds : List Declaration) (result : Result (Unit {0}) AllocError)
    → header_end (byte_read h 32) (lines_of map ds) ≡ None → IfOk result (λ _. TakesLast (record old { vcd = v }) new End)
    → IfOk result (λ _. EndsDump map old new (InHeader h ds))
header_ended map old new v h ds (Err failed) whole takes = tt
header_ended map old new v h ds (Ok value) whole takes = ap (header_over (dump_so_far old) old.vcd.line) whole ∙ sym takes

-- a run that ends within a header, or with one that is none
pub header_cut : (map : Map) (old new : Run) (h : Heading) (ds : List Declaration) (line : ℕ) (fault : VcdFault) → IsGoing old
    → IsEndFault (header_end (byte_read h 32) (lines_of map ds)) fault → fault ≢ Memory → is_some new.rejection ≡ true
    → cause_of new.rejection ≡ (if is_some old.rejection then cause_of old.rejection else NoDump line fault) → line ≡ old.vcd.line
    → new.judge ≡ old.judge → EndsDump map old new (InHeader h ds)
header_cut map old new h ds line fault was (inl memory) why rejected cause same judge = absurd (why memory)
header_cut map old new h ds line fault was (inr is) why rejected cause same judge =
    text_broken old new (text_whole map old (InHeader h ds) []) (NoDump old.vcd.line fault) was
    (ap (header_over (dump_so_far old) old.vcd.line) is) (for_cause old new line old.vcd.line fault fault rejected cause same refl) judge

-- a run that ends within a word or a change of a body
pub body_cut : (map : Map) (old new : Run) (r : Reading) (line : ℕ) (fault : VcdFault) → IsGoing old → IsReading r old.vcd
    → samples_of (rows_of old.vcd) r [] ≡ Broken (end_flaw (rows_of old.vcd) r) → fault ≡ end_fault (rows_of old.vcd) r
    → is_some new.rejection ≡ true
    → cause_of new.rejection ≡ (if is_some old.rejection then cause_of old.rejection else NoDump line fault) → line ≡ old.vcd.line
    → new.judge ≡ old.judge → EndsDump map old new (InBody r)
body_cut map old new r line fault was is broken why rejected cause same judge =
    text_broken old new (text_whole map old (InBody r) []) (NoDump r.line (end_fault (rows_of old.vcd) r)) was
    (ap (dump_taken (dump_so_far old)) broken)
    (for_cause old new line r.line fault (end_fault (rows_of old.vcd) r) rejected cause (same ∙ is.line) why) judge
