-- Bytes of a dump, judged up to those that are left.
use Rattle.std.proofs.Common.{ok_or, if◌then◌else◌, ◌≡◌, ℕ, ◌+◌, ◌<◌, ◌≤◌, Bool, true, false, List, [], ◌∷◌, ◌++◌, append_assoc, append-nil, drop, slice_index, length, length-append, arith, subst, Option, Some, None, is_some, Result, Ok, Err, IfOk, refl, ap, sym, ◌∙◌}
use Rattle.std.specs.Option.{option_and_then, option_map}
use Rattle.std.specs.declared.alloc.AllocError.{AllocError}
use Rattle.std.proofs.lemmas.Bool.{false≢true}
use Rattle.vme_line_map.specs.Variables.{Map}
use Rattle.vme_vcd_reader.specs.declared.reader.Step.{Step}
use Rattle.vme_vcd_reader.specs.declared.reader.VcdReader.{VcdReader}
use Rattle.vme_vcd_reader.specs.declared.table.Row.{Row}
use Rattle.vme_vcd_reader.specs.Bodies.{Reading, Shown, byte_taken}
use Rattle.vme_vcd_reader.specs.declared.fault.VcdFault.{VcdFault}
use Rattle.vme_vcd_reader.specs.declared.fault.VcdFault.TheVariants.{TimeFalls}
use Rattle.vme_vcd_reader.specs.Faults.{Flaw, byte_flaw, time_flaw}
use Rattle.vme_vcd_reader.specs.Lines.{bytes_taken, list_of, shown_first}
use Rattle.vme_vcd_reader.specs.Readers.{IsBrokenText, IsReading, ReportsSample, TakesLine, rows_of}
use Rattle.vme_vcd_reader.specs.Samples.{before, samples_by, samples_of}
use Rattle.vme_judge.specs.declared.run.Run.{Run}
use Rattle.vme_judge.specs.DumpRuns.{HasReached, InBody, InHeader, IsUnjudged, Reached, ReadsOn, TakesDump, TakesNext, dump_so_far, text_whole}
use Rattle.vme_judge.specs.Dumps.{DumpSoFar}
use Rattle.vme_judge.specs.Logs.{NoDump}
use Rattle.vme_judge.specs.Runs.{IsGoing, cause_of, is_going}
use Rattle.vme_judge.proofs.DumpRuns.{all_before, bytes_judged, bytes_rejected, first_before, first_reading, one_before, samples_first}

-- a run has judged bytes of a dump up to those that are left
pub record ReadsTo (map : Map) (old new : Run) (reached : Reached) (bytes left : List ℕ) : Type 0 where
  pub after : Reached
  pub reading : HasReached map after new.vcd
  pub unjudged : (d : DumpSoFar) → IsUnjudged d reached old → IsUnjudged d after new
  pub judges : (rest : List ℕ) → text_whole map old reached (bytes ++ rest) ≡ text_whole map new after (left ++ rest)

-- a run before the first of some bytes
pub reads_none : (map : Map) (run : Run) (reached : Reached) (bytes : List ℕ) → HasReached map reached run.vcd → ReadsTo map run run reached bytes bytes
reads_none map run reached bytes is = record {
  after = reached;
  reading = is;
  unjudged = λ d was. was;
  judges = λ rest. refl;
}

-- a run that reads on with some of the bytes that are left
pub reads_more : (map : Map) (old mid new : Run) (reached : Reached) (bytes left line rest : List ℕ) (to : ReadsTo map old mid reached bytes left) → left ≡ line ++ rest
    → ReadsOn map mid new to.after line → ReadsTo map old new reached bytes rest
reads_more map old mid new reached bytes left line rest to is on = record {
  after = on.after;
  reading = on.reading;
  unjudged = λ d was. on.unjudged d (to.unjudged d was);
  judges = λ more.
      to.judges more
      ∙ ap (λ left. text_whole map mid to.after (left ++ more)) is
      ∙ ap (text_whole map mid to.after) (append_assoc line rest more)
      ∙ on.judges (rest ++ more);
}

-- a run that stops at some of the bytes that are left
stops_at : (map : Map) (old mid new : Run) (reached : Reached) (bytes left line rest : List ℕ) (to : ReadsTo map old mid reached bytes left) → left ≡ line ++ rest
    → ((more : List ℕ) → text_whole map mid to.after (line ++ more) ≡ dump_so_far new) → (more : List ℕ)
    → text_whole map old reached (bytes ++ more) ≡ dump_so_far new
stops_at map old mid new reached bytes left line rest to is stops more =
    to.judges more
    ∙ ap (λ left. text_whole map mid to.after (left ++ more)) is
    ∙ ap (text_whole map mid to.after) (append_assoc line rest more)
    ∙ stops (rest ++ more)

-- bytes that are all taken
pub reads_all : (map : Map) (old new : Run) (reached : Reached) (bytes left : List ℕ) → ReadsTo map old new reached bytes left → left ≡ [] → ReadsOn map old new reached bytes
reads_all map old new reached bytes left to none = record {
  after = to.after;
  reading = to.reading;
  unjudged = to.unjudged;
  judges = λ rest. to.judges rest ∙ ap (λ left. text_whole map new to.after (left ++ rest)) none;
}

-- samples of a text after a byte, by what the bytes after it say
samples_then : (rows : List Row) (bs rest : List ℕ) (after : Reading) (list : List Shown) (taken : Reading × Option Shown)
    (o : Option (Reading × List Shown)) → bytes_taken rows taken.0 bs ≡ o
    → ((next : Reading) (list : List Shown) → bytes_taken rows taken.0 bs ≡ Some (next, list)
    → samples_of rows taken.0 (bs ++ rest) ≡ all_before list (samples_of rows next rest))
    → option_map (shown_first taken.1) o ≡ Some (after, list)
    → samples_by rows (Ok taken) (bs ++ rest) ≡ all_before list (samples_of rows after rest)
samples_then rows bs rest after list taken None says others is = absurd (cc is)
samples_then rows bs rest after list taken (Some more) says others is =
    let same : shown_first taken.1 more ≡ (after, list) = cc is in
    samples_first rows taken (bs ++ rest)
    ∙ ap (before taken.1) (others more.0 more.1 says)
    ∙ first_before taken.1 more (samples_of rows more.0 rest)
    ∙ ap (λ r. all_before ((shown_first taken.1 more).1) (samples_of rows r rest)) (sym (first_reading taken.1 more))
    ∙ ap (λ (q : Reading × List Shown). all_before q.1 (samples_of rows q.0 rest)) same

-- samples of a text after bytes, by what the first of them says
samples_next : (rows : List Row) (bs rest : List ℕ) (after : Reading) (list : List Shown) (o : Option (Reading × Option Shown)) (flaw : Flaw)
    → ((r next : Reading) (list : List Shown) → bytes_taken rows r bs ≡ Some (next, list)
    → samples_of rows r (bs ++ rest) ≡ all_before list (samples_of rows next rest))
    → option_and_then (λ (taken : Reading × Option Shown). option_map (shown_first taken.1) (bytes_taken rows taken.0 bs)) o ≡ Some (after, list)
    → samples_by rows (ok_or o flaw) (bs ++ rest) ≡ all_before list (samples_of rows after rest)
samples_next rows bs rest after list None flaw others is = absurd (cc is)
samples_next rows bs rest after list (Some taken) flaw others is =
    samples_then rows bs rest after list taken (bytes_taken rows taken.0 bs) refl (λ next list. others taken.0 next list) is

-- samples of a text after bytes
bytes_samples : (rows : List Row) (line rest : List ℕ) (r after : Reading) (list : List Shown) → bytes_taken rows r line ≡ Some (after, list)
    → samples_of rows r (line ++ rest) ≡ all_before list (samples_of rows after rest)
bytes_samples rows [] rest r after list is =
    let none : List Shown = [] in
    let same : (r, none) ≡ (after, list) = cc is in
    ap (λ (q : Reading × List Shown). all_before q.1 (samples_of rows q.0 rest)) same
bytes_samples rows (b ∷ bs) rest r after list is =
    samples_next rows bs rest after list (byte_taken rows r b) (byte_flaw r b) (λ r next list. bytes_samples rows bs rest r next list) is

-- a run that takes a line of a body
line_judged : (map : Map) (old new : Run) (v : VcdReader) (r : Reading) (text rest : List ℕ) (step : Step) (goes_on : Bool)
    (line : TakesLine (rows_of old.vcd) r text rest step v) → rows_of v ≡ rows_of old.vcd
    → ((shown : Option Shown) → ReportsSample shown step v → TakesNext (record old { vcd = v }) new shown) → goes_on ≡ is_going new
    → TakesDump map old new (InBody r) line.line goes_on
line_judged map old new v r text rest step goes_on line rows takes goes =
    bytes_judged map old new v r line.after line.line line.shown goes_on
    (λ more. bytes_samples (rows_of old.vcd) line.line more r line.after (list_of line.shown) line.taken
    ∙ one_before line.shown (samples_of (rows_of old.vcd) line.after more))
    line.reading rows (takes line.shown line.reports) goes

-- a run has taken a line at the start of a text
pub record TakesOver (map : Map) (old new : Run) (reached : Reached) (text rest : List ℕ) (goes_on : Bool) : Type 0 where
  pub line : List ℕ
  pub text_is : text ≡ line ++ rest
  pub some : 0 < length line
  pub takes : TakesDump map old new reached line goes_on

-- the first byte of a text, before the others
pub first_byte : (text : List ℕ) → 1 ≤ length text → text ≡ (slice_index text 0 ∷ []) ++ drop 1 text
first_byte [] some = absurd (grind arith)
first_byte (b ∷ bs) some = refl

-- a run whose reader stays
pub same_reader : (map : Map) (old new : Run) (v : VcdReader) (reached : Reached) (bytes : List ℕ) (goes_on : Bool) → v ≡ old.vcd
    → TakesDump map (record old { vcd = v }) new reached bytes goes_on → TakesDump map old new reached bytes goes_on
same_reader map old new v reached bytes goes_on same takes =
    subst (λ v. TakesDump map (record old { vcd = v }) new reached bytes goes_on) same takes

-- a result that is none is no value
pub no_line : {A B : Type 0} → (result : Result (Option A) B) (a : A) → result ≡ Ok None → result ≡ Ok (Some a) → ⊥
no_line (Err fault) a none some = absurd (cc none)
no_line (Ok None) a none some = absurd (cc some)
no_line (Ok (Some b)) a none some = absurd (cc none)

-- nor an error
pub no_error : {A B : Type 0} → (result : Result (Option A) B) (b : B) → result ≡ Ok None → result ≡ Err b → ⊥
no_error (Err fault) b none fails = absurd (cc none)
no_error (Ok taken) b none fails = absurd (cc fails)

-- a run that takes a line of a dump, which has a body then
pub line_reached : (map : Map) (old new : Run) (v : VcdReader) (reached : Reached) (text rest : List ℕ) (step : Step) (goes_on : Bool)
    → HasReached map reached old.vcd → (old.vcd.is_body ≡ false → ⊥)
    → ((r : Reading) → IsReading r old.vcd → TakesLine (rows_of old.vcd) r text rest step v) → rows_of v ≡ rows_of old.vcd
    → ((shown : Option Shown) → ReportsSample shown step v → TakesNext (record old { vcd = v }) new shown) → goes_on ≡ is_going new
    → TakesOver map old new reached text rest goes_on
line_reached map old new v (InHeader h ds) text rest step goes_on is body says rows takes goes = absurd (body is.before.entered)
line_reached map old new v (InBody r) text rest step goes_on is body says rows takes goes =
    let line = says r is in
    record {
      line = line.line;
      text_is = line.text_is;
      some = line.some;
      takes = line_judged map old new v r text rest step goes_on line rows takes goes;
    }

-- a run that rejects the text that is left, which has a body then
pub text_rejected : (map : Map) (old new : Run) (reached : Reached) (text : List ℕ) (line : ℕ) (fault : VcdFault) (result : Result Bool AllocError)
    → IsGoing old → HasReached map reached old.vcd → (old.vcd.is_body ≡ false → ⊥)
    → ((r : Reading) → IsReading r old.vcd → IsBrokenText (rows_of old.vcd) r text) → IfOk result (λ goes_on. goes_on ≡ false)
    → IfOk result (λ _. is_some new.rejection ≡ true)
    → IfOk result (λ _. cause_of new.rejection ≡ (if is_some old.rejection then cause_of old.rejection else NoDump line fault))
    → line ≡ old.vcd.line → fault ≡ TimeFalls → IfOk result (λ _. new.judge ≡ old.judge) → IfOk result (TakesDump map old new reached text)
text_rejected map old new (InHeader h ds) text line fault result going is body broken stops rejected cause same falls judge =
    absurd (body is.before.entered)
text_rejected map old new (InBody r) text line fault result going is body broken stops rejected cause same falls judge =
    bytes_rejected map old new r text (time_flaw r.line) line fault result going (broken r is) stops rejected cause (same ∙ is.line) falls judge

-- a run that stops at some of the bytes that are left
pub dump_stops : (map : Map) (first mid new : Run) (reached : Reached) (bytes left line rest : List ℕ) (goes_on : Bool)
    (to : ReadsTo map first mid reached bytes left) → left ≡ line ++ rest → TakesDump map mid new to.after line goes_on → goes_on ≡ false
    → TakesDump map first new reached bytes false
dump_stops map first mid new reached bytes left line rest goes_on to is takes off = record {
  reads = λ on. absurd (false≢true on);
  stops = λ same. stops_at map first mid new reached bytes left line rest to is (takes.stops off);
}

-- a run that rejects the bytes that are left
pub dump_refused : (map : Map) (first mid new : Run) (reached : Reached) (bytes left : List ℕ) (result : Result Bool AllocError) (to : ReadsTo map first mid reached bytes left)
    → IfOk result (TakesDump map mid new to.after left) → IfOk result (λ goes_on. goes_on ≡ false) → IfOk result (TakesDump map first new reached bytes)
dump_refused map first mid new reached bytes left (Err fault) to takes off = tt
dump_refused map first mid new reached bytes left (Ok true) to takes off = absurd (cc off)
dump_refused map first mid new reached bytes left (Ok false) to takes off =
    dump_stops map first mid new reached bytes left left [] false to (sym (append-nil left)) takes refl

-- a line is one byte at least
line_left : (text line rest : List ℕ) (step all : ℕ) → text ≡ line ++ rest → 0 < length line → length text + step ≤ all
    → length rest + (step + 1) ≤ all
line_left text line rest step all is some left = omega (arith, length-append line rest, ap length is)

-- a run that goes on after a line of the bytes that are left
pub record GoesOver (map : Map) (first new : Run) (reached : Reached) (bytes rest : List ℕ) (step : ℕ) : Type 0 where
  pub reads : ReadsTo map first new reached bytes rest
  pub left : length rest + step ≤ length bytes

-- the same, from what was judged before the line
pub line_over : (map : Map) (first mid new : Run) (reached : Reached) (bytes text line rest : List ℕ) (step : ℕ) (goes_on : Bool)
    (to : ReadsTo map first mid reached bytes text) → length text + step ≤ length bytes → text ≡ line ++ rest → 0 < length line
    → TakesDump map mid new to.after line goes_on → goes_on ≡ true → GoesOver map first new reached bytes rest (step + 1)
line_over map first mid new reached bytes text line rest step goes_on to left is some takes on = record {
  reads = reads_more map first mid new reached bytes text line rest to is (takes.reads on);
  left = line_left text line rest step (length bytes) is some left;
}

-- a run that goes on after the first of the bytes that are left
pub byte_over : (map : Map) (first mid new : Run) (reached : Reached) (bytes text tail : List ℕ) (step : ℕ) (goes_on : Bool)
    (to : ReadsTo map first mid reached bytes text) → length text + step ≤ length bytes → 1 ≤ length text → tail ≡ drop 1 text
    → TakesDump map mid new to.after (slice_index text 0 ∷ []) goes_on → goes_on ≡ true → GoesOver map first new reached bytes tail (step + 1)
byte_over map first mid new reached bytes text tail step goes_on to left some is takes on =
    subst (λ rest. GoesOver map first new reached bytes rest (step + 1)) (sym is)
    (line_over map first mid new reached bytes text (slice_index text 0 ∷ []) (drop 1 text) step goes_on to left
    (first_byte text some) (omega arith) takes on)

-- no bytes are left
empty : (left : List ℕ) → length left < 1 → left ≡ []
empty [] none = refl
empty (b ∷ bs) none = absurd (grind arith)

-- a run that has taken all bytes of a dump
pub dump_read : (map : Map) (old new : Run) (reached : Reached) (bytes left : List ℕ) → ReadsTo map old new reached bytes left
    → length left < 1 → TakesDump map old new reached bytes true
dump_read map old new reached bytes left to none = record {
  reads = λ on. reads_all map old new reached bytes left to (empty left none);
  stops = λ off. absurd (false≢true (sym off));
}
