-- A reader takes a line at once as it takes its bytes.
use Rattle.std.proofs.Common.{ok_or, ◌≡◌, ◌≢◌, ℕ, false, ◌==◌, ◌||◌, List, [], ◌∷◌, ◌++◌, append_assoc, Option, Some, None, refl, ap, sym, subst, ◌∙◌, arith}
use Rattle.std.specs.Prelude.{if◌then◌else◌}
use Rattle.std.specs.Option.{option_map}
use Rattle.std.proofs.lemmas.Bool.Decides.{nat_tests}
use Rattle.vme_vcd_reader.specs.declared.bits.Bits.{Bits}
use Rattle.vme_vcd_reader.specs.declared.body.Body.{Body}
use Rattle.vme_vcd_reader.specs.declared.body.Place.TheVariants as places
use Rattle.vme_vcd_reader.specs.declared.reader.Step.{Step}
use Rattle.vme_vcd_reader.specs.declared.reader.Step.TheVariants as steps
use Rattle.vme_vcd_reader.specs.declared.reader.VcdReader.{VcdReader}
use Rattle.vme_vcd_reader.specs.declared.table.Row.{Row}
use Rattle.vme_vcd_reader.specs.Bodies.{Reading, Shown, after_byte, line_after, next_line, time_taken}
use Rattle.vme_vcd_reader.specs.Faults.{time_flaw}
use Rattle.vme_vcd_reader.specs.Lines.{IsChangeLine, IsTimeLine, between, bytes_taken, line_ended, list_of}
use Rattle.vme_vcd_reader.specs.Places.{HasOpened, IsAt}
use Rattle.vme_vcd_reader.specs.Readers.{IsBrokenText, IsReading, ReportsSample, TakesLine, TakesRead, rows_of}
use Rattle.vme_vcd_reader.specs.Samples.{samples_by, samples_of}
use Rattle.vme_vcd_reader.specs.Tables.{has_variable, variables_after}
use Rattle.vme_vcd_reader.specs.Words.{Awaited, Statement, Variable, Unread, Remark, Opening, Number, Vector, Skipped, Keyword, Scalar, opening}
use Rattle.vme_vcd_reader.proofs.Bodies.{reading}
use Rattle.vme_vcd_reader.proofs.Headings.{reading_line}

-- between two words a body awaits a statement
opened_no_gap : (o : Option Opening) (c : ℕ) (cs : List ℕ) (s : Body) → HasOpened c cs s o → s.place ≡ places.Gap → ⊥
opened_no_gap None c cs s has place = has
opened_no_gap (Some Number) c cs s has place = cc (has.place)
opened_no_gap (Some Vector) c cs s has place = cc (has.place)
opened_no_gap (Some Skipped) c cs s has place = cc
opened_no_gap (Some Keyword) c cs s has place = cc (has.0)
opened_no_gap (Some (Scalar level)) c cs s has place = cc (has.place)

at_gap : (awaited : Awaited) (word : List ℕ) (s : Body) → IsAt awaited word s → s.place ≡ places.Gap → (awaited ≡ Statement) × (word ≡ [])
at_gap Statement [] s at place = (refl, refl)
at_gap Statement (c ∷ cs) s at place = absurd (opened_no_gap (opening c) c cs s at place)
at_gap (Variable levels) [] s at place = absurd (cc (at.0))
at_gap (Variable levels) (c ∷ cs) s at place = absurd (cc (at.place))
at_gap Unread [] s at place = absurd (cc)
at_gap Unread (c ∷ cs) s at place = absurd (cc)
at_gap Remark word s at place = absurd (cc (at.0))

is_between : (r : Reading) (v : VcdReader) → IsReading r v → v.body.place ≡ places.Gap → r ≡ between r.lines r.time r.changed r.line
is_between r v is place =
    let at : (r.awaited ≡ Statement) × (r.word ≡ []) = at_gap r.awaited r.word v.body is.body place in
    ap (λ awaited. reading awaited r.word r.lines r.time r.changed r.line) at.0
    ∙ ap (λ word. reading Statement word r.lines r.time r.changed r.line) at.1

-- a change
pub line_changes : (r : Reading) (v u : VcdReader) (text rest : List ℕ) (identifier : ℕ) (bits : Bits) (n : ℕ) → IsReading r v
    → v.body.place ≡ places.Gap → IsChangeLine text rest identifier bits
    → u ≡ record v {
      bus = variables_after (rows_of v) identifier bits v.bus;
      is_changed = v.is_changed || has_variable (rows_of v) identifier;
    }
    → n ≡ next_line v.line → TakesLine (rows_of v) r text rest steps.More (record u { line = n })
line_changes r v u text rest identifier bits n is place change at next =
    subst (λ (u : VcdReader). TakesLine (rows_of v) r text rest steps.More (record u { line = n })) (sym at) (record {
      line = change.line;
      text_is = change.text_is;
      some = change.some;
      after = between (variables_after (rows_of v) identifier bits r.lines) r.time (r.changed || has_variable (rows_of v) identifier)
          (next_line r.line);
      shown = None;
      taken = ap (λ r. bytes_taken (rows_of v) r change.line) (is_between r v is place) ∙ change.says (rows_of v) r.lines r.time r.changed r.line;
      reading = record {
        entered = is.entered;
        body = place;
        table = is.table;
        lines = ap (variables_after (rows_of v) identifier bits) is.lines;
        time = is.time;
        changed = ap (λ changed. changed || has_variable (rows_of v) identifier) is.changed;
        line = next ∙ ap next_line is.line;
      };
      reports = refl;
    })

-- a time
report_line : (shown : Option Shown) (step : Step) (u : VcdReader) (n : ℕ) → ReportsSample shown step u → ReportsSample shown step (record u { line = n })
report_line None step u n is = is
report_line (Some shown) step u n is = is

abbrev listed : Option (Reading × Option Shown) → Option (Reading × List Shown)
listed o = option_map (λ taken. (taken.0, list_of taken.1)) o

times_by : (rows : List Row) (r : Reading) (u : VcdReader) (text rest : List ℕ) (time : ℕ) (step : Step) (n : ℕ) (o : Option (Reading × Option Shown))
    (line : IsTimeLine text rest time) → bytes_taken rows r line.line ≡ listed (line_ended o) → TakesRead o step u → n ≡ next_line u.line
    → TakesLine rows r text rest step (record u { line = n })
times_by rows r u text rest time step n None line is takes next = absurd takes
times_by rows r u text rest time step n (Some taken) line is takes next = record {
  line = line.line;
  text_is = line.text_is;
  some = line.some;
  after = record taken.0 { line = next_line taken.0.line };
  shown = taken.1;
  taken = is;
  reading = reading_line taken.0 u n (next_line taken.0.line) (next ∙ ap next_line takes.0.line) takes.0;
  reports = report_line taken.1 step u n takes.1;
}

line_says : (rows : List Row) (r : Reading) (v : VcdReader) (text rest : List ℕ) (time : ℕ) → IsReading r v → v.body.place ≡ places.Gap
    → (line : IsTimeLine text rest time) → bytes_taken rows r line.line ≡ listed (line_ended (time_taken r r.time time))
line_says rows r v text rest time is place line =
    let same : r ≡ between r.lines r.time r.changed r.line = is_between r v is place in
    ap (λ r. bytes_taken rows r line.line) same ∙ line.says rows r.lines r.time r.changed r.line
    ∙ ap (λ (q : Reading). listed (line_ended (time_taken q r.time time))) (sym same)

pub line_times : (r : Reading) (v u : VcdReader) (text rest : List ℕ) (time : ℕ) (step : Step) (n : ℕ) → IsReading r v → v.body.place ≡ places.Gap
    → IsTimeLine text rest time → TakesRead (time_taken r r.time time) step u → n ≡ next_line u.line
    → TakesLine (rows_of v) r text rest step (record u { line = n })
line_times r v u text rest time step n is place line takes next =
    times_by (rows_of v) r u text rest time step n (time_taken r r.time time) line (line_says (rows_of v) r v text rest time is place line) takes next

-- the samples of a text after a time
line_shows : (rows : List Row) (r : Reading) (v : VcdReader) (text rest : List ℕ) (time : ℕ) → IsReading r v → v.body.place ≡ places.Gap
    → (line : IsTimeLine text rest time) (more : List ℕ) → samples_of rows r (line.line ++ more)
    ≡ samples_by rows (ok_or (line_ended (time_taken r r.time time)) (time_flaw r.line)) more
line_shows rows r v text rest time is place line more =
    let same : r ≡ between r.lines r.time r.changed r.line = is_between r v is place in
    ap (λ r. samples_of rows r (line.line ++ more)) same ∙ line.shows rows r.lines r.time r.changed r.line more
    ∙ ap (λ (q : Reading). samples_by rows (ok_or (line_ended (time_taken q r.time time)) (time_flaw r.line)) more) (sym same)

-- a time that falls
pub line_falls : (r : Reading) (v : VcdReader) (text rest : List ℕ) (time : ℕ) → IsReading r v → v.body.place ≡ places.Gap → IsTimeLine text rest time
    → time_taken r r.time time ≡ None → IsBrokenText (rows_of v) r text
line_falls r v text rest time is place line falls = λ more.
    ap (λ text. samples_of (rows_of v) r (text ++ more)) line.text_is
    ∙ ap (samples_of (rows_of v) r) (append_assoc line.line rest more)
    ∙ line_shows (rows_of v) r v text rest time is place line (rest ++ more)
    ∙ ap (λ o. samples_by (rows_of v) (ok_or (line_ended o) (time_flaw r.line)) (rest ++ more)) falls

-- a byte that ends no line
same_line : (b line : ℕ) → b ≢ 10 → line ≡ line_after b line
same_line b line other =
    let feed : (b == 10) ≡ false = grind (arith, nat_tests) in
    sym (ap (λ feed. if feed then next_line line else line) feed)

pub takes_byte : (o : Option (Reading × Option Shown)) (b : ℕ) (step : Step) (v : VcdReader) → b ≢ 10 → TakesRead o step v
    → TakesRead (option_map (after_byte b) o) step v
takes_byte None b step v other takes = takes
takes_byte (Some taken) b step v other takes = (
  reading_line taken.0 v v.line (line_after b taken.0.line) (takes.0.line ∙ same_line b taken.0.line other) takes.0,
  takes.1,
)
