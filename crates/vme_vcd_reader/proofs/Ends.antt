-- The end of a body.
use Rattle.std.proofs.Common.{Result, Ok, ok_or, is_some, ◌≡◌, ◌≢◌, ℕ, Bool, true, false, ◌==◌, List, [], ◌∷◌, Option, Some, None, refl, ap, sym, subst, ◌∙◌, nat_lt}
use Rattle.std.specs.Prelude.{if◌then◌else◌}
use Rattle.std.specs.Option.{option_map}
use Rattle.vme_vcd_reader.specs.declared.bus.BusLines.{BusLines}
use Rattle.vme_vcd_reader.specs.declared.fault.VcdFault.TheVariants as faults
use Rattle.vme_vcd_reader.specs.declared.reader.Step.{Step}
use Rattle.vme_vcd_reader.specs.declared.reader.Step.TheVariants as steps
use Rattle.vme_vcd_reader.specs.declared.reader.VcdReader.{VcdReader}
use Rattle.vme_vcd_reader.specs.declared.table.Row.{Row}
use Rattle.vme_vcd_reader.specs.Bodies.{Moment, Reading, Shown, after_byte, at_word, fact_taken, said_at, shown_at, time_taken}
use Rattle.vme_vcd_reader.specs.Faults.{Flaw, change_flaw}
use Rattle.vme_vcd_reader.specs.Places.{IsAt, may_end}
use Rattle.vme_vcd_reader.specs.Ports.{without_changes}
use Rattle.vme_vcd_reader.specs.Readers.{IsReading, ReportsLast, TakesRead, samples_left}
use Rattle.vme_vcd_reader.specs.Samples.{Samples, Sample, End, Broken, before, ends_with, last_of}
use Rattle.vme_vcd_reader.specs.Words.{Awaited, Fact, Silence, At, Change, blank_says, word_says}
use Rattle.vme_vcd_reader.proofs.Bodies.{ended, says_taken}

-- no word is begun after a blank
abbrev pub IsClear : Option (Reading × Option Shown) → Type 0
IsClear None = Unit {0}
IsClear (Some taken) = taken.0.word ≡ []

time_clear : (r : Reading) (last : Option Moment) (time : ℕ) → r.word ≡ [] → IsClear (time_taken r last time)
time_clear r None time clear = clear
time_clear r (Some last) time clear =
    elim (nat_lt time last.time) as (λ less. IsClear (if less then None else
    (if time == last.time then Some (r, None) else Some (record r { time = said_at r time; lines = without_changes r.lines; changed = false }, Some (shown_at r last))))) [
      | true ↦ tt
      | false ↦ elim (time == last.time) as (λ same. IsClear
          (if same then Some (r, None) else Some (
            record r { time = said_at r time; lines = without_changes r.lines; changed = false },
            Some (shown_at r last),
          ))) [ true ↦ clear | false ↦ clear ]
    ]

fact_clear : (rows : List Row) (r : Reading) (fact : Fact) → r.word ≡ [] → IsClear (fact_taken rows r fact)
fact_clear rows r Silence clear = clear
fact_clear rows r (At time) clear = time_clear r r.time time clear
fact_clear rows r (Change identifier levels) clear = clear

pub blank_clear : (rows : List Row) (r : Reading) (awaited : Awaited) (word : List ℕ) → IsClear (says_taken rows r (blank_says awaited word))
blank_clear rows r awaited [] = refl
blank_clear rows r awaited (c ∷ cs) =
    elim (word_says awaited (c ∷ cs)) as (λ o. IsClear (says_taken rows r (ended o))) [
      | None ↦ tt
      | Some says ↦ fact_clear rows (at_word r (says.0, [])) says.1 refl
    ]

-- the last sample is what a reader has left
abbrev sample_at : Moment → BusLines → Bool → Shown
sample_at at lines changed = record {
  time = at.time;
  line = at.line;
  lines = without_changes lines;
  changed = changed;
  ports = lines.changed_ports;
}

abbrev begun_at : VcdReader → Moment
begun_at v = record { time = v.time; line = v.time_line }

left_by : (v : VcdReader) (lines : BusLines) (changed begun : Bool) → v.bus ≡ lines → changed ≡ v.is_changed
    → (if begun then Sample (sample_at (begun_at v) lines changed) End else End)
    ≡ (if begun then Sample (sample_at (begun_at v) v.bus v.is_changed) End else End)
left_by v lines changed begun at is =
    ap (λ lines. if begun then Sample (sample_at (begun_at v) lines changed) End else End) (sym at)
    ∙ ap (λ changed. if begun then Sample (sample_at (begun_at v) v.bus changed) End else End) is

last_by : (r : Reading) (begun : Bool) (at : Moment)
    → last_of r (if begun then Some at else None) ≡ (if begun then Sample (shown_at r at) End else End)
last_by r true at = refl
last_by r false at = refl

last_left : (r : Reading) (v : VcdReader) → IsReading r v → last_of r r.time ≡ samples_left v
last_left r v is = ap (last_of r) is.time ∙ last_by r v.is_begun (begun_at v) ∙ left_by v r.lines r.changed v.is_begun is.lines is.changed

-- a blank that ends a text ends no line
abbrev blank_taken : Option (Reading × Option Shown) → Flaw → Result (Reading × Option Shown) Flaw
blank_taken o flaw = ok_or (option_map (after_byte 32) o) flaw

blank_ends : (taken : Reading × Option Shown) (flaw : Flaw) → ends_with (Ok taken) ≡ ends_with (blank_taken (Some taken) flaw)
blank_ends taken flaw = refl

-- whether a body may end after a blank
whole_by : (r : Reading) (v : VcdReader) (whole : Bool) → r.word ≡ [] → IsReading r v
    → ((awaited : Awaited) → IsAt awaited [] v.body → whole ≡ may_end awaited) → may_end r.awaited ≡ whole
whole_by r v whole clear is says = sym (says r.awaited (subst (λ word. IsAt r.awaited word v.body) clear is.body))

-- the last word completes a sample, and leaves another one
sample_by : (r : Reading) (shown : Option Shown) (v : VcdReader) → may_end r.awaited ≡ true → TakesRead (Some (r, shown)) steps.Sample v
    → ReportsLast (ends_with (Ok (r, shown))) steps.Sample v
sample_by r None v whole takes = absurd (cc (takes.1))
sample_by r (Some shown) v whole takes =
    subst (λ test. ReportsLast (if test then before (Some shown) (last_of r r.time) else Broken (change_flaw r)) steps.Sample v) (sym whole)
    (takes.1, sym (last_left r v takes.0))

pub sample_ends : (o : Option (Reading × Option Shown)) (flaw : Flaw) (v : VcdReader) (whole : Bool) → IsClear o → TakesRead o steps.Sample v
    → ((awaited : Awaited) → IsAt awaited [] v.body → whole ≡ may_end awaited) → whole ≡ true
    → ReportsLast (ends_with (blank_taken o flaw)) steps.Sample v
sample_ends None flaw v whole clear takes says is = absurd takes
sample_ends (Some taken) flaw v whole clear takes says is =
    subst (λ samples. ReportsLast samples steps.Sample v) (blank_ends taken flaw)
    (sample_by taken.0 taken.1 v (whole_by taken.0 v whole clear takes.0 says ∙ is) takes)

-- it completes none, and leaves one at most
none_by : (r : Reading) (shown : Option Shown) (step last : Step) (v w : VcdReader) → may_end r.awaited ≡ true → TakesRead (Some (r, shown)) step v
    → step ≢ steps.Sample → ReportsLast (samples_left v) last w → ReportsLast (ends_with (Ok (r, shown))) last w
none_by r None step last v w whole takes other left =
    subst (λ test. ReportsLast (if test then last_of r r.time else Broken (change_flaw r)) last w) (sym whole)
    (subst (λ samples. ReportsLast samples last w) (sym (last_left r v takes.0)) left)
none_by r (Some shown) step last v w whole takes other left = absurd (other (takes.1.0))

pub none_ends : (o : Option (Reading × Option Shown)) (flaw : Flaw) (step last : Step) (v w : VcdReader) (whole : Bool) → IsClear o → TakesRead o step v
    → ((awaited : Awaited) → IsAt awaited [] v.body → whole ≡ may_end awaited) → whole ≡ true → step ≢ steps.Sample
    → ReportsLast (samples_left v) last w → ReportsLast (ends_with (blank_taken o flaw)) last w
none_ends None flaw step last v w whole clear takes says is other left = absurd takes
none_ends (Some taken) flaw step last v w whole clear takes says is other left =
    subst (λ samples. ReportsLast samples last w) (blank_ends taken flaw)
    (none_by taken.0 taken.1 step last v w (whole_by taken.0 v whole clear takes.0 says ∙ is) takes other left)

-- the text ends in a change
pub change_ends : (o : Option (Reading × Option Shown)) (flaw : Flaw) (step : Step) (v : VcdReader) (whole : Bool) (line : ℕ) → IsClear o
    → TakesRead o step v → v.line ≡ line
    → ((awaited : Awaited) → IsAt awaited [] v.body → whole ≡ may_end awaited) → whole ≡ false
    → ends_with (blank_taken o flaw) ≡ Broken (record { fault = if is_some o then faults.EndsInChange else flaw.fault; line = line })
change_ends None flaw step v whole line clear takes same says is = absurd takes
change_ends (Some taken) flaw step v whole line clear takes same says is =
    ap (λ test. if test then before taken.1 (last_of taken.0 taken.0.time) else Broken (change_flaw taken.0))
    (whole_by taken.0 v whole clear takes.0 says ∙ is)
    ∙ ap (λ line. let r : Samples = Broken (record { fault = faults.EndsInChange; line = line }) in r) (sym takes.0.line ∙ same)
