-- A reader goes on with a header.
use Rattle.std.proofs.Common.{◌≡◌, inl, inr, ℕ, false, Some, None, ap, List, [], ◌∷◌, ◌++◌, Result, Ok, Err, refl, sym, subst, ◌∙◌}
use Rattle.std.specs.Prelude.{IfOk, IfErr, OnErr}
use Rattle.vme_line_map.specs.Variables.{Map}
use Rattle.vme_vcd_reader.specs.declared.fault.VcdFault.{VcdFault}
use Rattle.vme_vcd_reader.specs.declared.fault.VcdFault.TheVariants as faults
use Rattle.vme_vcd_reader.specs.declared.header.Header.{Header}
use Rattle.vme_vcd_reader.specs.declared.header.Progress.TheVariants as progress
use Rattle.vme_vcd_reader.specs.declared.reader.Step.{Step}
use Rattle.vme_vcd_reader.specs.declared.reader.Step.TheVariants as steps
use Rattle.vme_vcd_reader.specs.declared.reader.VcdReader.{VcdReader}
use Rattle.vme_vcd_reader.specs.declared.variable.Mapped.{Mapped}
use Rattle.vme_vcd_reader.specs.Bodies.{Reading}
use Rattle.vme_vcd_reader.specs.Faults.{Flaw}
use Rattle.vme_vcd_reader.specs.Found.{IsMapFault, IsMatching}
use Rattle.vme_vcd_reader.specs.Headers.{Heading, Outcome, Goes, Declares, Ends, Rejects, fault_of, header_end, is_long}
use Rattle.vme_vcd_reader.specs.Headings.{IsHeading, ReadsByte}
use Rattle.vme_vcd_reader.specs.Mapping.{Declaration, declaration}
use Rattle.vme_vcd_reader.specs.Matches.{lines_of}
use Rattle.vme_vcd_reader.specs.Openings.{opening_of}
use Rattle.vme_vcd_reader.specs.Presences.{presence_of}
use Rattle.vme_vcd_reader.specs.Samples.{End, Broken}
use Rattle.vme_vcd_reader.specs.Readers.{EntersBody, IsBefore, IsEndFault, IsHeader, IsHeadingFault, IsReading, TakesHeading}

-- a byte that completes nothing
pub takes_more : (map : Map) (o : Outcome) (ds : List Declaration) (v : VcdReader) → ReadsByte o progress.More v.header
    → ((h : Heading) → IsHeading h v.header → IsHeader map h ds v) → TakesHeading map o ds steps.More v
takes_more map (Goes h) ds v reads is = (refl, is h reads.1)
takes_more map (Declares h) ds v reads is = absurd (cc (reads.0))
takes_more map Ends ds v reads is = absurd (cc reads)
takes_more map (Rejects fault) ds v reads is = absurd reads

-- a byte that completes the header
pub takes_end : (map : Map) (o : Outcome) (ds : List Declaration) (s : Header) (step : Step) (v : VcdReader) → ReadsByte o progress.Ended s
    → (step ≡ steps.Header) × EntersBody (lines_of map ds) v → TakesHeading map o ds step v
takes_end map (Goes h) ds s step v reads enters = absurd (cc (reads.0))
takes_end map (Declares h) ds s step v reads enters = absurd (cc (reads.0))
takes_end map Ends ds s step v reads enters = enters
takes_end map (Rejects fault) ds s step v reads enters = absurd reads

-- a byte that is not taken
pub fault_is : (o : Outcome) (lines : Result (List (ℕ × Mapped)) VcdFault) (fault : VcdFault) → fault ≡ fault_of o → IsHeadingFault o lines fault
fault_is (Goes h) lines fault is = is
fault_is (Declares h) lines fault is = is
fault_is Ends lines fault is = inl is
fault_is (Rejects why) lines fault is = is

pub variable_fault : (o : Outcome) (s : Header) (lines : Result (List (ℕ × Mapped)) VcdFault) (fault : VcdFault) → ReadsByte o progress.Variable s
    → fault ≡ faults.Memory → IsHeadingFault o lines fault
variable_fault (Goes h) s lines fault reads is = is
variable_fault (Declares h) s lines fault reads is = is
variable_fault Ends s lines fault reads is = inl is
variable_fault (Rejects why) s lines fault reads is = absurd reads

pub end_is_fault : (o : Outcome) (s : Header) (lines : Result (List (ℕ × Mapped)) VcdFault) (fault : VcdFault) → ReadsByte o progress.Ended s
    → IsMapFault lines fault → IsHeadingFault o lines fault
end_is_fault (Goes h) s lines fault reads is = absurd (cc (reads.0))
end_is_fault (Declares h) s lines fault reads is = absurd (cc (reads.0))
end_is_fault Ends s lines fault reads is = is
end_is_fault (Rejects why) s lines fault reads is = absurd reads

-- a text that ends in its header
pub end_fault_is : (o : Outcome) (lines : Result (List (ℕ × Mapped)) VcdFault) (fault : VcdFault) → IsHeadingFault o lines fault
    → IsEndFault (header_end o lines) fault
end_fault_is (Goes h) lines fault is = inl is
end_fault_is (Declares h) lines fault is = inl is
end_fault_is Ends lines fault (inl is) = inl is
end_fault_is Ends lines fault (inr is) = inr (ap (header_end Ends) is)
end_fault_is (Rejects why) lines fault is = inr (ap Some (sym is))

pub ends_within : (map : Map) (o : Outcome) (ds : List Declaration) (step : Step) (v : VcdReader) → TakesHeading map o ds step v
    → (step ≡ steps.Header → ⊥) → header_end o (lines_of map ds) ≡ Some faults.EndsInHeader
ends_within map (Goes h) ds step v takes other = refl
ends_within map (Declares h) ds step v takes other = refl
ends_within map Ends ds step v takes other = absurd (other takes.0)
ends_within map (Rejects fault) ds step v takes other = absurd takes

enters_whole : (lines : Result (List (ℕ × Mapped)) VcdFault) (v : VcdReader) → EntersBody lines v → header_end Ends lines ≡ None
enters_whole (Ok lines) v enters = refl
enters_whole (Err fault) v enters = absurd enters

pub ends_whole : (map : Map) (o : Outcome) (ds : List Declaration) (step : Step) (v : VcdReader) → TakesHeading map o ds step v → step ≡ steps.Header
    → header_end o (lines_of map ds) ≡ None
ends_whole map (Goes h) ds step v takes is = absurd (let both : steps.More ≡ steps.Header = sym takes.0 ∙ is in cc both)
ends_whole map (Declares h) ds step v takes is = absurd (let both : steps.More ≡ steps.Header = sym takes.0 ∙ is in cc both)
ends_whole map Ends ds step v takes is = enters_whole (lines_of map ds) v takes.1
ends_whole map (Rejects fault) ds step v takes is = absurd takes

-- a header that is whole ends a text, since its body has no word
pub on_ok : {T E : Type 0} (result : Result T E) {P : Type 0} → P → IfOk result (λ _. P)
on_ok (Ok value) it = it
on_ok (Err fault) it = tt

pub whole_body : {T : Type 0} (result : Result T VcdFault) (P : VcdFault → Type 0) (flaw : Flaw) → OnErr result (End ≡ Broken flaw) → IfErr result P
whole_body (Ok value) P flaw never = tt
whole_body (Err fault) P flaw never = absurd (cc never)

-- a reader whose line is another one
pub before_line : (v : VcdReader) (n : ℕ) → IsBefore v → IsBefore (record v { line = n })
before_line v n is = record {
  entered = is.entered;
  body = is.body;
  rows = is.rows;
  heads = is.heads;
  lines = is.lines;
  time = is.time;
  changed = is.changed;
}

-- a reader whose header is another one
pub before_header : (v : VcdReader) (s : Header) → IsBefore v → IsBefore (record v { header = s })
before_header v s is = record {
  entered = is.entered;
  body = is.body;
  rows = is.rows;
  heads = is.heads;
  lines = is.lines;
  time = is.time;
  changed = is.changed;
}

header_line : (map : Map) (h : Heading) (ds : List Declaration) (v : VcdReader) (n : ℕ) → IsHeader map h ds v → IsHeader map h ds (record v { line = n })
header_line map h ds v n is = record { before = before_line v n is.before; same = is.same; heading = is.heading; matching = is.matching }

pub reading_line : (r : Reading) (v : VcdReader) (m n : ℕ) → m ≡ n → IsReading r v → IsReading (record r { line = n }) (record v { line = m })
reading_line r v m n same is = record {
  entered = is.entered;
  body = is.body;
  table = is.table;
  lines = is.lines;
  time = is.time;
  changed = is.changed;
  line = same;
}

enters_line : (lines : Result (List (ℕ × Mapped)) VcdFault) (v : VcdReader) (n : ℕ) → EntersBody lines v → EntersBody lines (record v { line = n })
enters_line (Ok lines) v n (rows, presence, reading) = (rows, presence, reading_line (opening_of (presence_of lines).busy v.line) v n n refl reading)
enters_line (Err fault) v n enters = absurd enters

-- a byte that ends a line
pub takes_line : (map : Map) (o : Outcome) (ds : List Declaration) (step : Step) (v : VcdReader) (n : ℕ) → TakesHeading map o ds step v
    → TakesHeading map o ds step (record v { line = n })
takes_line map (Goes h) ds step v n (is, header) = (is, header_line map h ds v n header)
takes_line map (Declares h) ds step v n (is, header) = (is, header_line map h (ds ++ declaration h ∷ []) v n header)
takes_line map Ends ds step v n (is, enters) = (is, enters_line (lines_of map ds) v n enters)
takes_line map (Rejects fault) ds step v n takes = takes

-- what was found, by the reader's own map
pub own_matching : (map : Map) (h : Heading) (ds : List Declaration) (v : VcdReader) → IsHeader map h ds v → IsMatching v.map.now ds v.matching
own_matching map h ds v is = subst (λ map. IsMatching map ds v.matching) (sym is.same) is.matching

-- a variable is taken, or not
pub variable_ok : (map : Map) (o : Outcome) (ds : List Declaration) (s : Header) (v : VcdReader) (r : Result Step VcdFault) → ReadsByte o progress.Variable s
    → s.name.is_cut ≡ false
    → ((h : Heading) → IsHeading h s → is_long h.name ≡ false → IfOk r (λ step. (step ≡ steps.More) × IsHeader map h (ds ++ declaration h ∷ []) v))
    → IfOk r (λ step. TakesHeading map o ds step v)
variable_ok map (Goes h) ds s v r reads whole takes = absurd (cc (reads.0))
variable_ok map (Declares h) ds s v r reads whole takes = takes h reads.1 (sym reads.1.stands.name.cut ∙ whole)
variable_ok map Ends ds s v r reads whole takes = absurd (cc reads)
variable_ok map (Rejects fault) ds s v r reads whole takes = absurd reads

pub variable_err : (o : Outcome) (s : Header) (lines : Result (List (ℕ × Mapped)) VcdFault) (r : Result Step VcdFault) → ReadsByte o progress.Variable s
    → IfErr r (λ fault. fault ≡ faults.Memory) → IfErr r (IsHeadingFault o lines)
variable_err o s lines (Ok step) reads is = is
variable_err o s lines (Err fault) reads is = variable_fault o s lines fault reads is

-- the body begins, or not
pub end_ok : (map own : Map) (o : Outcome) (ds : List Declaration) (s : Header) (v : VcdReader) (r : Result Step VcdFault) → ReadsByte o progress.Ended s
    → own ≡ map → IfOk r (λ step. (step ≡ steps.Header) × EntersBody (lines_of own ds) v) → IfOk r (λ step. TakesHeading map o ds step v)
end_ok map own o ds s v (Ok step) reads same enters =
    takes_end map o ds s step v reads (enters.0, subst (λ map. EntersBody (lines_of map ds) v) same enters.1)
end_ok map own o ds s v (Err fault) reads same enters = enters

pub end_err : (map own : Map) (o : Outcome) (ds : List Declaration) (s : Header) (r : Result Step VcdFault) → ReadsByte o progress.Ended s → own ≡ map
    → IfErr r (IsMapFault (lines_of own ds)) → IfErr r (IsHeadingFault o (lines_of map ds))
end_err map own o ds s (Ok step) reads same is = is
end_err map own o ds s (Err fault) reads same is =
    end_is_fault o s (lines_of map ds) fault reads (subst (λ map. IsMapFault (lines_of map ds) fault) same is)
