-- The samples of a body, byte by byte.
use Rattle.std.proofs.Common.{◌≡◌, ℕ, Bool, true, false, List, [], ◌∷◌, ◌++◌, Option, Some, None, Result, Ok, Err, IfOk, OnErr, ok_or, is_some, ◌==◌, ◌&&◌, arith, refl, ap, sym, subst, ◌∙◌, append_assoc, append-nil}
use Rattle.std.specs.Prelude.{if◌then◌else◌}
use Rattle.std.proofs.lemmas.Bool.Decides.{nat_tests}
use Rattle.std.specs.Option.{option_map, option_and_then}
use Rattle.vme_vcd_reader.specs.declared.body.Body.{Body}
use Rattle.vme_vcd_reader.specs.declared.body.Said.TheVariants as said
use Rattle.vme_vcd_reader.specs.declared.bus.BusLines.{BusLines}
use Rattle.vme_vcd_reader.specs.declared.fault.VcdFault.{VcdFault}
use Rattle.vme_vcd_reader.specs.declared.fault.VcdFault.TheVariants as faults
use Rattle.vme_vcd_reader.specs.declared.reader.Step.{Step}
use Rattle.vme_vcd_reader.specs.declared.reader.VcdReader.{VcdReader}
use Rattle.vme_vcd_reader.specs.declared.table.Row.{Row}
use Rattle.vme_vcd_reader.specs.Bodies.{Moment, Reading, Shown, after_byte, at_word, line_after, fact_taken, next_line, time_taken}
use Rattle.vme_vcd_reader.specs.Faults.{Flaw, byte_flaw, opened_fault, word_fault}
use Rattle.vme_vcd_reader.specs.Places.{Takes}
use Rattle.vme_vcd_reader.specs.Readers.{IsBroken, IsReading, TakesRead}
use Rattle.vme_vcd_reader.specs.Samples.{Samples, Broken, samples_by, ends_with}
use Rattle.vme_vcd_reader.specs.Words.{is_blank, Awaited, Statement, Variable, Unread, Remark, Opening, Number, Vector, Skipped, Keyword, Scalar, opening, opened_says, Fact, Silence, At, Change, word_says, blank_says, byte_says, NoWord}

-- what a byte says, taken
abbrev pub says_taken : List Row → Reading → Option ((Awaited × List ℕ) × Fact) → Option (Reading × Option Shown)
says_taken rows r o = option_and_then (λ (says : (Awaited × List ℕ) × Fact). fact_taken rows (at_word r says.0) says.1) o

-- what a word says, at its end
abbrev pub ended : Option (Awaited × Fact) → Option ((Awaited × List ℕ) × Fact)
ended o = option_map (λ (says : Awaited × Fact). ((says.0, []), says.1)) o

abbrev pub reading : Awaited → List ℕ → BusLines → Option Moment → Bool → ℕ → Reading
reading awaited word lines time changed line = record {
  awaited = awaited;
  word = word;
  lines = lines;
  time = time;
  changed = changed;
  line = line;
}

-- a body whose line has a flaw
abbrev pub broken : VcdFault → ℕ → Samples
broken fault line = Broken (record { fault = fault; line = line })

-- a body after a byte, by whether it is a blank, what the blank says and what the byte says, or why it does not go on
abbrev pub says_result : List Row → Reading → ℕ → Bool → Option ((Awaited × List ℕ) × Fact) → Option ((Awaited × List ℕ) × Fact)
    → Result (Reading × Option Shown) Flaw
says_result rows r b blank whole o =
    ok_or (option_map (after_byte b) (says_taken rows r o))
    (record { fault = if blank && is_some whole then faults.TimeFalls else word_fault r.awaited r.word; line = r.line })

-- a byte within a word ends no line
within_line : (b line : ℕ) → is_blank b ≡ false → line_after b line ≡ line
within_line b line within =
    let feed : (b == 10) ≡ false = grind (arith, nat_tests) in
    ap (λ feed. if feed then next_line line else line) feed

-- the fault of a word is that of its begin
word_goes : (awaited : Awaited) (c : ℕ) (cs more : List ℕ) → word_fault awaited (c ∷ (cs ++ more)) ≡ word_fault awaited (c ∷ cs)
word_goes Statement c cs more = refl
word_goes (Variable levels) c cs more = refl
word_goes Unread c cs more = refl
word_goes Remark c cs more = refl

-- a word that no dump has breaks the text, however it goes on
stuck : (rows : List Row) (rest : List ℕ) (awaited : Awaited) (c : ℕ) (cs : List ℕ) (lines : BusLines) (time : Option Moment) (changed : Bool) (line : ℕ)
    → ((more : List ℕ) → word_says awaited (c ∷ (cs ++ more)) ≡ None)
    → samples_by rows (Ok (reading awaited (c ∷ cs) lines time changed line, None)) rest ≡ broken (word_fault awaited (c ∷ cs)) line
stuck rows [] awaited c cs lines time changed line none =
    let here : word_says awaited (c ∷ cs) ≡ None = ap (λ cs. word_says awaited (c ∷ cs)) (sym (append-nil cs)) ∙ none [] in
    ap (λ o. ends_with (says_result rows (reading awaited (c ∷ cs) lines time changed line) 32 true (ended o) (ended o))) here
stuck rows (b ∷ bs) awaited c cs lines time changed line none =
    let here : word_says awaited (c ∷ cs) ≡ None = ap (λ cs. word_says awaited (c ∷ cs)) (sym (append-nil cs)) ∙ none [] in
    elim (is_blank b) as (λ blank. is_blank b ≡ blank → samples_by rows (says_result rows (reading awaited (c ∷ cs) lines time changed line) b blank
    (blank_says awaited (c ∷ cs)) (if blank then blank_says awaited (c ∷ cs) else Some ((awaited, (c ∷ cs) ++ b ∷ []), Silence))) bs ≡ broken (word_fault awaited (c ∷ cs)) line) [
      | true ↦ λ is. ap (λ o. samples_by rows (says_result rows (reading awaited (c ∷ cs) lines time changed line) b true (ended o) (ended o)) bs) here
      | false ↦ λ is.
          stuck rows bs awaited c (cs ++ b ∷ []) lines time changed (line_after b line)
          (λ more. ap (λ cs. word_says awaited (c ∷ cs)) (append_assoc cs (b ∷ []) more) ∙ none (b ∷ more))
          ∙ ap (λ fault. broken fault (line_after b line)) (word_goes awaited c cs (b ∷ []))
          ∙ ap (broken (word_fault awaited (c ∷ cs))) (within_line b line is)
    ] refl

-- a byte with which no word begins
first_opens : (o : Option Opening) (b : ℕ) → ((more : List ℕ) → option_and_then (opened_says b more) o ≡ None) → opened_fault o ≡ faults.UnknownWord
first_opens None b none = refl
first_opens (Some Number) b none = absurd (cc (none (49 ∷ [])))
first_opens (Some Vector) b none = absurd (cc (none (49 ∷ [])))
first_opens (Some Skipped) b none = refl
first_opens (Some Keyword) b none = refl
first_opens (Some (Scalar level)) b none = absurd (cc (none (49 ∷ [])))

first_word : (awaited : Awaited) (b : ℕ) → ((more : List ℕ) → word_says awaited (b ∷ more) ≡ None) → word_fault awaited (b ∷ []) ≡ word_fault awaited []
first_word Statement b none = first_opens (opening b) b none
first_word (Variable levels) b none = refl
first_word Unread b none = refl
first_word Remark b none = refl

broken_by : (rows : List Row) (rest : List ℕ) (awaited : Awaited) (word : List ℕ) (b : ℕ) (lines : BusLines) (time : Option Moment) (changed : Bool) (line : ℕ) (blank : Bool)
    → is_blank b ≡ blank → NoWord awaited word b
    → samples_by rows (says_result rows (reading awaited word lines time changed line) b blank
    (blank_says awaited word) (if blank then blank_says awaited word else Some ((awaited, word ++ b ∷ []), Silence))) rest
    ≡ broken (if blank && is_some (blank_says awaited word) then faults.TimeFalls else word_fault awaited word) line
broken_by rows rest awaited word b lines time changed line true is none =
    ap (λ o. samples_by rows (says_result rows (reading awaited word lines time changed line) b true o o) rest) (none.0 is)
    ∙ sym (ap (λ (o : Option ((Awaited × List ℕ) × Fact)). broken (if is_some o then faults.TimeFalls else word_fault awaited word) line) (none.0 is))
broken_by rows rest awaited [] b lines time changed line false is none =
    stuck rows rest awaited b [] lines time changed (line_after b line) (λ more. none.1 is more)
    ∙ ap (λ fault. broken fault (line_after b line)) (first_word awaited b (λ more. none.1 is more))
    ∙ ap (broken (word_fault awaited [])) (within_line b line is)
broken_by rows rest awaited (c ∷ cs) b lines time changed line false is none =
    stuck rows rest awaited c (cs ++ b ∷ []) lines time changed (line_after b line)
    (λ more. ap (λ cs. word_says awaited (c ∷ cs)) (append_assoc cs (b ∷ []) more) ∙ none.1 is more)
    ∙ ap (λ fault. broken fault (line_after b line)) (word_goes awaited c cs (b ∷ []))
    ∙ ap (broken (word_fault awaited (c ∷ cs))) (within_line b line is)

pub broken_word : (rows : List Row) (r : Reading) (b : ℕ) → NoWord r.awaited r.word b → IsBroken rows r b
broken_word rows r b none = λ rest. broken_by rows rest r.awaited r.word b r.lines r.time r.changed r.line (is_blank b) refl none

-- the reader after a word of its body
abbrev with_body : VcdReader → Body → VcdReader
with_body v body = record v { body = body }

-- a time that a body says
says_time : (rows : List Row) (r : Reading) (at : Awaited × List ℕ) (fact : Fact) (time : ℕ) (body : Body) (v new : VcdReader) (result : Result Step VcdFault)
    → Takes (Some (at, fact)) (said.Time time) body → IsReading r v
    → ((q : Reading) → IsReading q (with_body v body) → IfOk result (λ step. TakesRead (time_taken q q.time time) step new))
    → IfOk result (λ step. TakesRead (fact_taken rows (at_word r at) fact) step new)
says_time rows r at Silence time body v new result takes is goes = absurd (cc (takes.1))
says_time rows r at (Change identifier levels) time body v new result takes is goes = absurd (cc (takes.1.0))
says_time rows r at (At other) time body v new result takes is goes =
    let same : time ≡ other = cc (takes.1) in
    subst (λ t. IfOk result (λ step. TakesRead (time_taken (at_word r at) r.time t) step new)) same
    (goes (at_word r at) (record { entered = is.entered; body = takes.0; table = is.table; lines = is.lines; time = is.time; changed = is.changed; line = is.line }))

pub takes_time : (rows : List Row) (r : Reading) (o : Option ((Awaited × List ℕ) × Fact)) (time : ℕ) (body : Body) (v new : VcdReader)
    (result : Result Step VcdFault) → Takes o (said.Time time) body → IsReading r v
    → ((q : Reading) → IsReading q (with_body v body) → IfOk result (λ step. TakesRead (time_taken q q.time time) step new))
    → IfOk result (λ step. TakesRead (says_taken rows r o) step new)
takes_time rows r None time body v new result takes is goes = absurd takes
takes_time rows r (Some says) time body v new result takes is goes = says_time rows r says.0 says.1 time body v new result takes is goes

-- a time that falls
err_then : {T E : Type 0} (result : Result T E) {P Q : Type 0} → (P → Q) → OnErr result P → OnErr result Q
err_then (Ok value) goes it = tt
err_then (Err fault) goes it = goes it

says_fault : (rows : List Row) (r : Reading) (at : Awaited × List ℕ) (fact : Fact) (time : ℕ) (body : Body) (v : VcdReader) (result : Result Step VcdFault)
    → Takes (Some (at, fact)) (said.Time time) body → IsReading r v
    → ((q : Reading) → IsReading q (with_body v body) → OnErr result (time_taken q q.time time ≡ None))
    → OnErr result (fact_taken rows (at_word r at) fact ≡ None)
says_fault rows r at Silence time body v result takes is goes = absurd (cc (takes.1))
says_fault rows r at (Change identifier levels) time body v result takes is goes = absurd (cc (takes.1.0))
says_fault rows r at (At other) time body v result takes is goes =
    let same : time ≡ other = cc (takes.1) in
    subst (λ t. OnErr result (time_taken (at_word r at) r.time t ≡ None)) same
    (goes (at_word r at) (record { entered = is.entered; body = takes.0; table = is.table; lines = is.lines; time = is.time; changed = is.changed; line = is.line }))

pub fault_by : (rows : List Row) (r : Reading) (o : Option ((Awaited × List ℕ) × Fact)) (time : ℕ) (body : Body) (v : VcdReader) (result : Result Step VcdFault)
    → Takes o (said.Time time) body → IsReading r v
    → ((q : Reading) → IsReading q (with_body v body) → OnErr result (time_taken q q.time time ≡ None))
    → OnErr result (says_taken rows r o ≡ None)
fault_by rows r None time body v result takes is goes = absurd takes
fault_by rows r (Some says) time body v result takes is goes = says_fault rows r says.0 says.1 time body v result takes is goes

pub time_fault : (rows : List Row) (r : Reading) (b time : ℕ) (body : Body) (v : VcdReader) (result : Result Step VcdFault)
    → Takes (byte_says r.awaited r.word b) (said.Time time) body → IsReading r v
    → ((q : Reading) → IsReading q (with_body v body) → OnErr result (time_taken q q.time time ≡ None))
    → OnErr result (IsBroken rows r b)
time_fault rows r b time body v result takes is goes =
    err_then result (λ none rest. ap (λ taken. samples_by rows (ok_or (option_map (after_byte b) taken) (byte_flaw r b)) rest) none)
    (fault_by rows r (byte_says r.awaited r.word b) time body v result takes is goes)
