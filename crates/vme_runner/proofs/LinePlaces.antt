-- Each transition of one order is of a line of its processor's script.
use Rattle.std.proofs.Common.{◌≡◌, ℕ, zero, suc, ◌+◌, ◌≤◌, ◌<◌, List, [], ◌∷◌, ◌++◌, length, take, Some, refl, ap, sym, subst, ◌∙◌, append_assoc, length-append, arith, inl, inr, ◌⊎◌}
use Rattle.std.specs.Prelude.{slice_get, ◌==◌}
use Rattle.std.proofs.lemmas.List.Elements.{filter-append}
use Rattle.vme_core.specs.Runs.{Transition}
use Rattle.vme_shared.specs.declared.reply.LineReply.{LineReply}
use Rattle.vme_grammar.specs.declared.line.Line.{Line}
use Rattle.vme_script.specs.Configurations.{Configuration}
use Rattle.vme_script.specs.Lawful.{IsLawful}
use Rattle.vme_line_task.specs.Scripts.{lines_at}
use Rattle.vme_line_task.specs.Traces.{LineTrace, IsTrace}
use Rattle.vme_bus_objects.specs.Runs.{transitions_of}
use Rattle.vme_threads.specs.declared.report.Report.{Report}
use Rattle.vme_threads.specs.OneOrder.{IsReportOfOneOrder}
use Rattle.vme_run.proofs.lemmas.Lists.{element_at}
use Rattle.vme_run.proofs.lemmas.Turns.{transitions_own}
use Rattle.vme_run.proofs.lemmas.Reports.{answers, order}
use Rattle.vme_runner.specs.TransferTenures.{IsLineIn, IsOfLine}
use Rattle.vme_runner.proofs.Orders.{place_in}

-- a transition of a processor is its next one
pub own_next : (who : ℕ) (m : Transition) (moves : List Transition) → m.who ≡ who
    → transitions_of who (m ∷ moves) ≡ m ∷ transitions_of who moves
own_next who m moves same =
    subst (λ (w : ℕ). transitions_of w (m ∷ moves) ≡ m ∷ transitions_of w moves) same (transitions_own m moves)

-- the transitions of a processor in a run that goes on with one of its own
pub own_at : (who : ℕ) (before : List Transition) (m : Transition) (after : List Transition) → m.who ≡ who
    → transitions_of who (before ++ m ∷ after) ≡ transitions_of who before ++ m ∷ transitions_of who after
own_at who before m after same =
    filter-append (λ (o : Transition). o.who == who) before (m ∷ after)
    ∙ ap (λ (ms : List Transition). transitions_of who before ++ ms) (own_next who m after same)

-- a number is below another, or that and more
below_or : (n k : ℕ) → (n < k) ⊎ ((more : ℕ) × (n ≡ k + more))
below_or n zero = inr (n, omega arith)
below_or zero (suc k) = inl (omega arith)
below_or (suc n) (suc k) =
    elim (below_or n k) [
      | inl less ↦ inl (omega (arith, less))
      | inr past ↦ inr (past.0, let same : n ≡ k + past.0 = past.1 in omega (arith, same))
    ]

-- the line of a trace to which the transition with a number belongs
record IsFound (config : Configuration) (board : ℕ) (lines : List Line) (moves : List Transition) (n : ℕ) : Type 0 where
  index : ℕ
  line : Line
  earlier : List Transition
  own : List Transition
  later : List Transition
  found : slice_get lines index ≡ Some line
  answers : List LineReply
  before : IsTrace config board (take index lines) earlier answers
  answer : LineReply
  trace : LineTrace config board line own answer
  whole : moves ≡ earlier ++ (own ++ later)
  begins : length earlier ≤ n
  to : n < length earlier + length own

-- a list whose rest is in two parts
whole_later : (moves first rest earlier later : List Transition) → moves ≡ first ++ rest → rest ≡ earlier ++ later
    → moves ≡ (first ++ earlier) ++ later
whole_later moves first rest earlier later is rest_is =
    is ∙ ap (λ (ms : List Transition). first ++ ms) rest_is ∙ sym (append_assoc first earlier later)

-- each transition of a trace belongs to a line
find : (config : Configuration) (board : ℕ) (lines : List Line) (moves : List Transition) (answers : List LineReply) (n : ℕ)
    → IsTrace config board lines moves answers → n < length moves → IsFound config board lines moves n
find config board [] moves [] n trace less = let none : length moves ≡ 0 = ap length trace in absurd (omega (arith, none, less))
find config board [] moves (one ∷ answers) n trace less = absurd trace
find config board (line ∷ lines) moves [] n trace less = absurd trace
find config board (line ∷ lines) moves (answer ∷ more) n trace less =
    let first : List Transition = trace.0 in
    let rest : List Transition = trace.1 in
    let count : length moves ≡ length first + length rest = ap length trace.2 ∙ length-append first rest in
    elim (below_or n (length first)) [
      | inl here ↦ record {
        index = 0;
        line = line;
        earlier = [];
        own = first;
        later = rest;
        found = refl;
        answers = [];
        before = refl;
        answer = answer;
        trace = trace.3;
        whole = trace.2;
        begins = omega arith;
        to = omega (arith, here);
      }
      | inr past ↦
          let same : n ≡ length first + past.0 = past.1 in
          let one : IsFound config board lines rest past.0 = find config board lines rest more past.0 trace.4 (omega (arith, count, same, less)) in
          let long : length (first ++ one.earlier) ≡ length first + length one.earlier = length-append first one.earlier in
          let low : length one.earlier ≤ past.0 = one.begins in
          let high : past.0 < length one.earlier + length one.own = one.to in
          record {
            index = suc one.index;
            line = one.line;
            earlier = first ++ one.earlier;
            own = one.own;
            later = one.later;
            found = one.found;
            answers = answer ∷ one.answers;
            before = (first, one.earlier, refl, trace.3, one.before);
            answer = one.answer;
            trace = one.trace;
            whole = whole_later moves first rest one.earlier (one.own ++ one.later) trace.2 one.whole;
            begins = omega (arith, long, same, low);
            to = omega (arith, long, same, high);
          }
    ]

-- the transitions of each processor in a report are the trace of its script
own_trace : (config : Configuration) (report : Report) → IsLawful config → (is : IsReportOfOneOrder config report) (who : ℕ)
    → who < length config.boards
    → (own : List LineReply) × IsTrace config who (lines_at config who) (transitions_of who is.run) own
own_trace config report lawful is who there =
    let one = order config report lawful is in
    let own = element_at (answers config report lawful is) who (subst (λ n. who < n) (sym one.count) there) in
    (own.0, one.traces who own.0 own.1)

-- the line of a transition in one order
abbrev LineOf : Configuration → List Transition → List Transition → Transition → Type 0
LineOf config run before m =
    (index : ℕ) × (line : Line) × (earlier : List Transition) × (own : List Transition) × (later : List Transition)
    × IsLineIn config run m.who index line earlier own later × IsOfLine m.who earlier own before m

-- each transition of a report is of a line
pub line_of : (config : Configuration) (report : Report) (is : IsReportOfOneOrder config report) (before after : List Transition) (m : Transition)
    → IsLawful config → is.run ≡ before ++ m ∷ after → LineOf config is.run before m
line_of config report is before after m lawful whole =
    let place = place_in config report is before (m ∷ after) lawful whole in
    let own = own_trace config report lawful is m.who place.along.0.there in
    let split : transitions_of m.who is.run ≡ transitions_of m.who before ++ m ∷ transitions_of m.who after =
    ap (transitions_of m.who) whole ∙ own_at m.who before m after refl in
    let count : length (transitions_of m.who is.run) ≡ length (transitions_of m.who before) + (1 + length (transitions_of m.who after)) =
    ap length split ∙ length-append (transitions_of m.who before) (m ∷ transitions_of m.who after) ∙ omega arith in
    let one = find config m.who (lines_at config m.who) (transitions_of m.who is.run) own.0 (length (transitions_of m.who before)) own.1
    (omega (arith, count)) in (
      one.index,
      one.line,
      one.earlier,
      one.own,
      one.later,
      record { found = one.found; answers = one.answers; before = one.before; answer = one.answer; trace = one.trace; whole = one.whole },
      record { processor = refl; begins = one.begins; ends = one.to },
    )
