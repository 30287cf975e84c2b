-- If transitions lead a processor to the replies of its lines, its next turn makes the first of them, and the others lead
-- it to the same replies.
use Rattle.std.proofs.Common.{◌≡◌, ℕ, List, [], ◌∷◌, ◌++◌, length, drop, refl, ap, sym, subst, ◌∙◌, append_assoc}
use Rattle.std.proofs.lemmas.List.{append-nil, drop-drop, length_push}
use Rattle.vme_core.specs.declared.event.EventReply.{EventReply}
use Rattle.vme_core.specs.Runs.{Machine, Transition}
use Rattle.vme_core.specs.Calls.{call_of, machine_step}
use Rattle.vme_core.specs.NextSteps.{NextStep, Invokes, Returns}
use Rattle.vme_shared.specs.declared.reply.LineReply.{LineReply}
use Rattle.vme_grammar.specs.declared.line.Line.{Line}
use Rattle.vme_script.specs.Configurations.{Configuration}
use Rattle.vme_line_task.specs.Scripts.{lines_at}
use Rattle.vme_line_task.specs.Tables.{line_next}
use Rattle.vme_line_task.specs.Traces.{Continues, IsTrace, ScriptState}
use Rattle.vme_stepper.specs.Turns.{script_state, settled, turn_by, script_state_turn, lines_left}

-- the lines left after the reply to the first of them
left_after : (config : Configuration) (board : ℕ) (ended : List LineReply) (answer : LineReply) (line : Line) (lines : List Line)
    → drop (length ended) (lines_at config board) ≡ line ∷ lines
    → drop (length (ended ++ answer ∷ [])) (lines_at config board) ≡ lines
left_after config board ended answer line lines left =
    ap (λ n. drop n (lines_at config board)) (length_push ended answer) ∙ sym (drop-drop 1 (length ended) (lines_at config board))
    ∙ ap (λ ls. drop 1 ls) left

-- transitions continue a line from these replies to its own reply, and are then the trace of the lines after it
pub record Leading (config : Configuration) (board : ℕ) (line : Line) (lines : List Line) (replies : List EventReply) (moves : List Transition)
    (answers : List LineReply) : Type 0 where
  pub first : List Transition
  pub rest : List Transition
  pub answer : LineReply
  pub more : List LineReply
  pub last : List EventReply
  pub moves_are : moves ≡ first ++ rest
  pub answers_are : answers ≡ answer ∷ more
  pub goes : Continues config board line replies first last
  pub ends : line_next config board line last ≡ Returns answer
  pub then : IsTrace config board lines rest more

-- transitions lead a processor with these lines left, and these replies to the first of them, to the replies of all lines
abbrev pub Leads : Configuration → ℕ → List Line → List EventReply → List Transition → List LineReply → Type 0
Leads config board [] replies moves answers = (replies ≡ []) × (moves ≡ []) × (answers ≡ [])
Leads config board (line ∷ lines) replies moves answers = Leading config board line lines replies moves answers

-- a trace of lines leads to their replies
pub leads_first : (config : Configuration) (board : ℕ) (lines : List Line) (moves : List Transition) (answers : List LineReply)
    → IsTrace config board lines moves answers → Leads config board lines [] moves answers
leads_first config board [] moves [] trace = (refl, trace, refl)
leads_first config board [] moves (one ∷ answers) trace = absurd trace
leads_first config board (line ∷ lines) moves [] trace = absurd trace
leads_first config board (line ∷ lines) moves (answer ∷ more) trace = record {
  first = trace.0;
  rest = trace.1;
  answer = answer;
  more = more;
  last = trace.3.replies;
  moves_are = trace.2;
  answers_are = refl;
  goes = trace.3.goes;
  ends = trace.3.ends;
  then = trace.4;
}

-- transitions lead a processor from its script state to the replies of all its lines
pub record CanEnd (config : Configuration) (board : ℕ) (c : ScriptState) (moves : List Transition) (answers : List LineReply) : Type 0 where
  pub more : List LineReply
  pub split : answers ≡ c.ended ++ more
  pub leads : Leads config board (lines_left config board c) c.replies moves more

-- a turn made the transition m, and the other transitions lead the processor to the replies of its lines
pub record Turned (config : Configuration) (board : ℕ) (machine : Machine) (m : Transition) (rest : List Transition) (answers : List LineReply)
    (after : Machine × ScriptState) : Type 0 where
  pub machine_is : after.0 ≡ (machine_step machine board (call_of m.event)).0
  pub can : CanEnd config board after.1 rest answers

module _ (config : Configuration) (board : ℕ) where
  -- the replies to all lines, after one more of them is recorded
  split_more : (answers ended more : List LineReply) (answer : LineReply) (rest : List LineReply) → answers ≡ ended ++ more
      → more ≡ answer ∷ rest
      → answers ≡ (ended ++ answer ∷ []) ++ rest
  split_more answers ended more answer rest split are =
      split ∙ ap (λ l. ended ++ l) are ∙ sym (append_assoc ended (answer ∷ []) rest)

  -- after a transition the line has its reply, or continues by its other transitions
  after_move : (lines : List Line) (line : Line) (c : ScriptState) (m : Transition) (rest : List Transition) (answers more : List LineReply)
      → lines_left config board c ≡ line ∷ lines → answers ≡ c.ended ++ more
      → (later others : List Transition) (answer : LineReply) (after : List LineReply) (last : List EventReply)
      → rest ≡ later ++ others → more ≡ answer ∷ after
      → Continues config board line (m.reply ∷ c.replies) later last → line_next config board line last ≡ Returns answer
      → IsTrace config board lines others after
      → CanEnd config board (settled c.ended (m.reply ∷ c.replies) (line_next config board line (m.reply ∷ c.replies))) rest answers
  after_move lines line c m rest answers more left split [] others answer after last is are goes ends then =
      let next : line_next config board line (m.reply ∷ c.replies) ≡ Returns answer =
      ap (line_next config board line) goes ∙ ends in
      let now : ScriptState = script_state (c.ended ++ answer ∷ []) [] in
      subst (λ (next : NextStep LineReply). CanEnd config board (settled c.ended (m.reply ∷ c.replies) next) rest answers)
      (sym next)
      (record {
        more = after;
        split = split_more answers c.ended more answer after split are;
        leads = subst (λ (ls : List Line). Leads config board ls [] rest after) (sym (left_after config board c.ended answer line lines left))
            (leads_first config board lines rest after (subst (λ (ms : List Transition). IsTrace config board lines ms after) (sym is) then));
      })
  after_move lines line c m rest answers more left split (g ∷ later) others answer after last is are goes ends then =
      subst (λ (next : NextStep LineReply). CanEnd config board (settled c.ended (m.reply ∷ c.replies) next) rest answers)
      (sym goes.0)
      (record {
        more = more;
        split = split;
        leads = subst (λ (ls : List Line). Leads config board ls (m.reply ∷ c.replies) rest more) (sym left) (record {
          first = g ∷ later;
          rest = others;
          answer = answer;
          more = after;
          last = last;
          moves_are = is;
          answers_are = are;
          goes = goes;
          ends = ends;
          then = then;
        });
      })

  -- the turn of a processor that has transitions left makes the first of them
  pub turned : (lines : List Line) (machine : Machine) (c : ScriptState) (m : Transition) (rest : List Transition) (answers more : List LineReply)
      → lines_left config board c ≡ lines → m.reply ≡ (machine_step machine board (call_of m.event)).1 → answers ≡ c.ended ++ more
      → Leads config board lines c.replies (m ∷ rest) more
      → Turned config board machine m rest answers (script_state_turn config board lines machine c)
  turned [] machine c m rest answers more left reply split leads = absurd (cc leads.1)
  turned (line ∷ lines) machine c m rest answers more left reply split leads =
      by_first (λ now later left split leads. turned lines machine now m rest answers later left reply split leads) leads.first leads.moves_are leads.goes
    where
      by_first : ((now : ScriptState) (later : List LineReply) → lines_left config board now ≡ lines → answers ≡ now.ended ++ later
          → Leads config board lines now.replies (m ∷ rest) later → Turned config board machine m rest answers (script_state_turn config board lines machine now))
          → (first : List Transition) → m ∷ rest ≡ first ++ leads.rest → Continues config board line c.replies first leads.last
          → Turned config board machine m rest answers (turn_by config board line machine c (line_next config board line c.replies) (script_state_turn config board lines machine))
      by_first again [] is goes =
          let next : line_next config board line c.replies ≡ Returns leads.answer =
          ap (line_next config board line) goes ∙ leads.ends in
          let now : ScriptState = script_state (c.ended ++ leads.answer ∷ []) [] in
          subst (λ (next : NextStep LineReply). Turned config board machine m rest answers (turn_by config board line machine c next (script_state_turn config board lines machine)))
          (sym next)
          (again now leads.more (left_after config board c.ended leads.answer line lines left)
          (split_more answers c.ended more leads.answer leads.more split leads.answers_are)
          (leads_first config board lines (m ∷ rest) leads.more (subst (λ (ms : List Transition). IsTrace config board lines ms leads.more) (sym is) leads.then)))
      by_first again (f ∷ later) is goes =
          let same : f ≡ m = cc is in
          let others : rest ≡ later ++ leads.rest = cc is in
          let next : line_next config board line c.replies ≡ Invokes (call_of m.event) =
          goes.0 ∙ ap (λ (f : Transition). Invokes (call_of f.event)) same in
          let on : Continues config board line (m.reply ∷ c.replies) later leads.last =
          subst (λ (f : Transition). Continues config board line (f.reply ∷ c.replies) later leads.last) same goes.1 in
          let step = machine_step machine board (call_of m.event) in
          let can =
          after_move lines line c m rest answers more left split later leads.rest leads.answer leads.more leads.last others leads.answers_are on leads.ends leads.then in
          subst (λ (next : NextStep LineReply). Turned config board machine m rest answers (turn_by config board line machine c next (script_state_turn config board lines machine)))
          (sym next)
          (record {
            machine_is = refl;
            can = subst (λ (r : EventReply). CanEnd config board (settled c.ended (r ∷ c.replies) (line_next config board line (r ∷ c.replies))) rest answers) reply can;
          })

  -- the turn of a processor that has no transition left records the replies of all its lines
  pub finished : (lines : List Line) (machine : Machine) (c : ScriptState) (answers more : List LineReply)
      → lines_left config board c ≡ lines
      → answers ≡ c.ended ++ more → Leads config board lines c.replies [] more
      → script_state_turn config board lines machine c ≡ (machine, script_state answers [])
  finished [] machine c answers more left split leads =
      let all : c.ended ≡ answers = sym (split ∙ ap (λ l. c.ended ++ l) leads.2 ∙ append-nil c.ended) in
      λ i. (machine, script_state (all i) (leads.0 i))
  finished (line ∷ lines) machine c answers more left split leads =
      by_first (λ now later left split leads. finished lines machine now answers later left split leads) leads.first leads.moves_are leads.goes
    where
      by_first : ((now : ScriptState) (later : List LineReply) → lines_left config board now ≡ lines → answers ≡ now.ended ++ later
          → Leads config board lines now.replies [] later → script_state_turn config board lines machine now ≡ (machine, script_state answers []))
          → (first : List Transition) → [] ≡ first ++ leads.rest → Continues config board line c.replies first leads.last
          → turn_by config board line machine c (line_next config board line c.replies) (script_state_turn config board lines machine) ≡ (machine, script_state answers [])
      by_first again [] is goes =
          let next : line_next config board line c.replies ≡ Returns leads.answer =
          ap (line_next config board line) goes ∙ leads.ends in
          let now : ScriptState = script_state (c.ended ++ leads.answer ∷ []) [] in
          subst (λ (next : NextStep LineReply). turn_by config board line machine c next (script_state_turn config board lines machine) ≡ (machine, script_state answers []))
          (sym next)
          (again now leads.more (left_after config board c.ended leads.answer line lines left)
          (split_more answers c.ended more leads.answer leads.more split leads.answers_are)
          (leads_first config board lines [] leads.more (subst (λ (ms : List Transition). IsTrace config board lines ms leads.more) (sym is) leads.then)))
      by_first again (f ∷ later) is goes = absurd (cc is)
