-- The trace of a script leads its processor to the replies of all lines.
use Rattle.std.proofs.Common.{◌≡◌, ℕ, List, [], ◌∷◌, ◌++◌, length, drop, ap, sym, subst, ◌∙◌, append_assoc}
use Rattle.std.proofs.lemmas.List.{append-nil, drop-drop, length_push}
use Rattle.vme_object.specs.declared.history.Entry.{Entry}
use Rattle.vme_core.specs.declared.event.EventReply.{EventReply}
use Rattle.vme_core.specs.Runs.{Transition}
use Rattle.vme_core.specs.Calls.{call_of}
use Rattle.vme_core.specs.NextSteps.{NextStep, Invokes, Returns}
use Rattle.vme_shared.specs.declared.reply.LineReply.{LineReply}
use Rattle.vme_grammar.specs.declared.line.Line.{Line}
use Rattle.vme_script.specs.Configurations.{Configuration}
use Rattle.vme_line_task.specs.Scripts.{lines_at}
use Rattle.vme_line_task.specs.Tables.{line_next}
use Rattle.vme_line_task.specs.Traces.{Continues, IsTrace, ScriptState}
use Rattle.vme_stepper.specs.Turns.{script_state, settled, lines_left}
use Rattle.vme_order.specs.Systems.{Next, Ended}
use Rattle.vme_order.specs.Orders.{Leads}
use Rattle.vme_order_laws.specs.Processors.{line_course, lines_course, processor_course, calls_in}

-- a process is led from a state by what it does next there
same_course : {D R P : Type 0} (next : P → Next D R P) (p q : P) (h : List (Entry D R)) (end : P) → next p ≡ next q
    → Leads next q h end → Leads next p h end
same_course next p q [] end same leads = same ∙ leads
same_course next p q (e ∷ h) end same leads = (leads.0, same ∙ leads.1, leads.2)

module _ (config : Configuration) (b : ℕ) where
  -- the lines left after the reply to the first of them
  lines_after : (ended : List LineReply) (answer : LineReply) (line : Line) (lines : List Line)
      → lines_left config b (script_state ended []) ≡ line ∷ lines
      → lines_left config b (script_state (ended ++ answer ∷ []) []) ≡ lines
  lines_after ended answer line lines left =
      ap (λ n. drop n (lines_at config b)) (length_push ended answer) ∙ sym (drop-drop 1 (length ended) (lines_at config b))
      ∙ ap (λ ls. drop 1 ls) left

  -- what a processor does next, by the lines that are left
  course_is : (c : ScriptState) (lines : List Line) → lines_left config b c ≡ lines
      → processor_course config b c ≡ lines_course config b lines c
  course_is c lines left = ap (λ ls. lines_course config b ls c) left

  module _ (line : Line) (lines : List Line) (ended : List LineReply) (answer : LineReply) (last : List EventReply)
      (left : lines_left config b (script_state ended []) ≡ line ∷ lines) (ends : line_next config b line last ≡ Returns answer)
      (rest : List Transition) (end : ScriptState)
      (then : Leads (processor_course config b) (script_state (ended ++ answer ∷ []) []) (calls_in rest) end) where
    -- what a processor does next, by the next step of its line
    line_is : (replies : List EventReply) (next : NextStep LineReply) → line_next config b line replies ≡ next
        → processor_course config b (script_state ended replies)
        ≡ line_course config b line (script_state ended replies) next (lines_course config b lines)
    line_is replies next is =
        course_is (script_state ended replies) (line ∷ lines) left
        ∙ ap (λ next. line_course config b line (script_state ended replies) next (lines_course config b lines)) is

    -- after a reply, the line has its own, or goes on by its other transitions
    after_reply : (replies : List EventReply) (moves : List Transition) → Continues config b line replies moves last
        → Leads (processor_course config b) (script_state ended replies) (calls_in (moves ++ rest)) end
        → Leads (processor_course config b) (settled ended replies (line_next config b line replies)) (calls_in
        (moves ++ rest)) end
    after_reply replies [] goes again =
        subst (λ (next : NextStep LineReply). Leads (processor_course config b) (settled ended replies next) (calls_in rest) end)
        (sym (ap (line_next config b line) goes ∙ ends)) then
    after_reply replies (m ∷ moves) goes again =
        subst (λ (next : NextStep LineReply). Leads (processor_course config b) (settled ended replies next) (calls_in (m ∷
        (moves ++ rest))) end)
        (sym goes.0) again

    -- the transitions of a line, and those after it, lead the processor to its end
    line_leads : (replies : List EventReply) (moves : List Transition) → Continues config b line replies moves last
        → Leads (processor_course config b) (script_state ended replies) (calls_in (moves ++ rest)) end
    line_leads replies [] goes =
        let now : line_next config b line replies ≡ Returns answer = ap (line_next config b line) goes ∙ ends in
        let after : ScriptState = script_state (ended ++ answer ∷ []) [] in
        same_course (processor_course config b) (script_state ended replies) after (calls_in rest) end
        (line_is replies (Returns answer) now ∙ sym (course_is after lines (lines_after ended answer line lines left))) then
    line_leads replies (m ∷ moves) goes = (
      (λ reply. settled ended (reply ∷ replies) (line_next config b line (reply ∷ replies))),
      line_is replies (Invokes (call_of m.event)) goes.0,
      after_reply (m.reply ∷ replies) moves goes.1 (line_leads (m.reply ∷ replies) moves goes.1),
    )

  -- a trace of the lines that are left leads the processor to the replies of all lines
  pub trace_leads : (lines : List Line) (ended : List LineReply) (moves : List Transition) (answers : List LineReply)
      → lines_left config b (script_state ended []) ≡ lines → IsTrace config b lines moves answers
      → Leads (processor_course config b) (script_state ended []) (calls_in moves) (script_state (ended ++ answers) [])
  trace_leads [] ended moves [] left trace =
      subst (λ ms. Leads (processor_course config b) (script_state ended []) (calls_in ms) (script_state (ended ++ []) []))
      (sym trace)
      (course_is (script_state ended []) [] left ∙ ap (λ l. Ended (script_state l [])) (sym (append-nil ended)))
  trace_leads [] ended moves (answer ∷ answers) left trace = absurd trace
  trace_leads (line ∷ lines) ended moves [] left trace = absurd trace
  trace_leads (line ∷ lines) ended moves (answer ∷ answers) left trace =
      let end : ScriptState = script_state (ended ++ answer ∷ answers) [] in
      let then : Leads (processor_course config b) (script_state (ended ++ answer ∷ []) []) (calls_in trace.1) end =
      subst (λ l. Leads (processor_course config b) (script_state (ended ++ answer ∷ []) []) (calls_in trace.1)
      (script_state l []))
      (append_assoc ended (answer ∷ []) answers)
      (trace_leads lines (ended ++ answer ∷ []) trace.1 answers (lines_after ended answer line lines left) trace.4) in
      subst (λ ms. Leads (processor_course config b) (script_state ended []) (calls_in ms) end) (sym trace.2)
      (line_leads line lines ended answer trace.3.replies left trace.3.ends trace.1 end then [] trace.0 trace.3.goes)
