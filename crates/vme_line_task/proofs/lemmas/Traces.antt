-- A processor goes through its script line by line.
use Rattle.std.proofs.Common.{◌≡◌, ℕ, suc, List, [], ◌∷◌, ◌++◌, length, Some, refl, ap, sym, subst, ◌∙◌, append_assoc}
use Rattle.std.specs.Prelude.{slice_get}
use Rattle.std.proofs.lemmas.List.{append-nil}
use Rattle.vme_core.specs.declared.event.EventReply.{EventReply}
use Rattle.vme_core.specs.Calls.{call_of}
use Rattle.vme_core.specs.Runs.{Transition}
use Rattle.vme_core.specs.NextSteps.{Invokes, Returns}
use Rattle.vme_shared.specs.declared.reply.LineReply.{LineReply}
use Rattle.vme_grammar.specs.declared.line.Line.{Line}
use Rattle.vme_script.specs.Configurations.{Configuration}
use Rattle.vme_line_task.specs.Scripts.{lines_at}
use Rattle.vme_line_task.specs.Tables.{line_next}
use Rattle.vme_line_task.specs.Traces.{Continues, LineTrace, IsTrace, ScriptState, IsNextLinePrefix, IsTracePrefix}

-- a line that continues by transitions continues by these and the transition of its next call
pub goes-snoc : (config : Configuration) (board : ℕ) (line : Line) (before : List EventReply) (moves : List Transition) (replies : List EventReply)
    (m : Transition) → Continues config board line before moves replies → line_next config board line replies ≡ Invokes (call_of m.event)
    → Continues config board line before (moves ++ m ∷ []) (m.reply ∷ replies)
goes-snoc config board line before [] replies m goes next =
    (ap (line_next config board line) goes ∙ next, ap (λ rs. m.reply ∷ rs) goes)
goes-snoc config board line before (first ∷ moves) replies m goes next =
    (goes.0, goes-snoc config board line (first.reply ∷ before) moves replies m goes.1 next)

-- the trace of lines and the trace of one more line are the trace of all these lines
pub trace-snoc : (config : Configuration) (board : ℕ) (lines : List Line) (moves : List Transition) (answers : List LineReply) (line : Line)
    (more : List Transition) (answer : LineReply) → IsTrace config board lines moves answers → LineTrace config board line more answer
    → IsTrace config board (lines ++ line ∷ []) (moves ++ more) (answers ++ answer ∷ [])
trace-snoc config board [] moves [] line more answer script_state last =
    (more, [], ap (λ ms. ms ++ more) script_state ∙ sym (append-nil more), last, refl)
trace-snoc config board [] moves (one ∷ answers) line more answer script_state last = absurd script_state
trace-snoc config board (one ∷ lines) moves [] line more answer script_state last = absurd script_state
trace-snoc config board (one ∷ lines) moves (first ∷ answers) line more answer script_state last = (
  script_state.0,
  script_state.1 ++ more,
  ap (λ ms. ms ++ more) script_state.2 ∙ append_assoc script_state.0 script_state.1 more,
  script_state.3,
  trace-snoc config board lines script_state.1 answers line more answer script_state.4 last,
)

-- a trace has as many lines as replies
pub trace_length : (config : Configuration) (board : ℕ) (lines : List Line) (moves : List Transition) (answers : List LineReply)
    → IsTrace config board lines moves answers → length lines ≡ length answers
trace_length config board [] moves [] script_state = refl
trace_length config board [] moves (one ∷ answers) script_state = absurd script_state
trace_length config board (one ∷ lines) moves [] script_state = absurd script_state
trace_length config board (one ∷ lines) moves (first ∷ answers) script_state =
    ap suc (trace_length config board lines script_state.1 answers script_state.4)

-- the line after those that have ended is the first of the remaining lines
next_line : (finished left : List Line) → slice_get (finished ++ left) (length finished) ≡ slice_get left 0
next_line [] left = refl
next_line (one ∷ finished) left = next_line finished left

-- without a transition, the next line is before its first call
rests : (config : Configuration) (board : ℕ) (left : List Line) → IsNextLinePrefix config board left [] []
rests config board [] = (refl, refl)
rests config board (line ∷ left) = refl

-- the empty list of transitions leads to the state before the first line
pub follows_nothing : (config : Configuration) (board : ℕ) → IsTracePrefix config board [] (record { ended = []; replies = [] })
follows_nothing config board = record {
  finished = [];
  left = lines_at config board;
  lines = refl;
  done = [];
  rest = [];
  whole = refl;
  over = refl;
  work = rests config board (lines_at config board);
}

-- the next line of a script state is the first of the remaining lines
left_first : (config : Configuration) (board : ℕ) (moves : List Transition) (script_state : ScriptState) (f : IsTracePrefix config board moves script_state) (line : Line)
    (left : List Line) → slice_get (lines_at config board) (length script_state.ended) ≡ Some line → lines_at config board ≡ f.finished ++ left
    → slice_get left 0 ≡ Some line
left_first config board moves script_state f line left there lines =
    sym (next_line f.finished left)
    ∙ ap (slice_get (f.finished ++ left)) (trace_length config board f.finished f.done script_state.ended f.over)
    ∙ ap (λ (ls : List Line). slice_get ls (length script_state.ended)) (sym lines) ∙ there

-- a call of the next line with its reply extends the trace
pub follows_call : (config : Configuration) (board : ℕ) (moves : List Transition) (script_state : ScriptState) (line : Line) (m : Transition)
    → IsTracePrefix config board moves script_state → slice_get (lines_at config board) (length script_state.ended) ≡ Some line
    → line_next config board line script_state.replies ≡ Invokes (call_of m.event)
    → IsTracePrefix config board (moves ++ m ∷ []) (record { ended = script_state.ended; replies = m.reply ∷ script_state.replies })
follows_call config board moves script_state line m f there next = by_left f.left f.lines f.work
  where
    by_left : (left : List Line) → lines_at config board ≡ f.finished ++ left → IsNextLinePrefix config board left f.rest script_state.replies
        → IsTracePrefix config board (moves ++ m ∷ []) (record { ended = script_state.ended; replies = m.reply ∷ script_state.replies })
    by_left [] lines work = let none = left_first config board moves script_state f line [] there lines in absurd cc
    by_left (first ∷ left) lines work =
        let one = left_first config board moves script_state f line (first ∷ left) there lines in
        let same : line ≡ first = cc in
        record {
          finished = f.finished;
          left = first ∷ left;
          lines = lines;
          done = f.done;
          rest = f.rest ++ m ∷ [];
          whole = ap (λ ms. ms ++ m ∷ []) f.whole ∙ append_assoc f.done f.rest (m ∷ []);
          over = f.over;
          work = goes-snoc config board first [] f.rest script_state.replies m work
              (subst (λ (l : Line). line_next config board l script_state.replies ≡ Invokes (call_of m.event)) same next);
        }

-- the reply of the next line leads to the line after it
pub follows_answer : (config : Configuration) (board : ℕ) (moves : List Transition) (script_state : ScriptState) (line : Line) (answer : LineReply)
    → IsTracePrefix config board moves script_state → slice_get (lines_at config board) (length script_state.ended) ≡ Some line
    → line_next config board line script_state.replies ≡ Returns answer
    → IsTracePrefix config board moves (record { ended = script_state.ended ++ answer ∷ []; replies = [] })
follows_answer config board moves script_state line answer f there next = by_left f.left f.lines f.work
  where
    by_left : (left : List Line) → lines_at config board ≡ f.finished ++ left → IsNextLinePrefix config board left f.rest script_state.replies
        → IsTracePrefix config board moves (record { ended = script_state.ended ++ answer ∷ []; replies = [] })
    by_left [] lines work = let none = left_first config board moves script_state f line [] there lines in absurd cc
    by_left (first ∷ left) lines work =
        let one = left_first config board moves script_state f line (first ∷ left) there lines in
        let same : line ≡ first = cc in
        record {
          finished = f.finished ++ first ∷ [];
          left = left;
          lines = lines ∙ sym (append_assoc f.finished (first ∷ []) left);
          done = f.done ++ f.rest;
          rest = [];
          whole = f.whole ∙ sym (append-nil (f.done ++ f.rest));
          over = trace-snoc config board f.finished f.done script_state.ended first f.rest answer f.over
              (record {
                replies = script_state.replies;
                goes = work;
                ends = subst (λ (l : Line). line_next config board l script_state.replies ≡ Returns answer) same next;
              });
          work = rests config board left;
        }
