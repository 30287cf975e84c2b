-- The machine performs each run in which the part of each object is legal.
use Rattle.std.proofs.Common.{◌≡◌, ◌≢◌, ℕ, ◌<◌, List, [], ◌∷◌, length, Some, All, refl, ap, sym, subst, ◌∙◌, arith, inl, inr, eq-eqb, ne_eqb}
use Rattle.std.specs.Prelude.{slice_get, slice_set}
use Rattle.std.proofs.lemmas.Bool.{cases_eq}
use Rattle.std.proofs.lemmas.List.Elements.{All-head, All-tail}
use Rattle.std.proofs.lemmas.Option.{same_Some, slice_get_cases}
use Rattle.vme_object.specs.History.{IsLegal, entry}
use Rattle.vme_memory.specs.declared.command.BoardCmd.{BoardCmd}
use Rattle.vme_memory.specs.declared.reply.Reply.{Reply}
use Rattle.vme_memory.specs.Boards.{Board}
use Rattle.vme_memory.specs.Locals.{board_step, answer_given, command_given}
use Rattle.vme_arbiter.specs.Arbitration.{arbiter_step}
use Rattle.vme_core.specs.declared.event.Event.{Event}
use Rattle.vme_core.specs.declared.event.Event.TheVariants as events
use Rattle.vme_core.specs.declared.event.EventReply.{EventReply}
use Rattle.vme_core.specs.declared.event.EventReply.TheVariants as replies
use Rattle.vme_core.specs.CountedStates.{CountedState}
use Rattle.vme_core.specs.Runs.{Machine, Transition, IsRun, IsReplyTo, move, target_of, board_part, bus_part}
use Rattle.vme_core.specs.Calls.{call_of, counted_step, command_step, machine_step}
use Rattle.vme_core.specs.Machines.{IsThere}
use Rattle.vme_core.proofs.lemmas.Calls.{did_call}
use Rattle.vme_core.proofs.lemmas.RunSteps.{did_nil, did_trans}
use Rattle.vme_line_task.specs.Events.{IsEventBelow}
use Rattle.vme_run.specs.Orders.{Performs, performed}
use Rattle.vme_run.proofs.lemmas.Lists.{set_here, set_elsewhere}

-- the part of each object in a run is legal from the object's state
pub record Legal (machine : Machine) (run : List Transition) : Type 0 where
  pub boards : (x : ℕ) (b : CountedState Board) → slice_get machine.boards x ≡ Some b
      → IsLegal board_step b.object (board_part x run)
  pub bus : IsLegal arbiter_step machine.bus.object (bus_part run)

-- a transition at a board is the first of that board's part
board_first : (who x : ℕ) (cmd : BoardCmd) (reply : Reply) (run : List Transition)
    → board_part x (move who (events.Board x cmd) (replies.Board reply) ∷ run) ≡ entry who cmd reply ∷ board_part x run
board_first who x cmd reply run = rw (eq-eqb x x refl) refl

-- a transition at another board is not in the board's part
board_else : (who x y : ℕ) (cmd : BoardCmd) (reply : Reply) (run : List Transition) → x ≢ y
    → board_part y (move who (events.Board x cmd) (replies.Board reply) ∷ run) ≡ board_part y run
board_else who x y cmd reply run other = rw (ne_eqb x y other) refl

-- the first transition has the machine's reply, and the others are legal after it
pub record StepLegal (machine : Machine) (who : ℕ) (event : Event) (reply : EventReply) (run : List Transition) (after : Machine × EventReply) : Type 0 where
  pub reply_is : reply ≡ after.1
  pub legal : Legal after.0 run

-- the first transition of a run whose parts are legal has the machine's reply, and the others are legal after it
step_legal : (who : ℕ) (event : Event) (reply : EventReply) (run : List Transition) (machine : Machine) → IsReplyTo event reply
    → IsEventBelow (length machine.boards) event → Legal machine (move who event reply ∷ run)
    → StepLegal machine who event reply run (machine_step machine who (call_of event))
unfolding answer_given
step_legal who (events.Board x cmd) (replies.Board reply) run machine fit there legal = elim (slice_get_cases machine.boards x).1 [
  | inl at ↦
      let b : CountedState Board = at.0 in
      let first : IsLegal board_step b.object (entry who cmd reply ∷ board_part x run) =
      subst (IsLegal board_step b.object) (board_first who x cmd reply run) (legal.boards x b at.2) in
      let new : CountedState Board = (counted_step command_step b who (command_given cmd)).0 in
      rw at.2 (record {
        reply_is = ap replies.Board first.0;
        legal = record {
          boards = λ y one found. elim (cases_eq x y) [
            | inl same ↦
                let here : new ≡ one =
                same_Some new one (sym (set_here machine.boards x new at.1) ∙ ap (slice_get (slice_set machine.boards x new)) same ∙ found) in
                subst (λ (y : ℕ). IsLegal board_step one.object (board_part y run)) same
                (subst (λ (one : CountedState Board). IsLegal board_step one.object (board_part x run)) here first.1)
            | inr other ↦
                subst (IsLegal board_step one.object) (board_else who x y cmd reply run other)
                (legal.boards y one (sym (set_elsewhere machine.boards x y new other) ∙ found))
          ];
          bus = legal.bus;
        };
      })
  | inr past ↦ absurd (let less : x < length machine.boards = there in omega (arith, past.0))
]
step_legal who (events.Board x cmd) (replies.Bus reply) run machine fit there legal = absurd fit
step_legal who (events.Bus cmd) (replies.Board reply) run machine fit there legal = absurd fit
step_legal who (events.Bus cmd) (replies.Bus reply) run machine fit there legal = record {
  reply_is = ap replies.Bus legal.bus.0;
  legal = record { boards = legal.boards; bus = legal.bus.1 };
}

-- the object of an event below the number of boards exists
event_there : (machine : Machine) (event : Event) → IsEventBelow (length machine.boards) event → IsThere machine (target_of event)
event_there machine (events.Board x cmd) below = below
event_there machine (events.Bus cmd) below = tt

-- the machine performs a run, and each object goes through its own part
pub record IsPerformed (machine : Machine) (run : List Transition) : Type 0 where
  pub performs : Performs machine run (performed machine run)
  pub did : IsRun run machine (performed machine run)

-- a run whose parts are legal is performed
pub is_performed : (run : List Transition) (machine : Machine) (n : ℕ) → length machine.boards ≡ n
    → All (λ m. IsReplyTo m.event m.reply) run
    → All (λ m. IsEventBelow n m.event) run → Legal machine run → IsPerformed machine run
is_performed [] machine n count fitting within legal = record { performs = refl; did = did_nil machine }
is_performed (m ∷ run) machine n count fitting within legal =
    let next = machine_step machine m.who (call_of m.event) in
    let below : IsEventBelow (length machine.boards) m.event =
    subst (λ n. IsEventBelow n m.event) (sym count) (All-head (λ (m : Transition). IsEventBelow n m.event) m run within) in
    let one =
    step_legal m.who m.event m.reply run machine
    (All-head (λ (m : Transition). IsReplyTo m.event m.reply) m run fitting) below legal in
    let first : IsRun (m ∷ []) machine next.0 =
    subst (λ (r : EventReply). IsRun (move m.who m.event r ∷ []) machine next.0) (sym one.reply_is)
    (did_call machine m.who m.event (event_there machine m.event below)) in
    let then =
    is_performed run next.0 n (first.boards.count ∙ count)
    (All-tail (λ (m : Transition). IsReplyTo m.event m.reply) m run fitting)
    (All-tail (λ (m : Transition). IsEventBelow n m.event) m run within) one.legal in
    record {
      performs = (one.reply_is, then.performs);
      did = did_trans (m ∷ []) run machine next.0 (performed next.0 run) first then.did;
    }
