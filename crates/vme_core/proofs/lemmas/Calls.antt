-- A call of the machine is a run of one transition.
use Rattle.std.proofs.Common.{◌≡◌, ℕ, ◌+◌, ◌<◌, true, false, List, [], ◌∷◌, length, slice_index_or, set, Some, refl, ap, sym, subst, ◌∙◌, eqb, arith, inl, inr}
use Rattle.std.specs.Prelude.{slice_get}
use Rattle.std.proofs.lemmas.Bool.{cases_eq, eq-eqb, ne_eqb}
use Rattle.std.proofs.lemmas.List.{length-set, get_or-set_same, get_or-set_other}
use Rattle.std.proofs.lemmas.List.Elements.{All-nil, All-cons}
use Rattle.std.proofs.lemmas.Option.{same_Some, slice_get-get_or, slice_get_within, slice_get_cases, slice_get_read}
use Rattle.vme_object.specs.History.{entry}
use Rattle.vme_object.proofs.lemmas.Eachs.{AllAt-same, AllAt-set}
use Rattle.vme_memory.specs.declared.command.BoardCmd.{BoardCmd}
use Rattle.vme_memory.specs.Boards.{Board}
use Rattle.vme_memory.specs.Locals.{command_given, answer_given, board_step}
use Rattle.vme_arbiter.specs.declared.command.ArbCmd.{ArbCmd}
use Rattle.vme_arbiter.specs.Arbitration.{arbiter_step}
use Rattle.vme_core.specs.declared.event.Event.{Event}
use Rattle.vme_core.specs.declared.event.Event.TheVariants as events
use Rattle.vme_core.specs.declared.event.EventReply.TheVariants as replies
use Rattle.vme_memory.specs.declared.reply.Reply.{Reply}
use Rattle.vme_core.specs.CountedStates.{CountedState, IsObjectRun}
use Rattle.vme_core.specs.Runs.{Machine, Transition, IsRun, IsReplyTo, move, target_of, board_part}
use Rattle.vme_core.specs.Calls.{call_of, counted_step, board_after, bus_after, machine_step}
use Rattle.vme_core.specs.Machines.{IsThere}
use Rattle.vme_core.proofs.lemmas.CountedStates.{went_nil}

-- a counted command is a history of one entry
pub counted_went : {S C R : Type 0} (step : S → C → S × R) (t : CountedState S) (who : ℕ) (cmd : C)
    → IsObjectRun step (entry who cmd (step t.object cmd).1 ∷ []) t (counted_step step t who cmd).0
counted_went step t who cmd = record {
  legal = (refl, tt);
  object = refl;
  steps = refl;
  process_count = length-set t.made who (slice_index_or t.made who 0 + 1);
  made = λ w w<. elim (cases_eq who w) [
    | inl same ↦
        let own_one : eqb who w ≡ true = eq-eqb who w same in
        rw (own_one, same) (get_or-set_same t.made w (slice_index_or t.made w 0 + 1) 0 w<)
    | inr other ↦
        let none : eqb who w ≡ false = ne_eqb who w other in
        rw none (get_or-set_other t.made who w (slice_index_or t.made who 0 + 1) 0 (λ at. other (sym at)) ∙ omega arith)
  ];
}

-- a command to a board that exists is a run of one transition
did_board : (m : Machine) (who x : ℕ) (cmd : BoardCmd) (b : CountedState Board) → slice_get m.boards x ≡ Some b
    → IsRun (move who (events.Board x cmd) (board_after m who x (command_given cmd) (Some b)).1 ∷ []) m
    (board_after m who x (command_given cmd) (Some b)).0
unfolding answer_given
did_board m who x cmd b there =
    let run : List Transition = move who (events.Board x cmd) (board_after m who x (command_given cmd) (Some b)).1 ∷ [] in
    let within = slice_get_within m.boards x b there in
    let at : slice_index_or m.boards x b ≡ b = same_Some _ _ (sym (slice_get-get_or m.boards x b within) ∙ there) in
    let one : eqb x x ≡ true = eq-eqb x x refl in
    record {
      fitting = All-cons (λ m. IsReplyTo m.event m.reply) _ [] tt (All-nil (λ m. IsReplyTo m.event m.reply));
      boards = AllAt-set (λ k p q. IsObjectRun board_step (board_part k run) p q) m.boards x b _ within
          (rw at (rw one (counted_went board_step b who cmd)))
          (λ k p off. let none : eqb x k ≡ false = ne_eqb x k (λ same. off (sym same)) in rw none (went_nil board_step p));
      bus = went_nil arbiter_step m.bus;
    }

-- a command to the arbiter is a run of one transition
did_bus : (m : Machine) (who : ℕ) (cmd : ArbCmd)
    → IsRun (move who (events.Bus cmd) (bus_after m who cmd).1 ∷ []) m (bus_after m who cmd).0
did_bus m who cmd = record {
  fitting = All-cons (λ m. IsReplyTo m.event m.reply) _ [] tt (All-nil (λ m. IsReplyTo m.event m.reply));
  boards = AllAt-same (λ x b a. IsObjectRun board_step [] b a) m.boards (λ x b. went_nil board_step b);
  bus = counted_went arbiter_step m.bus who cmd;
}

-- a call of an event is a run of one transition
pub did_call : (m : Machine) (who : ℕ) (event : Event) → IsThere m (target_of event)
    → IsRun (move who event (machine_step m who (call_of event)).1 ∷ []) m (machine_step m who (call_of event)).0
did_call m who (events.Board x cmd) there =
    elim (slice_get_cases m.boards x).1 [
      | inl at ↦ rw at.2 (did_board m who x cmd at.0 at.2)
      | inr past ↦ absurd (omega (arith, past.0))
    ]
did_call m who (events.Bus cmd) there = did_bus m who cmd

-- the machine in which a board is replaced by its next state is the machine after the call of the event
pub board_applied : (m self : Machine) (event : Event) (who x : ℕ) (cmd : BoardCmd) (b new : CountedState Board) (reply : Reply) → m ≡ self
    → event ≡ events.Board x cmd → IsThere self (target_of event) → b ≡ slice_index_or m.boards x b
    → (new, reply) ≡ counted_step board_step b who cmd
    → (record { boards = set m.boards x new; bus = m.bus }, replies.Board reply) ≡ machine_step self who (call_of event)
unfolding answer_given
board_applied m self event who x cmd b new reply same is there at did =
    let within : x < length m.boards =
    subst (λ (e : Event). IsThere m (target_of e)) is (subst (λ (n : Machine). IsThere n (target_of event)) (sym same) there) in
    let found : slice_get m.boards x ≡ Some b = slice_get_read m.boards (length m.boards) x b refl within at in
    rw (← same, is, found) (ap (λ (r : CountedState Board × Reply). (record m { boards = set m.boards x r.0 }, replies.Board r.1)) did)
