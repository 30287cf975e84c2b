-- The effect of a call on the arbiter's state, and that its reply fits the call and is no denial.
use Rattle.std.proofs.Common.{◌≡◌, ◌≢◌, ℕ, true, false, Bool, Option, Some, None, refl, sym, ◌∙◌}
use Rattle.std.specs.Prelude.{slice_get}
use Rattle.std.specs.Prelude.{◌&&◌}
use Rattle.std.proofs.lemmas.Bool.{eqb-true}
use Rattle.vme_memory.specs.declared.reply.Reply.{Reply}
use Rattle.vme_memory.specs.declared.reply.Reply.TheVariants.{Berr}
use Rattle.vme_memory.specs.Boards.{Board}
use Rattle.vme_memory.specs.Steps.{Command}
use Rattle.vme_arbiter.specs.declared.command.ArbCmd.{ArbCmd}
use Rattle.vme_arbiter.specs.declared.command.ArbCmd.TheVariants as arb_commands
use Rattle.vme_arbiter.specs.declared.command.ArbReply.{ArbReply}
use Rattle.vme_arbiter.specs.declared.command.ArbReply.TheVariants as arb_replies
use Rattle.vme_arbiter.specs.Requests.{is_slot}
use Rattle.vme_arbiter.specs.Arbitration.{Arbitration, arbiter_step}
use Rattle.vme_arbiter.specs.Orderly.{IsOrderly}
use Rattle.vme_arbiter.specs.Masters.{slot_of, may_give, MatchesReply}
use Rattle.vme_arbiter.proofs.lemmas.Turns.{own-reply}
use Rattle.vme_arbiter.proofs.lemmas.Orderly.{orderly-step}
use Rattle.vme_core.specs.declared.event.EventReply.{EventReply}
use Rattle.vme_core.specs.declared.event.EventReply.TheVariants as replies
use Rattle.vme_core.specs.CountedStates.{CountedState}
use Rattle.vme_core.specs.Runs.{Machine}
use Rattle.vme_core.specs.Calls.{Call, OnBoard, OnBus, command_step, board_after, machine_step}
use Rattle.vme_master.proofs.lemmas.Locals.{board_fits, arbiter_fits}
use Rattle.vme_line_task.specs.Tenures.{IsUndeniedReply}

-- a call on a board leaves the arbiter unchanged, and its reply is one of a board and fits the call
pub record BoardCalled (machine : Machine) (who x : ℕ) (command : Option Command) (after : Machine × EventReply) : Type 0 where
  pub bus : after.0.bus ≡ machine.bus
  pub reply : Reply
  pub replied : after.1 ≡ replies.Board reply
  pub good : IsUndeniedReply (OnBoard x command) (replies.Board reply)

-- a call on a board leaves the arbiter unchanged, whether a board is at that place or not
by_found : (machine : Machine) (who x : ℕ) (command : Option Command) (found : Option (CountedState Board))
    → BoardCalled machine who x command (board_after machine who x command found)
by_found machine who x command None =
    record { bus = refl; reply = Berr; replied = refl; good = record { fit = refl; granted = λ same. absurd cc } }
by_found machine who x command (Some board) = record {
  bus = refl;
  reply = (command_step board.object command).1;
  replied = refl;
  good = record { fit = board_fits board.object x command; granted = λ same. absurd cc };
}

-- each call on a board leaves the arbiter unchanged
pub board_called : (machine : Machine) (who x : ℕ) (command : Option Command)
    → BoardCalled machine who x command (machine_step machine who (OnBoard x command))
board_called machine who x command = by_found machine who x command (slice_get machine.boards x)

-- a slot's command to the arbiter is not denied, leads to an orderly state, and names the slot, whose state agrees with
-- the new reply
pub record BusCalled (bus : Arbitration) (slot : ℕ) (cmd : ArbCmd) : Type 0 where
  pub orderly : IsOrderly (arbiter_step bus cmd).0
  pub own : slot_of cmd ≡ slot
  pub stands : MatchesReply (arbiter_step bus cmd).0 slot (Some (arbiter_step bus cmd).1)
  pub good : IsUndeniedReply (OnBus cmd) (replies.Bus (arbiter_step bus cmd).1)

-- a reply that agrees with a slot's state is no denial
never_denied : (bus : Arbitration) (slot : ℕ) (reply : ArbReply) → MatchesReply bus slot (Some reply)
    → replies.Bus reply ≢ replies.Bus arb_replies.Denied
never_denied bus slot arb_replies.Denied stands = λ same. stands
never_denied bus slot arb_replies.Granted stands = λ same. absurd cc
never_denied bus slot arb_replies.Waiting stands = λ same. absurd cc
never_denied bus slot arb_replies.Freed stands = λ same. absurd cc

-- a true conjunction has a true first part
and_left : (a b : Bool) → (a && b) ≡ true → a ≡ true
and_left true b both = refl
and_left false b both = absurd cc

-- a command that a slot may give names the slot
pub own_slot : (slot : ℕ) (last : Option ArbReply) (cmd : ArbCmd) → may_give slot last cmd ≡ true → slot_of cmd ≡ slot
own_slot slot None (arb_commands.Ask s level) may = eqb-true s slot (and_left _ _ may)
own_slot slot (Some arb_replies.Freed) (arb_commands.Ask s level) may = eqb-true s slot (and_left _ _ may)
own_slot slot (Some arb_replies.Waiting) (arb_commands.Look s) may = eqb-true s slot may
own_slot slot (Some arb_replies.Granted) (arb_commands.Done s) may = eqb-true s slot may
own_slot slot last cmd may = absurd cc

-- each command that a slot may give after its last reply is not denied
pub bus_called : (bus : Arbitration) (slot : ℕ) (last : Option ArbReply) (cmd : ArbCmd) → IsOrderly bus → is_slot slot ≡ true
    → MatchesReply bus slot last → may_give slot last cmd ≡ true → BusCalled bus slot cmd
bus_called bus slot last cmd orderly lawful stands may =
    let now = own-reply bus slot last cmd orderly lawful stands may in
    record {
      orderly = orderly-step bus cmd orderly;
      own = own_slot slot last cmd may;
      stands = now;
      good = record { fit = arbiter_fits bus cmd; granted = never_denied (arbiter_step bus cmd).0 slot (arbiter_step bus cmd).1 now };
    }

-- the reply to a call is not a denial
pub call_granted : (machine : Machine) (who slot : ℕ) (last : Option ArbReply) (call : Call) → IsOrderly machine.bus.object
    → is_slot slot ≡ true → MatchesReply machine.bus.object slot last
    → ((cmd : ArbCmd) → call ≡ OnBus cmd → may_give slot last cmd ≡ true)
    → (machine_step machine who call).1 ≢ replies.Bus arb_replies.Denied
call_granted machine who slot last (OnBoard x command) orderly lawful stands may =
    let called = board_called machine who x command in
    let board : replies.Board called.reply ≢ replies.Bus arb_replies.Denied = λ same. absurd cc in
    λ same. board (sym called.replied ∙ same)
call_granted machine who slot last (OnBus cmd) orderly lawful stands may =
    (bus_called machine.bus.object slot last cmd orderly lawful stands (may cmd refl)).good.granted
