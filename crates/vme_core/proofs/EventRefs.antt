-- A command to a board that exists is a call of the machine.
use Rattle.std.proofs.Common.{◌≡◌, ℕ, ◌<◌, length, set, slice_index_or, Option, Some, refl, ap, sym, subst}
use Rattle.std.specs.Prelude.{slice_get}
use Rattle.std.proofs.lemmas.Option.{slice_get_read}
use Rattle.vme_memory.specs.declared.reply.Reply.{Reply}
use Rattle.vme_memory.specs.Steps.{Command}
use Rattle.vme_memory.specs.Boards.{Board}
use Rattle.vme_core.specs.declared.event.EventReply.TheVariants as replies
use Rattle.vme_core.specs.declared.event.Target.TheVariants as at
use Rattle.vme_core.specs.CountedStates.{CountedState}
use Rattle.vme_core.specs.Runs.{Machine}
use Rattle.vme_core.specs.Calls.{OnBoard, command_step, counted_step, machine_step}
use Rattle.vme_core.specs.Machines.{IsThere}

-- the machine in which the board is replaced by its next state is the machine after the call
pub board_made :
    (m self : Machine) (who x : ℕ) (command : Option Command) (b new : CountedState Board) (reply : Reply) → m ≡ self → IsThere self (at.Board x)
    → b ≡ slice_index_or m.boards x b → (new, reply) ≡ counted_step command_step b who command
    → (record { boards = set m.boards x new; bus = m.bus }, replies.Board reply) ≡ machine_step self who (OnBoard x command)
board_made m self who x command b new reply same there read did =
    let within : x < length m.boards = subst (λ (n : Machine). IsThere n (at.Board x)) (sym same) there in
    let here : slice_get m.boards x ≡ Some b = slice_get_read m.boards (length m.boards) x b refl within read in
    rw (← same, here) (ap (λ (r : CountedState Board × Reply). (record m { boards = set m.boards x r.0 }, replies.Board r.1)) did)
