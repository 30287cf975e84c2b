-- A machine shows the objects of a port array: its boards, and the arbiter after them.
use Rattle.std.proofs.Common.{◌≡◌, ℕ, zero, suc, ◌+◌, ◌<◌, List, [], ◌∷◌, ◌++◌, length, map, Some, All, refl, ap, sym, subst, ◌∙◌, arith}
use Rattle.std.specs.Prelude.{slice_get, slice_set}
use Rattle.std.proofs.lemmas.List.{length-map, length-append}
use Rattle.std.proofs.lemmas.List.Elements.{All-weaker}
use Rattle.std.proofs.lemmas.Option.{same_Some}
use Rattle.vme_memory.specs.Boards.{Board}
use Rattle.vme_memory.specs.Locals.{answer_given, command_given}
use Rattle.vme_arbiter.specs.Arbitration.{Arbitration, arbiter_step}
use Rattle.vme_core.specs.declared.event.EventReply.{EventReply}
use Rattle.vme_core.specs.declared.event.EventReply.TheVariants as replies
use Rattle.vme_core.specs.CountedStates.{CountedState, fresh_count}
use Rattle.vme_core.specs.Runs.{Machine}
use Rattle.vme_core.specs.Calls.{counted_step, command_step, board_after}
use Rattle.vme_script.specs.declared.board.BoardConfig.{BoardConfig}
use Rattle.vme_script.specs.Configurations.{opening_memory}
use Rattle.vme_port_array.specs.Parts.{indexed}
use Rattle.vme_bus_objects.specs.declared.object.BusObject.{BusObject}
use Rattle.vme_bus_objects.specs.declared.object.BusObject.TheVariants as objects
use Rattle.vme_bus_objects.specs.declared.command.BusCommand.{BusCommand}
use Rattle.vme_bus_objects.specs.declared.command.BusCommand.TheVariants as commands
use Rattle.vme_bus_objects.specs.Objects.{bus_object_step}
use Rattle.vme_bus_objects.specs.Runs.{BusEntry, MatchesKindAt, MatchesKind}
use Rattle.vme_order.specs.ArrayOrders.{opened, IsShown}
use Rattle.vme_order_laws.specs.Processors.{machine_takes}
use Rattle.vme_order_laws.specs.MachineObjects.{board_object, arbiter_object, machine_objects, call_asked}

-- an object before the last is a board
pub found_board : (boards : List (CountedState Board)) (last : CountedState BusObject) (x : ℕ) (t : CountedState BusObject)
    → x < length boards → slice_get (map board_object boards ++ last ∷ []) x ≡ Some t
    → (b : CountedState Board) × (slice_get boards x ≡ Some b) × (board_object b ≡ t)
found_board [] last x t less found = absurd (omega arith)
found_board (b ∷ boards) last zero t less found = (b, refl, same_Some (board_object b) t found)
found_board (b ∷ boards) last (suc x) t less found = found_board boards last x t (omega arith) found

-- the object after all boards is the last
pub found_last : (boards : List (CountedState Board)) (last t : CountedState BusObject)
    → slice_get (map board_object boards ++ last ∷ []) (length boards) ≡ Some t → last ≡ t
found_last [] last t found = same_Some last t found
found_last (b ∷ boards) last t found = found_last boards last t found

-- a board that is written is written among the objects
written_board : (boards : List (CountedState Board)) (last : CountedState BusObject) (x : ℕ) (b : CountedState Board)
    → x < length boards
    → map board_object (slice_set boards x b) ++ last ∷ [] ≡ slice_set (map board_object boards ++ last ∷ []) x (board_object b)
written_board [] last x b less = absurd (omega arith)
written_board (c ∷ boards) last zero b less = refl
written_board (c ∷ boards) last (suc x) b less = ap (λ l. board_object c ∷ l) (written_board boards last x b (omega arith))

-- another last object is one that is written
written_last : (boards : List (CountedState Board)) (last new : CountedState BusObject)
    → map board_object boards ++ new ∷ [] ≡ slice_set (map board_object boards ++ last ∷ []) (length boards) new
written_last [] last new = refl
written_last (b ∷ boards) last new = ap (λ l. board_object b ∷ l) (written_last boards last new)

-- a machine has an object for each board and one more
pub objects_count : (machine : Machine) → length (machine_objects machine) ≡ length machine.boards + 1
objects_count machine =
    length-append (map board_object machine.boards) (arbiter_object machine.bus ∷ [])
    ∙ ap (λ n. n + 1) (length-map machine.boards board_object)

-- the machine takes a call of a board as its object does
board_shown : (n who x : ℕ) (cmd : BusCommand) (reply : EventReply) → MatchesKindAt n x cmd reply
    → IsShown bus_object_step machine_takes call_asked machine_objects (n + 1)
    (record { who = who; cmd = indexed x cmd; reply = reply })
unfolding answer_given
board_shown n who x (commands.Board cmd) (replies.Board reply) kinds machine t count found is =
    let less : x < length machine.boards = let a = objects_count machine in let below : x < n = kinds in omega
    (arith, a, count, below) in
    let at = found_board machine.boards (arbiter_object machine.bus) x t less found in
    let b : CountedState Board = at.0 in
    let new : CountedState Board = (counted_step command_step b who (command_given cmd)).0 in
    let next : Machine = record machine { boards = slice_set machine.boards x new } in
    let same : replies.Board reply ≡ (counted_step bus_object_step (board_object b) who (commands.Board cmd)).1 =
    subst (λ (t : CountedState BusObject). replies.Board reply ≡ (counted_step bus_object_step t who (commands.Board cmd)).1)
    (sym at.2) is in (
      next,
      ap (λ found. Some (board_after machine who x (command_given cmd) found)) at.1 ∙ (λ i. Some (next, sym same i)),
      written_board machine.boards (arbiter_object machine.bus) x new less
          ∙ ap (λ (t : CountedState BusObject). slice_set (machine_objects machine) x (counted_step bus_object_step t who
          (commands.Board cmd)).0) at.2,
    )
board_shown n who x (commands.Board cmd) (replies.Bus reply) kinds machine t count found is = absurd kinds
board_shown n who x (commands.Arbiter cmd) (replies.Board reply) kinds machine t count found is = absurd kinds
board_shown n who x (commands.Arbiter cmd) (replies.Bus reply) kinds machine t count found is =
    let here : x ≡ length machine.boards = let a = objects_count machine in let at : x ≡ n = kinds in omega
    (arith, a, count, at) in
    let last : CountedState BusObject = arbiter_object machine.bus in
    let at : last ≡ t =
    found_last machine.boards last t (subst (λ x. slice_get (machine_objects machine) x ≡ Some t) here found) in
    let new : CountedState Arbitration = (counted_step arbiter_step machine.bus who cmd).0 in
    let next : Machine = record machine { bus = new } in
    let same : replies.Bus reply ≡ (counted_step bus_object_step last who (commands.Arbiter cmd)).1 =
    subst (λ (t : CountedState BusObject). replies.Bus reply ≡ (counted_step bus_object_step t who (commands.Arbiter cmd)).1)
    (sym at) is in (
      next,
      (λ i. Some (next, sym same i)),
      written_last machine.boards last (arbiter_object new)
          ∙ ap (λ x. slice_set (machine_objects machine) x (arbiter_object new)) (sym here)
          ∙ ap (λ (t : CountedState BusObject). slice_set (machine_objects machine) x (counted_step bus_object_step t who
          (commands.Arbiter cmd)).0) at,
    )

-- the machine takes each call of a history of matching kinds as its object does
pub machine_shows : (n : ℕ) (h : List BusEntry) → All (MatchesKind n) h
    → All (IsShown bus_object_step machine_takes call_asked machine_objects (n + 1)) h
machine_shows n h kinds =
    All-weaker (MatchesKind n) (IsShown bus_object_step machine_takes call_asked machine_objects (n + 1))
    (λ e is. board_shown n e.who e.cmd.index e.cmd.cmd e.reply is) h kinds

-- the objects before the first step are those of the machine that the array opens with
pub machine_opens : (k : ℕ) (boards : List BoardConfig) (bus : Arbitration)
    → map board_object (map (fresh_count k) (map opening_memory boards)) ++ arbiter_object (fresh_count k bus) ∷ []
    ≡ opened k (map (λ own. objects.Board (opening_memory own)) boards ++ objects.Arbiter bus ∷ [])
machine_opens k [] bus = refl
machine_opens k (own ∷ boards) bus =
    ap (λ l. fresh_count k (objects.Board (opening_memory own)) ∷ l) (machine_opens k boards bus)
