-- A history of boards and their arbiter is a run: the part of each object and of each processor in the history is its
-- part of the run.
use Rattle.std.proofs.Common.{◌≡◌, ◌≢◌, ℕ, suc, ◌<◌, List, [], ◌∷◌, length, All, refl, ap, sym, subst, ◌∙◌, arith, inl, inr, eq-eqb, ne_eqb}
use Rattle.std.proofs.lemmas.Bool.{cases_eq}
use Rattle.std.proofs.lemmas.List.Elements.{All-head, All-tail}
use Rattle.vme_object.specs.History.{replay, IsLegal, own, entry}
use Rattle.vme_memory.specs.declared.command.BoardCmd.{BoardCmd}
use Rattle.vme_memory.specs.declared.reply.Reply.{Reply}
use Rattle.vme_memory.specs.Boards.{Board}
use Rattle.vme_memory.specs.Locals.{board_step}
use Rattle.vme_arbiter.specs.declared.command.ArbCmd.{ArbCmd}
use Rattle.vme_arbiter.specs.declared.command.ArbReply.{ArbReply}
use Rattle.vme_arbiter.specs.Arbitration.{Arbitration, arbiter_step}
use Rattle.vme_core.specs.declared.event.EventReply.{EventReply}
use Rattle.vme_core.specs.declared.event.EventReply.TheVariants as replies
use Rattle.vme_core.specs.Runs.{board_part, bus_part}
use Rattle.vme_port_array.specs.Parts.{indexed, part}
use Rattle.vme_port_array.proofs.lemmas.Parts.{part_first}
use Rattle.vme_bus_objects.specs.declared.object.BusObject.TheVariants as objects
use Rattle.vme_bus_objects.specs.declared.command.BusCommand.{BusCommand}
use Rattle.vme_bus_objects.specs.declared.command.BusCommand.TheVariants as commands
use Rattle.vme_bus_objects.specs.Objects.{bus_object_step}
use Rattle.vme_bus_objects.specs.Runs.{BusEntry, transition_of, run_of, transitions_of, MatchesKindAt, MatchesKind, IsBoardHistory, IsArbiterHistory}

-- an entry of another object is not in the part of the object
part_of_other : (who x y : ℕ) (cmd : BusCommand) (reply : EventReply) (h : List BusEntry) → y ≢ x
    → part x (entry who (indexed y cmd) reply ∷ h) ≡ part x h
part_of_other who x y cmd reply h other = rw (ne_eqb y x other) refl

-- an entry of a board is the first of that board's part of the run
board_part_first : (who x : ℕ) (cmd : BoardCmd) (reply : Reply) (h : List BusEntry)
    → board_part x (run_of (entry who (indexed x (commands.Board cmd)) (replies.Board reply) ∷ h))
    ≡ entry who cmd reply ∷ board_part x (run_of h)
board_part_first who x cmd reply h = rw (eq-eqb x x refl) refl

-- an entry of another board is not in the board's part of the run
board_part_other : (who x y : ℕ) (cmd : BoardCmd) (reply : Reply) (h : List BusEntry) → y ≢ x
    → board_part x (run_of (entry who (indexed y (commands.Board cmd)) (replies.Board reply) ∷ h)) ≡ board_part x (run_of h)
board_part_other who x y cmd reply h other = rw (ne_eqb y x other) refl

-- two histories agree on a board if they have the same part of it, and so do their runs
same_board : (x : ℕ) (memory : Board) (h h' : List BusEntry) → part x h' ≡ part x h
    → board_part x (run_of h') ≡ board_part x (run_of h)
    → IsBoardHistory x memory h → IsBoardHistory x memory h'
same_board x memory h h' part_is run_is linked = record {
  legal = subst (IsLegal board_step memory) (sym run_is) linked.legal;
  object =
      ap (replay bus_object_step (objects.Board memory)) part_is ∙ linked.object
      ∙ ap (λ l. objects.Board (replay board_step memory l)) (sym run_is);
  count = ap length part_is ∙ linked.count ∙ ap length (sym run_is);
}

-- the part of a board is its part of the run with one more command of the board before them
next_board : (who x : ℕ) (cmd : BoardCmd) (reply : Reply) (memory : Board) (h : List BusEntry)
    → replies.Board reply ≡ replies.Board (board_step memory cmd).1
    → IsBoardHistory x (board_step memory cmd).0 h
    → IsBoardHistory x memory (entry who (indexed x (commands.Board cmd)) (replies.Board reply) ∷ h)
next_board who x cmd reply memory h answer linked =
    let part_is = part_first (entry who (indexed x (commands.Board cmd)) (replies.Board reply)) h in
    let run_is = board_part_first who x cmd reply h in
    let same : reply ≡ (board_step memory cmd).1 = cc answer in record {
      legal = subst (IsLegal board_step memory) (sym run_is) (same, linked.legal);
      object =
          ap (replay bus_object_step (objects.Board memory)) part_is ∙ linked.object
          ∙ ap (λ l. objects.Board (replay board_step memory l)) (sym run_is);
      count = ap length part_is ∙ ap suc linked.count ∙ ap length (sym run_is);
    }

-- in a history of matching kinds, the legal part of a board is its part of the run
pub board_history : (n x : ℕ) (memory : Board) (h : List BusEntry) → x < n → All (MatchesKind n) h
    → IsLegal bus_object_step (objects.Board memory) (part x h) → IsBoardHistory x memory h
board_history n x memory [] below kinds legal = record { legal = tt; object = refl; count = refl }
board_history n x memory (e ∷ h) below kinds legal =
    by_entry (λ m. board_history n x m h below (All-tail (MatchesKind n) e h kinds)) e.who e.cmd.index e.cmd.cmd e.reply
    (All-head (MatchesKind n) e h kinds) legal
  where
    by_entry : ((m : Board) → IsLegal bus_object_step (objects.Board m) (part x h) → IsBoardHistory x m h)
        → (who index : ℕ) (cmd : BusCommand) (reply : EventReply)
        → MatchesKindAt n index cmd reply
        → IsLegal bus_object_step (objects.Board memory) (part x (entry who (indexed index cmd) reply ∷ h))
        → IsBoardHistory x memory (entry who (indexed index cmd) reply ∷ h)
    by_entry again who index (commands.Board cmd) (replies.Board reply) kinds legal = elim (cases_eq x index) [
      | inl same ↦
          subst (λ (index : ℕ). IsLegal bus_object_step (objects.Board memory)
          (part x (entry who (indexed index (commands.Board cmd)) (replies.Board reply) ∷ h))
          → IsBoardHistory x memory (entry who (indexed index (commands.Board cmd)) (replies.Board reply) ∷ h)) same
          (λ legal.
          let first : IsLegal bus_object_step (objects.Board memory)
          (entry who (commands.Board cmd) (replies.Board reply) ∷ part x h) =
          subst (IsLegal bus_object_step (objects.Board memory))
          (part_first (entry who (indexed x (commands.Board cmd)) (replies.Board reply)) h) legal in
          next_board who x cmd reply memory h first.0 (again (board_step memory cmd).0 first.1))
          legal
      | inr other ↦
          let off : index ≢ x = λ same. other (sym same) in
          let part_is = part_of_other who x index (commands.Board cmd) (replies.Board reply) h off in
          same_board x memory h (entry who (indexed index (commands.Board cmd)) (replies.Board reply) ∷ h) part_is
          (board_part_other who x index cmd reply h off)
          (again memory (subst (IsLegal bus_object_step (objects.Board memory)) part_is legal))
    ]
    by_entry again who index (commands.Board cmd) (replies.Bus reply) kinds legal = absurd kinds
    by_entry again who index (commands.Arbiter cmd) (replies.Board reply) kinds legal = absurd kinds
    by_entry again who index (commands.Arbiter cmd) (replies.Bus reply) kinds legal =
        let off : index ≢ x = λ same. omega (arith, kinds, same, below) in
        let part_is = part_of_other who x index (commands.Arbiter cmd) (replies.Bus reply) h off in
        same_board x memory h (entry who (indexed index (commands.Arbiter cmd)) (replies.Bus reply) ∷ h) part_is refl
        (again memory (subst (IsLegal bus_object_step (objects.Board memory)) part_is legal))

-- two histories agree on the arbiter if they have the same part of it, and so do their runs
same_arbiter : (n : ℕ) (bus : Arbitration) (h h' : List BusEntry) → part n h' ≡ part n h
    → bus_part (run_of h') ≡ bus_part (run_of h)
    → IsArbiterHistory n bus h → IsArbiterHistory n bus h'
same_arbiter n bus h h' part_is run_is linked = record {
  legal = subst (IsLegal arbiter_step bus) (sym run_is) linked.legal;
  object =
      ap (replay bus_object_step (objects.Arbiter bus)) part_is ∙ linked.object
      ∙ ap (λ l. objects.Arbiter (replay arbiter_step bus l)) (sym run_is);
  count = ap length part_is ∙ linked.count ∙ ap length (sym run_is);
}

-- the part of the arbiter is its part of the run with one more command of the arbiter before them
next_arbiter : (who n : ℕ) (cmd : ArbCmd) (reply : ArbReply) (bus : Arbitration) (h : List BusEntry)
    → replies.Bus reply ≡ replies.Bus (arbiter_step bus cmd).1
    → IsArbiterHistory n (arbiter_step bus cmd).0 h
    → IsArbiterHistory n bus (entry who (indexed n (commands.Arbiter cmd)) (replies.Bus reply) ∷ h)
next_arbiter who n cmd reply bus h answer linked =
    let part_is = part_first (entry who (indexed n (commands.Arbiter cmd)) (replies.Bus reply)) h in
    let same : reply ≡ (arbiter_step bus cmd).1 = cc answer in record {
      legal = (same, linked.legal);
      object = ap (replay bus_object_step (objects.Arbiter bus)) part_is ∙ linked.object;
      count = ap length part_is ∙ ap suc linked.count;
    }

-- in a history of matching kinds, the legal part of the arbiter is its part of the run
pub arbiter_history : (n : ℕ) (bus : Arbitration) (h : List BusEntry) → All (MatchesKind n) h
    → IsLegal bus_object_step (objects.Arbiter bus) (part n h) → IsArbiterHistory n bus h
arbiter_history n bus [] kinds legal = record { legal = tt; object = refl; count = refl }
arbiter_history n bus (e ∷ h) kinds legal =
    by_entry (λ b. arbiter_history n b h (All-tail (MatchesKind n) e h kinds)) e.who e.cmd.index e.cmd.cmd e.reply
    (All-head (MatchesKind n) e h kinds) legal
  where
    by_entry : ((b : Arbitration) → IsLegal bus_object_step (objects.Arbiter b) (part n h) → IsArbiterHistory n b h)
        → (who index : ℕ) (cmd : BusCommand) (reply : EventReply)
        → MatchesKindAt n index cmd reply
        → IsLegal bus_object_step (objects.Arbiter bus) (part n (entry who (indexed index cmd) reply ∷ h))
        → IsArbiterHistory n bus (entry who (indexed index cmd) reply ∷ h)
    by_entry again who index (commands.Board cmd) (replies.Board reply) kinds legal =
        let off : index ≢ n = λ same. omega (arith, kinds, same) in
        let part_is = part_of_other who n index (commands.Board cmd) (replies.Board reply) h off in
        same_arbiter n bus h (entry who (indexed index (commands.Board cmd)) (replies.Board reply) ∷ h) part_is refl
        (again bus (subst (IsLegal bus_object_step (objects.Arbiter bus)) part_is legal))
    by_entry again who index (commands.Board cmd) (replies.Bus reply) kinds legal = absurd kinds
    by_entry again who index (commands.Arbiter cmd) (replies.Board reply) kinds legal = absurd kinds
    by_entry again who index (commands.Arbiter cmd) (replies.Bus reply) kinds legal =
        subst (λ (index : ℕ). IsLegal bus_object_step (objects.Arbiter bus)
        (part n (entry who (indexed index (commands.Arbiter cmd)) (replies.Bus reply) ∷ h))
        → IsArbiterHistory n bus (entry who (indexed index (commands.Arbiter cmd)) (replies.Bus reply) ∷ h)) (sym kinds)
        (λ legal.
        let first : IsLegal bus_object_step (objects.Arbiter bus)
        (entry who (commands.Arbiter cmd) (replies.Bus reply) ∷ part n h) =
        subst (IsLegal bus_object_step (objects.Arbiter bus))
        (part_first (entry who (indexed n (commands.Arbiter cmd)) (replies.Bus reply)) h) legal in
        next_arbiter who n cmd reply bus h first.0 (again (arbiter_step bus cmd).0 first.1))
        legal

-- the transitions of a processor in the run of a history are the run of its own entries
pub transitions_of_run : (who : ℕ) (h : List BusEntry) → transitions_of who (run_of h) ≡ run_of (own who h)
transitions_of_run who [] = refl
transitions_of_run who (e ∷ h) = elim (cases_eq e.who who) [
  | inl same ↦
      let rest = transitions_of_run who h in
      rw (eq-eqb e.who who same) (ap (λ l. transition_of e ∷ l) rest)
  | inr other ↦
      let rest = transitions_of_run who h in
      rw (ne_eqb e.who who other) rest
]
