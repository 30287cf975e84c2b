-- Entries of their object's kind, as transitions, and in the object's part of a run.
use Rattle.std.proofs.Common.{◌≡◌, ◌≢◌, ℕ, suc, ◌<◌, List, [], ◌∷◌, length, All, refl, ap, arith, inl, inr, eq-eqb, ne_eqb}
use Rattle.std.proofs.lemmas.Bool.{cases_eq}
use Rattle.std.proofs.lemmas.List.Elements.{All-nil, All-cons, All-head, All-tail}
use Rattle.vme_core.specs.declared.event.EventReply.{EventReply}
use Rattle.vme_core.specs.declared.event.EventReply.TheVariants as replies
use Rattle.vme_core.specs.Runs.{Transition, IsReplyTo, board_part, bus_part}
use Rattle.vme_line_task.specs.Events.{IsEventBelow}
use Rattle.vme_port_array.specs.Parts.{part}
use Rattle.vme_bus_objects.specs.declared.command.BusCommand.{BusCommand}
use Rattle.vme_bus_objects.specs.declared.command.BusCommand.TheVariants as commands
use Rattle.vme_bus_objects.specs.Runs.{BusEntry, event_at, transition_of, run_of, MatchesKindAt, MatchesKind}

-- an event and its reply, of an entry of its object's kind
pub record IsKnownEvent (n index : ℕ) (cmd : BusCommand) (reply : EventReply) : Type 0 where
  pub fits : IsReplyTo (event_at index cmd) reply
  pub within : IsEventBelow n (event_at index cmd)

-- an entry of its object's kind is a known event
pub known_event : (n index : ℕ) (cmd : BusCommand) (reply : EventReply) → MatchesKindAt n index cmd reply
    → IsKnownEvent n index cmd reply
known_event n index (commands.Board cmd) (replies.Board reply) kinds = record { fits = tt; within = kinds }
known_event n index (commands.Board cmd) (replies.Bus reply) kinds = absurd kinds
known_event n index (commands.Arbiter cmd) (replies.Board reply) kinds = absurd kinds
known_event n index (commands.Arbiter cmd) (replies.Bus reply) kinds = record { fits = tt; within = tt }

-- a fact of each entry's transition is one of each transition
pub run_all : (Q : Transition → Type 0) (h : List BusEntry) → All (λ e. Q (transition_of e)) h → All Q (run_of h)
run_all Q [] all = All-nil Q
run_all Q (e ∷ h) all =
    let P = λ (e : BusEntry). Q (transition_of e) in
    All-cons Q (transition_of e) (run_of h) (All-head P e h all) (run_all Q h (All-tail P e h all))

-- an entry of its object's kind is in a board's part of a history as in that of its run
board_one : (n x index : ℕ) (cmd : BusCommand) (reply : EventReply) (who : ℕ) (h : List BusEntry) → x < n
    → MatchesKindAt n index cmd reply → length (part x h) ≡ length (board_part x (run_of h))
    → length (part x (record { who = who; cmd = record { index = index; cmd = cmd }; reply = reply } ∷ h))
    ≡ length (board_part x (run_of (record { who = who; cmd = record { index = index; cmd = cmd }; reply = reply } ∷ h)))
board_one n x index (commands.Board cmd) (replies.Board reply) who h below kinds rest = elim (cases_eq index x) [
  | inl same ↦ rw (eq-eqb index x same) (ap suc rest)
  | inr other ↦ rw (ne_eqb index x other) rest
]
board_one n x index (commands.Board cmd) (replies.Bus reply) who h below kinds rest = absurd kinds
board_one n x index (commands.Arbiter cmd) (replies.Board reply) who h below kinds rest = absurd kinds
board_one n x index (commands.Arbiter cmd) (replies.Bus reply) who h below kinds rest =
    let other : index ≢ x = λ same. omega (arith, kinds, same, below) in
    rw (ne_eqb index x other) rest

-- a history has as many entries of a board as its run
pub board_entries : (n x : ℕ) → x < n → (h : List BusEntry) → All (MatchesKind n) h
    → length (part x h) ≡ length (board_part x (run_of h))
board_entries n x below [] kinds = refl
board_entries n x below (e ∷ h) kinds =
    board_one n x e.cmd.index e.cmd.cmd e.reply e.who h below (All-head (MatchesKind n) e h kinds)
    (board_entries n x below h (All-tail (MatchesKind n) e h kinds))

-- an entry of its object's kind is in the arbiter's part of a history as in that of its run
arbiter_one : (n index : ℕ) (cmd : BusCommand) (reply : EventReply) (who : ℕ) (h : List BusEntry)
    → MatchesKindAt n index cmd reply → length (part n h) ≡ length (bus_part (run_of h))
    → length (part n (record { who = who; cmd = record { index = index; cmd = cmd }; reply = reply } ∷ h))
    ≡ length (bus_part (run_of (record { who = who; cmd = record { index = index; cmd = cmd }; reply = reply } ∷ h)))
arbiter_one n index (commands.Board cmd) (replies.Board reply) who h kinds rest =
    let other : index ≢ n = λ same. omega (arith, kinds, same) in
    rw (ne_eqb index n other) rest
arbiter_one n index (commands.Board cmd) (replies.Bus reply) who h kinds rest = absurd kinds
arbiter_one n index (commands.Arbiter cmd) (replies.Board reply) who h kinds rest = absurd kinds
arbiter_one n index (commands.Arbiter cmd) (replies.Bus reply) who h kinds rest = rw (eq-eqb index n kinds) (ap suc rest)

-- a history has as many entries of the arbiter as its run
pub arbiter_entries : (n : ℕ) (h : List BusEntry) → All (MatchesKind n) h → length (part n h) ≡ length (bus_part (run_of h))
arbiter_entries n [] kinds = refl
arbiter_entries n (e ∷ h) kinds =
    arbiter_one n e.cmd.index e.cmd.cmd e.reply e.who h (All-head (MatchesKind n) e h kinds)
    (arbiter_entries n h (All-tail (MatchesKind n) e h kinds))
