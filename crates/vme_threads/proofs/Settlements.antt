-- The one history of a settled port array of boards and their arbiter is a run.
use Rattle.std.proofs.Common.{◌≡◌, ℕ, zero, suc, ◌<◌, List, [], ◌∷◌, ◌++◌, length, map, Some, All, refl, ap, ◌∙◌}
use Rattle.std.specs.Prelude.{slice_get}
use Rattle.std.proofs.lemmas.List.Elements.{All-nil, All-cons, All-head, All-tail, All-weaker}
use Rattle.std.proofs.lemmas.Option.{same_Some, slice_get_within}
use mathlib.Core.Option.{some}
use lib.ListN.{get_elem?}
use Rattle.vme_object.specs.History.{own}
use Rattle.vme_port.proofs.lemmas.SharedHistory.{IsShared, all_made}
use Rattle.vme_arbiter.specs.Arbitration.{opening_bus}
use Rattle.vme_core.specs.declared.event.EventReply.{EventReply}
use Rattle.vme_core.specs.declared.event.EventReply.TheVariants as replies
use Rattle.vme_core.specs.Runs.{Transition, IsReplyTo}
use Rattle.vme_script.specs.declared.board.BoardConfig.{BoardConfig}
use Rattle.vme_script.specs.Configurations.{Configuration, opening_memory}
use Rattle.vme_line_task.specs.Events.{IsEventBelow}
use Rattle.vme_port.specs.declared.home.Home.{Home}
use Rattle.vme_bus_objects.specs.declared.object.BusObject.{BusObject}
use Rattle.vme_bus_objects.specs.declared.object.BusObject.TheVariants as objects
use Rattle.vme_bus_objects.specs.declared.command.BusCommand.{BusCommand}
use Rattle.vme_bus_objects.specs.declared.command.BusCommand.TheVariants as commands
use Rattle.vme_bus_objects.specs.Runs.{BusEntry, event_at, transition_of, run_of, transitions_of, MatchesKindAt, MatchesKind}
use Rattle.vme_bus_objects.proofs.lemmas.Histories.{board_history, arbiter_history, transitions_of_run}
use Rattle.vme_threads.specs.Settlements.{BusPass, IsSettled, IsRunOfArray}

-- opening object x is the zero memory of board x
pub board_at : (config : Configuration) (boards : List BoardConfig) (x : ℕ) (own : BoardConfig) → slice_get boards x ≡ Some own
    → get_elem? (map (λ own. objects.Board (opening_memory own)) boards ++ objects.Arbiter (opening_bus config.arbiter) ∷ []) x
    ≡ some (objects.Board (opening_memory own))
board_at config [] x own found = absurd (cc found)
board_at config (b ∷ boards) zero own found =
    ap (λ (b : BoardConfig). some (objects.Board (opening_memory b))) (same_Some b own found)
board_at config (b ∷ boards) (suc x) own found = board_at config boards x own found

-- the opening object after all boards is the arbiter
pub bus_at : (config : Configuration) (boards : List BoardConfig)
    → get_elem? (map (λ own. objects.Board (opening_memory own)) boards ++ objects.Arbiter (opening_bus config.arbiter) ∷ [])
    (length boards) ≡ some (objects.Arbiter (opening_bus config.arbiter))
bus_at config [] = refl
bus_at config (b ∷ boards) = bus_at config boards

-- a reply of the object's kind matches the event
kind_fits : (n index : ℕ) (cmd : BusCommand) (reply : EventReply) → MatchesKindAt n index cmd reply
    → IsReplyTo (event_at index cmd) reply
kind_fits n index (commands.Board cmd) (replies.Board reply) kinds = tt
kind_fits n index (commands.Board cmd) (replies.Bus reply) kinds = absurd kinds
kind_fits n index (commands.Arbiter cmd) (replies.Board reply) kinds = absurd kinds
kind_fits n index (commands.Arbiter cmd) (replies.Bus reply) kinds = tt

-- a command of the object's kind goes to a known object
kind_within : (n index : ℕ) (cmd : BusCommand) (reply : EventReply) → MatchesKindAt n index cmd reply
    → IsEventBelow n (event_at index cmd)
kind_within n index (commands.Board cmd) (replies.Board reply) kinds = kinds
kind_within n index (commands.Board cmd) (replies.Bus reply) kinds = absurd kinds
kind_within n index (commands.Arbiter cmd) (replies.Board reply) kinds = absurd kinds
kind_within n index (commands.Arbiter cmd) (replies.Bus reply) kinds = tt

-- a fact of all entries of a history gives a fact of all transitions of its run
all_transitions : (P : BusEntry → Type 0) (Q : Transition → Type 0) → ((e : BusEntry) → P e → Q (transition_of e))
    → (h : List BusEntry) → All P h → All Q (run_of h)
all_transitions P Q leads [] all = All-nil Q
all_transitions P Q leads (e ∷ h) all =
    All-cons Q (transition_of e) (run_of h) (leads e (All-head P e h all)) (all_transitions P Q leads h (All-tail P e h all))

-- the one history of a settled port array is its run
pub run_of_array :
    (config : Configuration) (passes : List BusPass) (homes : List (Home BusObject)) (s : IsSettled config passes homes)
    → IsRunOfArray config passes homes (run_of s.settles.history)
run_of_array config passes homes s = record {
  known = all_transitions (λ e. e.who < n) (λ m. m.who < n) (λ e less. less) h s.settles.known;
  fitting =
      all_transitions (MatchesKind n) (λ m. IsReplyTo m.event m.reply)
      (λ e is. kind_fits n e.cmd.index e.cmd.cmd e.reply is) h kinds;
  within =
      all_transitions (MatchesKind n) (λ m. IsEventBelow n m.event)
      (λ e is. kind_within n e.cmd.index e.cmd.cmd e.reply is) h kinds;
  boards = λ x own home found there.
      let opens = board_at config config.boards x own found in
      let linked =
      board_history n x (opening_memory own) h (slice_get_within config.boards x own found) kinds
      (s.settles.legal x (objects.Board (opening_memory own)) opens) in
      let end = s.settles.ends.each x (objects.Board (opening_memory own)) home opens there in
      (linked.legal, end.0 ∙ linked.object, end.1 ∙ linked.count);
  bus = λ home there.
      let opens = bus_at config config.boards in
      let linked =
      arbiter_history n (opening_bus config.arbiter) h kinds
      (s.settles.legal n (objects.Arbiter (opening_bus config.arbiter)) opens) in
      let end = s.settles.ends.each n (objects.Arbiter (opening_bus config.arbiter)) home opens there in
      (linked.legal, end.0 ∙ linked.object, end.1 ∙ linked.count);
  made = All-weaker (λ (p : BusPass). own p.who h ≡ p.mine) (λ (p : BusPass). transitions_of p.who (run_of h) ≡ run_of p.mine)
      (λ p mine. transitions_of_run p.who h ∙ ap run_of mine) passes s.settles.mine;
}
  where
    n : ℕ
    n = length config.boards

    h : List BusEntry
    h = s.settles.history

    shared : IsShared n h passes
    shared = record {
      known = s.settles.known;
      each_who = s.settles.each_who;
      seen = s.settles.seen;
      sound = s.settles.sound;
      mine = s.settles.mine;
    }

    -- some pass made each entry of the history, so the entry has its object's kind
    kinds : All (MatchesKind n) h
    kinds = all_made n h passes shared (MatchesKind n) s.kinds
