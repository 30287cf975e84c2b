-- Runs that a processor makes with its pass.
use Rattle.std.proofs.Common.{◌≡◌, ℕ, ◌+◌, ◌<◌, List, [], ◌∷◌, ◌++◌, length, slice_index_or, set, All, refl, ap, sym, subst, ◌∙◌, arith}
use Rattle.std.proofs.lemmas.List.{map-append, get_or-replicate, length-replicate}
use Rattle.std.proofs.lemmas.List.Elements.{All-nil, All-cons, All-append}
use mathlib.Core.Option.{some}
use lib.ListN.{get_elem?}
use Rattle.vme_object.specs.History.{entry}
use Rattle.vme_arbiter.specs.Arbitration.{Arbitration, opening_bus}
use Rattle.vme_core.specs.declared.event.EventReply.{EventReply}
use Rattle.vme_core.specs.declared.event.EventReply.TheVariants as replies
use Rattle.vme_core.specs.Runs.{Transition, move}
use Rattle.vme_memory.specs.declared.command.BoardCmd.{BoardCmd}
use Rattle.vme_memory.specs.declared.reply.Reply.{Reply}
use Rattle.vme_arbiter.specs.declared.command.ArbCmd.{ArbCmd}
use Rattle.vme_arbiter.specs.declared.command.ArbReply.{ArbReply}
use Rattle.vme_port.proofs.lemmas.OneHistory.{makes_none, makes_more}
use Rattle.vme_port_array.specs.Parts.{indexed, part}
use Rattle.vme_port_array.specs.Arrays.{opening}
use Rattle.vme_port_array.specs.Calls.{Adds}
use Rattle.vme_port_array.proofs.lemmas.OneHistory.{makes_one}
use Rattle.vme_bus_objects.specs.declared.object.BusObject.{BusObject}
use Rattle.vme_bus_objects.specs.declared.object.BusObject.TheVariants as objects
use Rattle.vme_bus_objects.specs.declared.command.BusCommand.{BusCommand}
use Rattle.vme_bus_objects.specs.declared.command.BusCommand.TheVariants as commands
use Rattle.vme_bus_objects.specs.Objects.{bus_object_step}
use Rattle.vme_bus_objects.specs.Runs.{BusEntry, event_at, transition_of, MatchesKindAt, MatchesKind}
use Rattle.vme_script.specs.Configurations.{Configuration, opening_memory}
use Rattle.vme_threads.specs.declared.processor_pass.ProcessorPass.{ProcessorPass}
use Rattle.vme_threads.specs.declared.worker.Worker.{Worker}
use Rattle.vme_threads.specs.declared.ports.Ports.{Ports}
use Rattle.vme_threads.specs.Ports.{IsBuilt, IsWorkerOf}
use Rattle.vme_threads.specs.ProcessorPasses.{MatchesPorts, CountsMore, AddsTransitions}
use Rattle.vme_threads.proofs.Places.{element_at}
use Rattle.vme_threads.proofs.Counts.{counts_none, counts_more, counts_one, counts_after}
use Rattle.vme_threads.proofs.Settlements.{board_at, bus_at}

-- a processor that makes no call makes the empty run
pub made_none : (d : ProcessorPass) → AddsTransitions [] d d
made_none d = record {
  who = refl;
  boards = refl;
  whose = All-nil (λ (m : Transition). m.who ≡ d.who);
  entries = [];
  run_is = refl;
  kinds = All-nil (MatchesKind d.boards);
  pass = makes_none d.pass;
  counts = counts_none d.made.items;
}

-- a processor that makes one run and then another makes both in this order
pub made_more : (a b : List Transition) (d e f : ProcessorPass) → AddsTransitions a d e → AddsTransitions b e f
    → AddsTransitions (a ++ b) d f
made_more a b d e f first then = record {
  who = then.who ∙ first.who;
  boards = then.boards ∙ first.boards;
  whose =
      All-append (λ (m : Transition). m.who ≡ d.who) a b first.whose
      (subst (λ w. All (λ (m : Transition). m.who ≡ w) b) first.who then.whose);
  entries = first.entries ++ then.entries;
  run_is = map-append transition_of first.entries then.entries ∙ (λ i. first.run_is i ++ then.run_is i);
  kinds =
      All-append (MatchesKind d.boards) first.entries then.entries first.kinds
      (subst (λ n. All (MatchesKind n) then.entries) first.boards then.kinds);
  pass = makes_more first.entries then.entries d.pass e.pass f.pass first.pass then.pass;
  counts = counts_more first.entries then.entries d.made.items e.made.items f.made.items first.counts then.counts;
}

-- after a run, the pass is still that of the ports, and has counted its calls
pub fits_after : (ports : Ports) (run : List Transition) (d e : ProcessorPass) → AddsTransitions run d e → MatchesPorts ports d
    → MatchesPorts ports e
fits_after ports run d e made fits = record {
  array = made.pass.port ∙ fits.array;
  who = made.pass.who ∙ fits.who ∙ sym made.who;
  object_count = fits.object_count ∙ ap (λ n. n + 1) (sym made.boards);
  boards = λ x less. fits.boards x (subst (λ n. x < n) made.boards less);
  bus =
      subst (λ n. (bus : Arbitration) × (get_elem? (opening ports.array) n ≡ some (objects.Arbiter bus)))
      (sym made.boards) fits.bus;
  made_count = made.counts.count ∙ fits.made_count ∙ ap (λ n. n + 1) (sym made.boards);
  counted = λ x n less.
      counts_after made.entries d.pass.mine e.pass.mine d.made.items e.made.items
      (d.boards + 1) made.counts fits.made_count made.pass.mine fits.counted x n
      (subst (λ m. x < m + 1) made.boards less);
}

-- the pass of a worker is that of the ports, and has made no call
pub fits_first :
    (config : Configuration) (ports : Ports) (i : ℕ) (w : Worker) → IsBuilt config ports → IsWorkerOf config ports i w
    → MatchesPorts ports w.processor_pass
fits_first config ports i w built is =
    let n = length config.boards in record {
      array = is.pass.port;
      who = is.pass.who ∙ sym is.who;
      object_count = built.object_count ∙ ap (λ n. n + 1) (sym is.boards);
      boards = λ x less.
          let own = element_at config.boards x (subst (λ n. x < n) is.boards less) in (
            opening_memory own.0,
            ap (λ (os : List BusObject). get_elem? os x) built.opened ∙ board_at config config.boards x own.0 own.1,
          );
      bus =
          subst (λ n. (bus : Arbitration) × (get_elem? (opening ports.array) n ≡ some (objects.Arbiter bus))) (sym is.boards)
          (opening_bus config.arbiter, ap (λ (os : List BusObject). get_elem? os n) built.opened ∙ bus_at config config.boards);
      made_count = ap length is.made ∙ length-replicate (n + 1) 0 ∙ ap (λ n. n + 1) (sym is.boards);
      counted = λ x m less.
          ap (λ (ns : List ℕ). slice_index_or ns x m) is.made
          ∙ get_or-replicate (n + 1) x 0 m (subst (λ n. x < n + 1) is.boards less)
          ∙ ap (λ h. length (part x h)) (sym is.pass.mine);
    }

-- one call of the object at an index is a run of one transition
made_by_call :
    (ports : Ports) (d e : ProcessorPass) (index was : ℕ) (cmd : BusCommand) (reply : EventReply) → MatchesPorts ports d
    → index < d.boards + 1
    → was ≡ slice_index_or d.made.items index was
    → Adds bus_object_step (opening ports.array) (entry d.pass.who (indexed index cmd) reply ∷ []) d.pass e.pass
    → MatchesKindAt d.boards index cmd reply → e.who ≡ d.who → e.boards ≡ d.boards
    → e.made.items ≡ set d.made.items index (was + 1)
    → AddsTransitions (move d.who (event_at index cmd) reply ∷ []) d e
made_by_call ports d e index was cmd reply fits within value added kind who boards made =
    let one : BusEntry = entry d.who (indexed index cmd) reply in record {
      who = who;
      boards = boards;
      whose =
          All-cons (λ (m : Transition). m.who ≡ d.who) (move d.who (event_at index cmd) reply) [] refl
          (All-nil (λ (m : Transition). m.who ≡ d.who));
      entries = one ∷ [];
      run_is = refl;
      kinds = All-cons (MatchesKind d.boards) one [] kind (All-nil (MatchesKind d.boards));
      pass =
          makes_one bus_object_step (opening ports.array) (one ∷ []) d.pass e.pass
          (subst (λ w. Adds bus_object_step (opening ports.array)
          (entry w (indexed index cmd) reply ∷ []) d.pass e.pass) fits.who added);
      counts =
          subst (CountsMore (one ∷ []) d.made.items) (sym made)
          (counts_one d.who index cmd reply d.made.items was (subst (λ m. index < m) (sym fits.made_count) within) value);
    }

-- one call of a board is a run of one transition
pub made_by_board :
    (ports : Ports) (d e : ProcessorPass) (index was : ℕ) (cmd : BoardCmd) (given : EventReply) (reply : Reply) → MatchesPorts ports d
    → index < d.boards
    → was ≡ slice_index_or d.made.items index was
    → Adds bus_object_step (opening ports.array) (entry d.pass.who (indexed index (commands.Board cmd)) given ∷ []) d.pass e.pass
    → given ≡ replies.Board reply → e.who ≡ d.who → e.boards ≡ d.boards → e.made.items ≡ set d.made.items index (was + 1)
    → AddsTransitions (move d.who (event_at index (commands.Board cmd)) (replies.Board reply) ∷ []) d e
made_by_board ports d e index was cmd given reply fits within value added is who boards made =
    subst (λ (r : EventReply). AddsTransitions (move d.who (event_at index (commands.Board cmd)) r ∷ []) d e) is
    (made_by_call ports d e index was (commands.Board cmd) given fits (omega (arith, within)) value added
    (subst (MatchesKindAt d.boards index (commands.Board cmd)) (sym is) within) who boards made)

-- one call of the arbiter is a run of one transition
pub made_by_bus :
    (ports : Ports) (d e : ProcessorPass) (was : ℕ) (cmd : ArbCmd) (given : EventReply) (reply : ArbReply) → MatchesPorts ports d
    → was ≡ slice_index_or d.made.items d.boards was
    → Adds bus_object_step (opening ports.array)
    (entry d.pass.who (indexed d.boards (commands.Arbiter cmd)) given ∷ []) d.pass e.pass
    → given ≡ replies.Bus reply → e.who ≡ d.who → e.boards ≡ d.boards → e.made.items ≡ set d.made.items d.boards (was + 1)
    → AddsTransitions (move d.who (event_at d.boards (commands.Arbiter cmd)) (replies.Bus reply) ∷ []) d e
made_by_bus ports d e was cmd given reply fits value added is who boards made =
    subst (λ (r : EventReply). AddsTransitions (move d.who (event_at d.boards (commands.Arbiter cmd)) r ∷ []) d e) is
    (made_by_call ports d e d.boards was (commands.Arbiter cmd) given fits (omega arith) value added
    (subst (MatchesKindAt d.boards d.boards (commands.Arbiter cmd)) (sym is) refl) who boards made)
