-- Runs compose, and grow by one event.
use Rattle.std.proofs.Common.{◌≡◌, ℕ, ◌+◌, List, [], ◌∷◌, ◌++◌, length, take, slice_index_or, ◌<◌, ◌-◌, ◌^◌, Some, Ok, Err, refl, ap, sym, subst, ◌∙◌}
use Rattle.std.proofs.lemmas.List.{map-append, append-nil, append_assoc, take_more, length-map}
use Rattle.std.proofs.Math.ListN.{get_or-map}
use Rattle.std.proofs.lemmas.Option.{slice_get-get_or}
use Rattle.std.proofs.lemmas.List.Elements.{filter_map-append, All-nil, All-append}
use Rattle.vme_object.specs.Each.{AllAt}
use Rattle.vme_object.proofs.lemmas.Eachs.{AllAt-same, AllAt-trans}
use Rattle.vme_memory.specs.Boards.{Board}
use Rattle.vme_memory.specs.Locals.{board_step}
use Rattle.vme_arbiter.specs.Arbitration.{Arbitration, arbiter_step}
use Rattle.vme_core.specs.declared.event.Event.{Event}
use Rattle.vme_core.specs.declared.event.EventReply.{EventReply}
use Rattle.vme_core.specs.CountedStates.{IsObjectRun, IsCountedReplay, fresh_count}
use Rattle.vme_core.specs.Runs.{Machine, Transition, target_of, IsRun, IsReplyTo, move, board_entry, bus_entry, board_part, bus_part, replies_in}
use Rattle.vme_core.specs.Machines.{HasApplied, HasRun, steps_of, opening}
use Rattle.vme_core.specs.declared.fault.RunStop.TheVariants as stops
use Rattle.vme_core.proofs.lemmas.CountedStates.{went_nil, went_trans, run_replays}

-- the empty run leaves the machine unchanged
pub did_nil : (m : Machine) → IsRun [] m m
did_nil m = record {
  fitting = All-nil (λ m. IsReplyTo m.event m.reply);
  boards = AllAt-same (λ x b a. IsObjectRun board_step [] b a) m.boards (λ x b. went_nil board_step b);
  bus = went_nil arbiter_step m.bus;
}

-- consecutive runs are one run
pub did_trans : (r s : List Transition) (a b c : Machine) → IsRun r a b → IsRun s b c → IsRun (r ++ s) a c
did_trans r s a b c first then = record {
  fitting = All-append (λ m. IsReplyTo m.event m.reply) r s first.fitting then.fitting;
  boards = AllAt-trans _ _ (λ x p q. IsObjectRun board_step (board_part x (r ++ s)) p q) a.boards b.boards c.boards
      (λ x p q z one two. rw (filter_map-append (λ m. board_entry x m.who m.event m.reply) r s) (went_trans board_step (board_part x r) (board_part x s) p q z one two))
      first.boards then.boards;
  bus = rw (filter_map-append (λ m. bus_entry m.who m.event m.reply) r s) (went_trans arbiter_step (bus_part r) (bus_part s) a.bus b.bus c.bus first.bus then.bus);
}

-- a machine and replies that are unchanged are those after no events
pub done_nothing : (m : Machine) (old : List EventReply) → HasApplied [] m m old old
done_nothing m old = record { run = []; asked = refl; replies_appended = sym (append-nil old); did = did_nil m }

-- an event that is performed after the first i events is applied as the next one, with its reply appended
pub done_more :
    (events : List (ℕ × Event)) (i : ℕ) (a b c : Machine) (old new : List EventReply) (who : ℕ) (event : Event) (reply : EventReply)
    → i < length events → slice_index_or events i (who, event) ≡ (who, event) → HasApplied (take i events) a b old new
    → IsRun (move who event reply ∷ []) b c → HasApplied (take (i + 1) events) a c old (new ++ reply ∷ [])
done_more events i a b c old new who event reply i< here done one = record {
  run = done.run ++ move who event reply ∷ [];
  asked = map-append (λ m. (m.who, m.event)) done.run (move who event reply ∷ [])
      ∙ ap (λ es. es ++ (who, event) ∷ []) done.asked
      ∙ ap (λ e. take i events ++ e ∷ []) (sym here)
      ∙ sym (take_more events i (who, event) i<);
  replies_appended = ap (λ rs. rs ++ reply ∷ []) done.replies_appended
      ∙ append_assoc old (replies_in done.run) (reply ∷ [])
      ∙ ap (λ rs. old ++ rs) (sym (map-append (λ m. m.reply) done.run (move who event reply ∷ [])));
  did = did_trans done.run (move who event reply ∷ []) a b c done.did one;
}

-- if all events were performed, the run has the result Ok
pub run_all :
    (events : List (ℕ × Event)) (n : ℕ) (a b : Machine) (old new : List EventReply) (all : Unit {0}) → n ≡ length events
    → HasApplied (take n events) a b old new → HasRun events a b old new (Ok all)
run_all events n a b old new all end done = record { done = n; has = done; ends = end }

-- if the object of the next event can count no further step, the run has the result Spent
pub run_spent :
    (events : List (ℕ × Event)) (n : ℕ) (a b : Machine) (old new : List EventReply) (who : ℕ) (event : Event) → n < length events
    → slice_index_or events n (who, event) ≡ (who, event) → steps_of b (target_of event) ≡ Some (2 ^ 64 - 1)
    → HasApplied (take n events) a b old new → HasRun events a b old new (Err stops.Spent)
run_spent events n a b old new who event n< here spent done = record {
  done = n;
  has = done;
  ends = rw (slice_get-get_or events n (who, event) n<) (rw here spent);
}

-- if the replies are unchanged, a run that performed no event has the result OutOfMemory
pub run_none :
    (events : List (ℕ × Event)) (m : Machine) (old new : List EventReply) → new ≡ old → HasRun events m m old new (Err stops.OutOfMemory)
run_none events m old new same = record { done = 0; has = rw same (done_nothing m old); ends = refl }

-- each board is the replay of its own part of a run from an opening state
pub opened_boards :
    (memories : List Board) (bus : Arbitration) (k : ℕ) (run : List Transition) (after : Machine) → IsRun run (opening memories bus k) after
    → AllAt (λ x memory b. IsCountedReplay board_step memory (board_part x run) k b) memories after.boards
opened_boards memories bus k run after did = record {
  count = did.boards.count ∙ length-map memories (fresh_count k);
  each = λ x memory b x<.
      run_replays board_step (slice_index_or memories x memory) (board_part x run) k (slice_index_or after.boards x b)
      (subst (λ t. IsObjectRun board_step (board_part x run) t (slice_index_or after.boards x b)) (get_or-map (fresh_count k) memories x memory)
      (did.boards.each x (fresh_count k memory) b (rw (length-map memories (fresh_count k)) x<)));
}
