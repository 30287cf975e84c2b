-- A call makes at most one step, so as many calls can be counted as are left.
use Rattle.std.proofs.Common.{◌≡◌, ℕ, zero, suc, ◌+◌, ◌-◌, ◌^◌, ◌<◌, ◌≤◌, List, [], ◌∷◌, map, Option, Some, None, refl, ap, sym, subst, ◌∙◌, arith}
use Rattle.std.specs.Prelude.{slice_get, slice_set, option_map}
use Rattle.std.proofs.lemmas.Option.{same_Some, slice_get-map}
use Rattle.vme_memory.specs.Boards.{Board}
use Rattle.vme_memory.specs.Steps.{Command}
use Rattle.vme_core.specs.declared.event.Target.{Target}
use Rattle.vme_core.specs.declared.event.Target.TheVariants as at
use Rattle.vme_core.specs.CountedStates.{CountedState, fresh_count}
use Rattle.vme_core.specs.Runs.{Machine}
use Rattle.vme_core.specs.Calls.{Call, OnBoard, OnBus, board_after, machine_step, command_step, counted_step}
use Rattle.vme_core.specs.Machines.{steps_of}
use Rattle.vme_stepper.specs.Steppers.{StepsWithin}

-- a fact of each element holds after one of them is replaced
set_each : {A : Type 0} (P : A → Type 0) (xs : List A) (i k : ℕ) (new x : A) → ((j : ℕ) (y : A) → slice_get xs j ≡ Some y → P y) → P new
    → slice_get (slice_set xs i new) k ≡ Some x → P x
set_each P [] i k new x each is found = each k x found
set_each P (y ∷ ys) zero zero new x each is found = subst P (same_Some _ _ found) is
set_each P (y ∷ ys) zero (suc k) new x each is found = each (suc k) x found
set_each P (y ∷ ys) (suc i) zero new x each is found = each zero x found
set_each P (y ∷ ys) (suc i) (suc k) new x each is found = set_each P ys i k new x (λ j z there. each (suc j) z there) is found

-- a bound on steps also holds if it is made greater
steps_weaker : (n m : ℕ) (machine : Machine) → n ≤ m → StepsWithin n machine → StepsWithin m machine
steps_weaker n m machine more within = record {
  boards = λ b counted at. let few = within.boards b counted at in omega arith;
  bus = let few = within.bus in omega arith;
}

board_steps : (n : ℕ) (machine : Machine) (who x : ℕ) (command : Option Command) (found : Option (CountedState Board)) → slice_get machine.boards x ≡ found
    → StepsWithin n machine → StepsWithin (n + 1) (board_after machine who x command found).0
board_steps n machine who x command None there within = steps_weaker n (n + 1) machine (omega arith) within
board_steps n machine who x command (Some board) there within = record {
  boards = λ b counted found.
      set_each (λ t. t.steps ≤ n + 1) machine.boards x b (counted_step command_step board who command).0 counted
      (λ j t at. let few = within.boards j t at in omega arith)
      (let few = within.boards x board there in omega arith) found;
  bus = let few = within.bus in omega arith;
}

-- a call makes at most one step
pub machine_steps : (n : ℕ) (machine : Machine) (who : ℕ) (call : Call) → StepsWithin n machine → StepsWithin (n + 1) (machine_step machine who call).0
machine_steps n machine who (OnBoard x command) within = board_steps n machine who x command (slice_get machine.boards x) refl within
machine_steps n machine who (OnBus cmd) within = record {
  boards = λ b counted at. let few = within.boards b counted at in omega arith;
  bus = let few = within.bus in omega arith;
}

board_unspent : (n : ℕ) (machine : Machine) (board : ℕ) (found : Option (CountedState Board)) → slice_get machine.boards board ≡ found
    → n < 2 ^ 64 - 1 → StepsWithin n machine → option_map (λ t. t.steps) found ≡ Some (2 ^ 64 - 1) → ⊥
board_unspent n machine board None is less within spent = cc
board_unspent n machine board (Some t) is less within spent = let few = within.boards board t is in let all = same_Some _ _ spent in omega arith

-- an object that has made fewer steps can count a further one
pub none_spent : (n : ℕ) (machine : Machine) (target : Target) → n < 2 ^ 64 - 1 → StepsWithin n machine
    → steps_of machine target ≡ Some (2 ^ 64 - 1) → ⊥
none_spent n machine (at.Board board) less within spent =
    board_unspent n machine board (slice_get machine.boards board) refl less within (sym (slice_get-map (λ t. t.steps) machine.boards board) ∙ spent)
none_spent n machine at.Bus less within spent = let few = within.bus in let all = same_Some _ _ spent in omega arith

fresh_each : (memories : List Board) (b k : ℕ) (counted : CountedState Board) → slice_get (map (fresh_count k) memories) b ≡ Some counted
    → counted.steps ≤ 0
fresh_each [] b k counted found = absurd (cc found)
fresh_each (memory ∷ memories) zero k counted found = let same = same_Some _ _ found in omega (arith, sym (ap (λ t. t.steps) same))
fresh_each (memory ∷ memories) (suc b) k counted found = fresh_each memories b k counted found

-- before the first call there is no step
pub fresh_steps : (memories : List Board) (machine : Machine) (k : ℕ) → machine.boards ≡ map (fresh_count k) memories → machine.bus.steps ≡ 0
    → StepsWithin 0 machine
fresh_steps memories machine k boards bus = record {
  boards = λ b counted found. fresh_each memories b k counted (ap (λ all. slice_get all b) (sym boards) ∙ found);
  bus = omega (arith, bus);
}
