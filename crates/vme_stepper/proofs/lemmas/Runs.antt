-- Turns, one after another.
use Rattle.std.proofs.Common.{◌≡◌, ℕ, zero, suc, ◌+◌, ◌-◌, ◌*◌, ◌^◌, ◌<◌, ◌≤◌, List, [], ◌∷◌, ◌++◌, length, map, take, get_or, replicate, Option, None, refl, sym, ap, subst, ◌∙◌, arith, append_assoc, length-append, add-one}
use Rattle.std.proofs.Math.Nat.{mul-le-mul}
use Rattle.std.proofs.lemmas.List.{append-nil, take_more, length-replicate, length-take, length-map, flat_map_more}
use Rattle.std.proofs.lemmas.List.Sums.{sum_by-cons, sum_by_push, sum_by-take-le}
use Rattle.vme_script.specs.declared.board.BoardConfig.{BoardConfig}
use Rattle.vme_script.specs.Configurations.{Configuration}
use Rattle.vme_script.specs.Schedules.{turns_of}
use Rattle.vme_script.specs.Lawful.{IsLawful}
use Rattle.vme_stepper.specs.Turns.{board_in_slot, state_after}
use Rattle.vme_stepper.specs.Schedules.{schedule_turns, round_turns, file_turns}
use Rattle.vme_stepper.specs.Steppers.{StepperView, stepper_turn_at, stepper_of, StepsWithin}
use Rattle.vme_stepper.proofs.SystemStates.{system_more}
use Rattle.vme_stepper.proofs.Steps.{steps_after}

-- the stepper after one more turn is that of the system after one more turn
pub turn_more : (config : Configuration) (stepper : StepperView) (before : List ℕ) (slot : ℕ) (place : Option ℕ) → stepper ≡ stepper_of config (state_after config before)
    → place ≡ board_in_slot config slot → stepper_turn_at config stepper place ≡ stepper_of config (state_after config (before ++ slot ∷ []))
turn_more config stepper before slot place is at = rw (is, at) (sym (system_more config before slot))

-- after at most 2 ^ 64 - 2 turns, no object has made more than 2 ^ 64 - 2 steps
pub few_steps : (config : Configuration) (stepper : StepperView) (before : List ℕ) → stepper ≡ stepper_of config (state_after config before)
    → length before ≤ 2 ^ 64 - 2 → StepsWithin (2 ^ 64 - 2) stepper.machine
few_steps config stepper before is few = subst (λ (d : StepperView). StepsWithin (2 ^ 64 - 2) d.machine) (sym is) (steps_after config (2 ^ 64 - 2) before few)

-- turns of a slot without a board change nothing
pub none_more : (config : Configuration) (before : List ℕ) (slot n : ℕ) → None ≡ board_in_slot config slot
    → stepper_of config (state_after config before) ≡ stepper_of config (state_after config (before ++ replicate n slot))
none_more config before slot zero none = ap (λ slots. stepper_of config (state_after config slots)) (sym (append-nil before))
none_more config before slot (suc n) none =
    turn_more config (stepper_of config (state_after config before)) before slot None refl none
    ∙ none_more config (before ++ slot ∷ []) slot n none
    ∙ ap (λ slots. stepper_of config (state_after config slots)) (append_assoc before (slot ∷ []) (replicate n slot))

-- the turns of the first i + 1 pairs are those of the first i and of the next one
pub schedule_more : (schedule : List (ℕ × ℕ)) (i : ℕ) → i < length schedule
    → schedule_turns (take i schedule) ++ replicate (get_or schedule i (0, 0)).1 (get_or schedule i (0, 0)).0 ≡ schedule_turns (take (i + 1) schedule)
schedule_more schedule i within =
    flat_map_more (λ (turns : ℕ × ℕ). replicate turns.1 turns.0) [] (take i schedule) (get_or schedule i (0, 0))
    ∙ ap schedule_turns (sym (take_more schedule i (0, 0) within))

-- a schedule has as many turns as its pairs state
schedule_length : (schedule : List (ℕ × ℕ)) → length (schedule_turns schedule) ≡ turns_of schedule
schedule_length [] = refl
schedule_length (turns ∷ schedule) =
    length-append (replicate turns.1 turns.0) (schedule_turns schedule)
    ∙ ap (λ n. n + length (schedule_turns schedule)) (length-replicate turns.1 turns.0) ∙ ap (λ n. turns.1 + n) (schedule_length schedule)
    ∙ sym (sum_by-cons (λ (t : ℕ × ℕ). t.1) turns schedule)

-- the first pairs of a schedule and a part of the next have no more turns than the schedule
pub schedule_few : (schedule : List (ℕ × ℕ)) (i k most : ℕ) → i < length schedule → k ≤ (get_or schedule i (0, 0)).1 → turns_of schedule ≤ most
    → length (schedule_turns (take i schedule) ++ replicate k (get_or schedule i (0, 0)).0) ≤ most
schedule_few schedule i k most within part few =
    let pair : ℕ × ℕ = get_or schedule i (0, 0) in
    let own : turns_of (take (i + 1) schedule) ≡ turns_of (take i schedule) + pair.1
    = ap turns_of (take_more schedule i (0, 0) within) ∙ sum_by_push (λ (t : ℕ × ℕ). t.1) (take i schedule) pair in
    omega (
      arith,
      length-append (schedule_turns (take i schedule)) (replicate k pair.0),
      length-replicate k pair.0,
      schedule_length (take i schedule),
      own,
      sum_by-take-le (λ (t : ℕ × ℕ). t.1) schedule (i + 1),
    )

-- n rounds and one more are n + 1 rounds
pub round_more : (n : ℕ) (slots : List ℕ) → round_turns n slots ++ slots ≡ round_turns (n + 1) slots
round_more n slots = rw (add-one n) (by_round n)
  where
    by_round : (n : ℕ) → round_turns n slots ++ slots ≡ slots ++ round_turns n slots
    by_round zero = sym (append-nil slots)
    by_round (suc n) = append_assoc slots (round_turns n slots) slots ∙ ap (λ turns. slots ++ turns) (by_round n)

-- rounds have as many turns as their number times the number of slots
round_length : (n : ℕ) (slots : List ℕ) → length (round_turns n slots) ≡ n * length slots
round_length zero slots = omega arith
round_length (suc n) slots = length-append slots (round_turns n slots) ∙ ap (λ m. length slots + m) (round_length n slots) ∙ omega arith

-- a schedule, rounds and a part of the next round have at most 2 ^ 64 - 2 turns
pub rounds_few : (config : Configuration) (slots : List ℕ) (i k : ℕ) → IsLawful config → i ≤ config.rounds → length slots ≤ 21
    → length (schedule_turns config.schedule ++ (round_turns i slots ++ take k slots)) ≤ 2 ^ 64 - 2
rounds_few config slots i k lawful within few =
    omega (
      arith,
      length-append (schedule_turns config.schedule) (round_turns i slots ++ take k slots),
      length-append (round_turns i slots) (take k slots),
      round_length i slots,
      length-take k slots,
      schedule_length config.schedule,
      lawful.turns,
      mul-le-mul {n₁ = i} {m₁ = length slots} {n₂ = 1000000} {m₂ = 21} (omega (arith, lawful.rounds)) few,
    )

-- a file has at most 22,000,000 turns
pub file_few : (config : Configuration) → IsLawful config → length (file_turns config) ≤ 22000000
unfolding file_turns
file_few config lawful =
    let slots : List ℕ = map (λ board. board.slot) config.boards in
    omega (
      arith,
      length-append (schedule_turns config.schedule) (round_turns config.rounds slots),
      round_length config.rounds slots,
      length-map config.boards (λ (board : BoardConfig). board.slot),
      schedule_length config.schedule,
      lawful.turns,
      lawful.most,
      mul-le-mul {n₁ = config.rounds} {m₁ = length slots} {n₂ = 1000000} {m₂ = 21} lawful.rounds
          (omega (arith, length-map config.boards (λ (board : BoardConfig). board.slot), lawful.most)),
    )
