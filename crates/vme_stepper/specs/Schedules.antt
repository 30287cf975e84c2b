-- The turns that a configuration file states.
use Rattle.std.specs.Prelude.{ℕ, zero, suc, List, [], ◌++◌, map, replicate}
use Rattle.std.specs.List.{flat_map}
use Rattle.vme_script.specs.Configurations.{Configuration}

-- the slots of a schedule's turns: each pair states a slot and its number of turns
abbrev pub schedule_turns : List (ℕ × ℕ) → List ℕ
schedule_turns schedule = flat_map (λ turns. replicate turns.1 turns.0) schedule

-- the slots of this number of rounds over these slots, in order
abbrev pub round_turns : ℕ → List ℕ → List ℕ
round_turns zero slots = []
round_turns (suc n) slots = slots ++ round_turns n slots

-- the slots of a file's turns: those of its schedule, and then its rounds over all slots
unfoldable pub file_turns : Configuration → List ℕ
file_turns config = schedule_turns config.schedule ++ round_turns config.rounds (map (λ board. board.slot) config.boards)
