-- The schedule of a configuration: pairs of a slot and a number of turns.
use Rattle.std.specs.Prelude.{ℕ, nat_le, Bool, not, ◌==◌, ◌&&◌, List, sum_by, Result, Ok}
use Rattle.std.specs.List.{list_any, list_all}
use Rattle.vme_script.specs.declared.board.BoardConfig.{BoardConfig}
use Rattle.vme_script.specs.declared.fault.ConfigFault.{ConfigFault}
use Rattle.vme_script.specs.declared.fault.ConfigFault.TheVariants.{BadSchedule}
use Rattle.vme_script.specs.Answers.{◌>>=◌, refuse}
use Rattle.vme_config_toml.specs.Files.{FileValues}

-- whether there is a board in a slot
unfoldable pub has_slot : List BoardConfig → ℕ → Bool
has_slot boards slot = list_any (λ board. board.slot == slot) boards

-- whether each slot of a schedule has a board
abbrev pub has_boards : List BoardConfig → List (ℕ × ℕ) → Bool
has_boards boards schedule = list_all (λ turns. has_slot boards turns.0) schedule

-- the turns of a schedule, all pairs together
abbrev pub turns_of : List (ℕ × ℕ) → ℕ
turns_of schedule = sum_by (λ turns. turns.1) schedule

-- a lawful schedule: each slot has a board, and there are at most 1,000,000 turns
unfoldable pub lawful_schedule : List BoardConfig → List (ℕ × ℕ) → Result (List (ℕ × ℕ)) ConfigFault
lawful_schedule boards schedule = do
  _ ← refuse (not (has_boards boards schedule && nat_le (turns_of schedule) 1000000)) BadSchedule
  Ok schedule

-- the schedule of a file, if there are 1 to 1,000,000 tries and at most 1,000,000 rounds, and the schedule is lawful
unfoldable pub schedule_of : List BoardConfig → FileValues → Result (List (ℕ × ℕ)) ConfigFault
schedule_of boards file = do
  _ ← refuse (not (nat_le 1 file.tries && nat_le file.tries 1000000 && nat_le file.rounds 1000000)) BadSchedule
  lawful_schedule boards file.schedule
