-- The turns of a file that are left.
use Rattle.std.specs.Prelude.{ℕ, ◌≤◌, List, ◌++◌, drop, length, map, replicate}
use Rattle.vme_script.specs.Configurations.{Configuration}
use Rattle.vme_stepper.specs.Schedules.{schedule_turns, round_turns}
use Rattle.vme_trace.specs.declared.turns.FileTurns.{FileTurns}

-- the slots of a configuration's boards
abbrev pub board_slots : Configuration → List ℕ
board_slots config = map (λ board. board.slot) config.boards

-- the slots of the turns of the rounds that are left: the rest of the current round, and the rounds after it
abbrev pub round_left : Configuration → FileTurns → List ℕ
round_left config t = drop t.board (board_slots config) ++ round_turns t.rounds (board_slots config)

-- the slots of all turns that are left: those of the current pair of the schedule, of the pairs after it, and of the rounds
abbrev pub turns_left : Configuration → FileTurns → List ℕ
turns_left config t = replicate t.left t.slot ++ (schedule_turns (drop t.pair config.schedule) ++ round_left config t)

-- turns of a configuration's file: the next board of the current round is one of its boards, or the round is over
abbrev pub IsTurnsOf : Configuration → FileTurns → Type 0
IsTurnsOf config t = t.board ≤ length config.boards
