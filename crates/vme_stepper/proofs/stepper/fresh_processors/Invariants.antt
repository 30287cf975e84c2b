use Rattle.std.proofs.Common.{◌≡◌, map, take}
use Rattle.vme_stepper.specs.Steppers.{processors_from}
use Rattle.vme_stepper.proofs.Opening.{fresh_script_state}
use Rattle.vme_stepper.proofs.stepper.fresh_processors.Given as goal

-- the processors so far are those of the first boards
abbrev pub invariant-loop-board : goal.invariant-loop-board
invariant-loop-board l = l.processors.items ≡ processors_from l.config 0 (map fresh_script_state (take l.board l.config.scripts))
