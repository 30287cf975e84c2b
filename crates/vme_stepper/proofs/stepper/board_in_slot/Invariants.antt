use Rattle.std.proofs.Common.{◌≡◌, drop}
use Rattle.vme_stepper.specs.Turns.{board_in_slot}
use Rattle.vme_stepper.proofs.lemmas.Places.{place_from}
use Rattle.vme_stepper.proofs.stepper.board_in_slot.Given as goal

-- the index of the board in the slot is among the boards that are left
abbrev pub invariant-loop-board : goal.invariant-loop-board
invariant-loop-board l = place_from l.slot l.board (drop l.board l.config.boards) ≡ board_in_slot l.config l.slot
