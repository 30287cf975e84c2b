use Rattle.std.proofs.Common.{sym, ◌∙◌, arith, eq-eqb}
use Rattle.std.proofs.lemmas.Bool.{ne_eqb}
use Rattle.vme_history.proofs.Places.{place_is, place_next, place_over}
use Rattle.vme_history.proofs.read.board_in_slot.Goals as goal

pub loop-board-init : goal.loop-board-init
loop-board-init c = sym (place_is c.args.config.now.boards c.args.slot)

pub returns-then-slot-clause-place : goal.returns-then-slot-clause-place
returns-then-slot-clause-place c =
    let next = place_next c.args.config.now.boards c.args.slot c.loop-board.board c.loop-board.board c.slot.result c.slot.ensures in
    sym (rw (eq-eqb c.slot.result c.args.slot c.if-slot.true) at next) ∙ c.loop-board.invariant

pub loop-board-preserved : goal.loop-board-preserved
loop-board-preserved c =
    let next = place_next c.args.config.now.boards c.args.slot c.loop-board.board c.loop-board.board c.slot.result c.slot.ensures in
    sym (rw (ne_eqb c.slot.result c.args.slot c.if-slot.false) at next) ∙ c.loop-board.invariant

pub returns-clause-place : goal.returns-clause-place
returns-clause-place c =
    sym (place_over c.args.config.now.boards c.args.slot c.loop-board.board (omega (arith, c.boards-board-end.ensures.value))) ∙ c.loop-board.invariant
