use Rattle.std.proofs.Common.{◌<◌, ◌≤◌, length, arith, inl, inr}
use Rattle.std.proofs.lemmas.List.{length-map}
use Rattle.vme_script.specs.declared.board.BoardConfig.{BoardConfig}
use Rattle.vme_outcome_listing.specs.Texts.{slots_of}
use Rattle.vme_stuck.proofs.Texts.{waits_step, waits_done}
use Rattle.vme_stuck.proofs.wait.append_waits.Goals as goal

pub loop-board-preserved : goal.loop-board-preserved
loop-board-preserved c =
    let less : c.loop-board.board < length c.args.state.now.script_states = omega (arith, c.if-processors-board.false, c.processors.ensures) in
    waits_step (slots_of c.args.config.now) c.args.config.now.scripts c.args.state.now.script_states c.loop-board.board c.slot.result c.script.result.now
    c.loop-board.text.items c.append_wait.new.text.items _ less c.slot.ensures c.script.ensures c.in_ok-append_wait.ensures c.loop-board.invariant

pub returns-then-processors-board : goal.returns-then-processors-board
returns-then-processors-board c =
    waits_done (slots_of c.args.config.now) c.args.config.now.scripts c.args.state.now.script_states c.loop-board.board c.loop-board.text.items _
    (inr (omega (arith, c.if-processors-board.true, c.processors.ensures))) c.loop-board.invariant

pub returns : goal.returns
returns c =
    let count = length-map c.args.config.now.boards (λ (b : BoardConfig). b.slot) in
    let past : length (slots_of c.args.config.now) ≤ c.loop-board.board = omega (arith, c.loop-board-test.false, c.boards-board-end.ensures, count) in
    waits_done (slots_of c.args.config.now) c.args.config.now.scripts c.args.state.now.script_states c.loop-board.board c.loop-board.text.items _
    (inl past) c.loop-board.invariant
