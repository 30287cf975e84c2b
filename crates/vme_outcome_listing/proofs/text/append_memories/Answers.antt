use Rattle.std.proofs.Common.{◌≤◌, length, arith, inl, inr}
use Rattle.std.proofs.lemmas.List.{length-map}
use Rattle.vme_script.specs.declared.board.BoardConfig.{BoardConfig}
use Rattle.vme_outcome_listing.specs.Texts.{slots_of}
use Rattle.vme_outcome_listing.proofs.Texts.{memories_step, memories_done}
use Rattle.vme_outcome_listing.proofs.text.append_memories.Goals as goal

pub loop-board-preserved : goal.loop-board-preserved
loop-board-preserved c =
    memories_step (slots_of c.args.config.now) c.args.state.now.machine.boards c.loop-board.board c.slot.result c.memory.result.now
    c.loop-board.text.items c.append_memory.new.text.items _ c.slot.ensures c.memory.ensures c.in_ok-append_memory.ensures c.loop-board.invariant

pub returns-then-boards-board : goal.returns-then-boards-board
returns-then-boards-board c =
    memories_done (slots_of c.args.config.now) c.args.state.now.machine.boards c.loop-board.board c.loop-board.text.items _
    (inr (omega (arith, c.if-boards-board.true, c.boards.ensures))) c.loop-board.invariant

pub returns : goal.returns
returns c =
    let count = length-map c.args.config.now.boards (λ (b : BoardConfig). b.slot) in
    let past : length (slots_of c.args.config.now) ≤ c.loop-board.board = omega (arith, c.loop-board-test.false, c.boards-board-end.ensures, count) in
    memories_done (slots_of c.args.config.now) c.args.state.now.machine.boards c.loop-board.board c.loop-board.text.items _
    (inl past) c.loop-board.invariant
