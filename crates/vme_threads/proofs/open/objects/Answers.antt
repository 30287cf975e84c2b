use Rattle.std.proofs.Common.{rules, arith}
use Rattle.vme_threads.proofs.Openings.{one_more_object, all_objects}
use Rattle.vme_threads.proofs.open.objects.Goals as goal

-- the objects with one more board
pub loop-board-preserved : goal.loop-board-preserved
loop-board-preserved c = record {
  count = search rules;
  capacity = search rules;
  boards =
      one_more_object c.args.config.now c.loop-board.board c.in-Ok.memory c.loop-board.objects.items _ c.in-Ok.ensures
      c.loop-board.invariant.boards
      c.push_reserved.ensures.items;
}

-- the arbiter follows all boards
pub returns : goal.returns
returns c =
    all_objects c.args.config.now c.loop-board.board c.loop-board.objects.items _ c.arbiter.result
    (omega (arith, c.loop-board-test.false, c.loop-board.auto.board-end, c.boards-count.ensures.value))
    c.loop-board.invariant.boards c.arbiter.ensures
    c.push_reserved-2.ensures.items
