use Rattle.std.proofs.Common.{sym, ap, ◌∙◌, ◌++◌, ◌∷◌, [], arith}
use Rattle.vme_script.specs.Configurations.{opening_memory}
use Rattle.vme_stepper.proofs.Reported.{map_next}
use Rattle.vme_stepper.proofs.stepper.zero_memories.Goals as goal

pub loop-board-preserved : goal.loop-board-preserved
loop-board-preserved c = record {
  memories = c.push_reserved.ensures.items ∙ ap (λ ms. ms ++ c.in_ok-memory.field-0 ∷ []) c.loop-board.invariant.memories
      ∙ sym (map_next opening_memory c.args.config.now.boards c.loop-board.board c.in_ok-memory.field-0 c.in_ok-memory.ensures);
  count = let a = c.push_reserved.ensures.len in let b = c.loop-board.invariant.count in omega arith;
  capacity = let a = c.push_reserved.ensures.capacity in let b = c.loop-board.invariant.capacity in omega arith;
}
