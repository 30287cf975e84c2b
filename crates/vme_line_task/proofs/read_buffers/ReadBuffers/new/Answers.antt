use Rattle.std.proofs.Common.{ap, ◌∙◌, ◌++◌, ◌∷◌, [], refl, arith, Vec, Global}
use Rattle.std.proofs.lemmas.Bool.{lt-ltb, le-ltb}
use Rattle.std.proofs.lemmas.List.{take_all}
use Rattle.vme_cycle.specs.declared.block_buffer.BlockBuffer.{BlockBuffer}
use Rattle.vme_line_task.specs.ReadBuffers.{line_read_len, buffers_of}
use Rattle.vme_line_task.proofs.lemmas.LineBuffers.{kept_none, kept_all, one_long, one_short}
use Rattle.vme_line_task.proofs.read_buffers.ReadBuffers.new.Goals as goal
use Rattle.vme_line_task.proofs.read_buffers.ReadBuffers.new.Goals.{then-is_long+in_ok-with_capacity+in_ok-push, else-is_long}

pub loop-line-init : goal.loop-line-init
loop-line-init c = record {
  buffers = kept_none c.in_ok-are_long.are_long.items c.new-long.result.items c.in_ok-are_long.ensures.items c.new-long.ensures.items;
  count = c.in_ok-are_long.ensures.len;
  place = let a = c.in_ok-are_long.ensures.capacity in omega (arith, a, c.len.ensures);
}

pub loop-line-preserved : goal.loop-line-preserved
loop-line-preserved c = record {
  buffers =
      elim c.if-is_long.branch [
        | then-is_long+in_ok-with_capacity+in_ok-push w ↦
            one_long c.args.script.now c.loop-line.line c.long_buffer-count.result c.line.result.now c.loop-line.are_long.items c.push_reserved.new.self.items
            c.loop-line.long.items c.if-is_long.long.items w.in_ok-with_capacity.field-0 c.line.ensures c.loop-line.invariant.buffers (c.long_buffer-count.ensures.long w.if-is_long.true)
            (c.push_reserved.ensures.items ∙ ap (λ b. c.loop-line.are_long.items ++ b ∷ []) (lt-ltb 40 c.long_buffer-count.result w.if-is_long.true))
            (ap (λ (v : Vec BlockBuffer Global). v.items) w.long-is ∙ w.in_ok-push.ensures.items) w.in_ok-with_capacity.ensures.capacity
        | else-is_long w ↦
            rw (w.long-is)
            (one_short c.args.script.now c.loop-line.line (line_read_len c.line.result.now) c.line.result.now c.loop-line.are_long.items c.push_reserved.new.self.items
            c.loop-line.long.items c.line.ensures c.loop-line.invariant.buffers refl
            (c.push_reserved.ensures.items ∙ ap (λ b. c.loop-line.are_long.items ++ b ∷ []) (le-ltb 40 c.long_buffer-count.result w.if-is_long.false))
            (c.long_buffer-count.ensures.short w.if-is_long.false))
      ];
  count = let a = c.push_reserved.ensures.len in let b = c.loop-line.invariant.count in omega arith;
  place = let a = c.push_reserved.ensures.capacity in let b = c.loop-line.invariant.place in omega arith;
}

pub returns : goal.returns
returns c =
    rw (c.into_iter.ensures.rest, c.into_iter-2.ensures.rest)
    (kept_all c.loop-line.are_long.items c.loop-line.long.items (buffers_of c.args.script.now)
    (rw (take_all c.loop-line.line c.args.script.now (omega (arith, c.loop-line-test.false, c.len-line-end.ensures))) at c.loop-line.invariant.buffers))
