use Rattle.std.proofs.Common.{sym, ap, ◌∙◌, ◌++◌, ◌∷◌, [], arith}
use Rattle.vme_shared.specs.declared.reply.LineReply.TheVariants.{Unfinished}
use Rattle.vme_stepper.proofs.Reported.{reported_next}
use Rattle.vme_stepper.proofs.processor.Processor.new.Goals as goal

pub loop-j-preserved : goal.loop-j-preserved
loop-j-preserved c = record {
  lines = c.push_reserved.ensures.items ∙ ap (λ lines. lines ++ (c.number.result, Unfinished) ∷ []) c.loop-j.invariant.lines
      ∙ sym (reported_next c.args.script.now c.loop-j.j c.number.result c.number.ensures);
  count = let a = c.push_reserved.ensures.len in let b = c.loop-j.invariant.count in omega arith;
  capacity = let a = c.push_reserved.ensures.capacity in let b = c.loop-j.invariant.capacity in omega arith;
}
