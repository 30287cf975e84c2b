use Rattle.std.proofs.Common.{ap, slice_get, sym, ◌∙◌}
use Rattle.vme_judge.proofs.DumpBlanks.{blanks_more, first_after}
use Rattle.vme_judge.proofs.dump_run.cut_blanks.Goals as goal

pub loop-index-preserved : goal.loop-index-preserved
loop-index-preserved c =
    blanks_more c.args.bytes.now c.loop-index.index 0 c.loop-index-test.true c.loop-index.invariant
    (sym c.is_space.ensures ∙ c.if-not-is_space.false)

pub returns-then-not-is_space-clause-first : goal.returns-then-not-is_space-clause-first
returns-then-not-is_space-clause-first c = λ form.
    ap (λ text. slice_get text 0) c.split_at.ensures.back
    ∙ first_after c.args.bytes.now c.loop-index.index 0 c.loop-index-test.true c.loop-index.invariant
    (sym c.is_space.ensures ∙ c.if-not-is_space.true) form
