use Rattle.std.proofs.Common.{◌++◌, flat_map, string_bytes, ap, ◌∙◌}
use Rattle.std.proofs.lemmas.Iterator.Splits.{YieldsList-from_lines}
use Rattle.std.proofs.lemmas.Iterator.Consumers.{YieldsList-end}
use Rattle.vme_judge.specs.FindingTexts.{comment, commented}
use Rattle.vme_judge.proofs.verdict.write_commented.Goals as goal

pub returns : goal.returns
unfolding commented
returns c =
    let end = YieldsList-end (YieldsList-from_lines c.args.text.now cc) c.loop-line.yielded _ c.loop-line.yielded_by _ _ c.in-None.is c.next.ensures.steps in
    c.loop-line.invariant ∙ ap (λ lines. string_bytes c.args.to.now ++ flat_map comment lines) end.0
