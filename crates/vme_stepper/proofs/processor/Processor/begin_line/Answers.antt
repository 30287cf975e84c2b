use Rattle.std.proofs.Common.{◌≡◌, length, ap, ◌∙◌, subst, is_some, true, rules}
use Rattle.vme_stepper.specs.Steppers.{ProcessorView}
use Rattle.vme_stepper.specs.Lines.{processor_begun}
use Rattle.vme_stepper.proofs.Beginning.{begun_current}
use Rattle.vme_stepper.proofs.processor.Processor.begin_line.Goals as goal

pub returns-else-is_none-clause-begun : goal.returns-else-is_none-clause-begun
returns-else-is_none-clause-begun c =
    let s = c.self.inside in
    let some : is_some s.task ≡ true = search (rules, c.is_none.ensures, c.if-is_none.false) in
    subst (λ (p : ProcessorView). p ≡ processor_begun c.args.config.now c.args.board p) c.self.view_is
    (begun_current c.args.config.now c.args.board s.script.now s.lines.items s.ended s.task c.self.invariant.work some
    (ap (λ (p : ProcessorView). length p.lines) c.self.view_is ∙ c.requires.processor.lines))
