use Rattle.std.proofs.Common.{sym, ◌∙◌}
use Rattle.vme_judge.specs.Dumps.{with_presence}
use Rattle.vme_judge.proofs.Dumps.{scoped, unchanged}
use Rattle.vme_judge.proofs.dump.set_scope.Goals as goal

pub returns-then-is_some : goal.returns-then-is_some
returns-then-is_some c =
    unchanged c.args.judge.now (with_presence c.args.presence.now) (sym c.is_some.ensures ∙ c.if-is_some.true)

pub returns : goal.returns
returns c =
    scoped c.args.judge.now c.args.presence.now c.slots_of-slots.result c.dump_scope-judge.result (sym c.is_some.ensures ∙ c.if-is_some.false)
    c.slots_of-slots.ensures c.dump_scope-judge.ensures
