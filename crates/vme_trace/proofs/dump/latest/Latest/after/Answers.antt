use Rattle.std.proofs.Common.{sym, ◌∙◌}
use Rattle.vme_trace.proofs.Edges.{past_due, past_other}
use Rattle.vme_trace.proofs.dump.latest.Latest.after.Goals as goal

pub returns-then-is_due : goal.returns-then-is_due
returns-then-is_due c = λ later.
    past_due c.args.code c.args.change.now later c.args.self.edge c.args.end c.args.self.value (sym c.is_due.ensures ∙ c.if-is_due.true)

pub returns : goal.returns
returns c = λ later.
    past_other c.args.code c.args.change.now later c.args.self.edge c.args.end c.args.self.value (sym c.is_due.ensures ∙ c.if-is_due.false)
