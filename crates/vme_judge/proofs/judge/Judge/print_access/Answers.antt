use Rattle.std.specs.Prelude.{string_bytes}
use Rattle.vme_judge.proofs.Printing.{access_line_is, no_access}
use Rattle.vme_judge.proofs.judge.Judge.print_access.Goals as goal

pub returns-then-not-self-clause-line : goal.returns-then-not-self-clause-line
returns-then-not-self-clause-line c =
    no_access c.args.self.now.options.now.log c.args.spot c.args.slot c.args.access.now (string_bytes c.args.self.now.pending) c.if-not-self.true

pub returns-clause-line : goal.returns-clause-line
returns-clause-line c =
    access_line_is c.args.self.now.options.now.log c.args.spot c.args.slot c.args.access.now c.log_access.result c.print_access.result
    (string_bytes c.args.self.now.pending) (string_bytes c.print_access.new.to) c.if-not-self.false c.log_access.ensures c.print_access.ensures
