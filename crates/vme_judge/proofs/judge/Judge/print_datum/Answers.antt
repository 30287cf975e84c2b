use Rattle.std.specs.Prelude.{string_bytes}
use Rattle.vme_judge.proofs.Printing.{datum_line_is, no_datum}
use Rattle.vme_judge.proofs.judge.Judge.print_datum.Goals as goal

pub returns-then-not-self-clause-line : goal.returns-then-not-self-clause-line
returns-then-not-self-clause-line c =
    no_datum c.args.self.now.options.now.log c.args.spot c.args.sample.now c.args.datum.now (string_bytes c.args.self.now.pending) c.if-not-self.true

pub returns-clause-line : goal.returns-clause-line
returns-clause-line c =
    datum_line_is c.args.self.now.options.now.log c.args.spot c.args.sample.now c.args.datum.now c.driver_of-slot.result c.log_datum.result
    c.print_datum.result (string_bytes c.args.self.now.pending) (string_bytes c.print_datum.new.to) c.if-not-self.false c.driver_of-slot.ensures
    c.log_datum.ensures c.print_datum.ensures
