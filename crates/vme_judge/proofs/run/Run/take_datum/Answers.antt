use Rattle.std.proofs.Common.{Ok, ap, refl, sym, ◌∙◌}
use Rattle.vme_bus_log.specs.declared.entry.LogEntry.TheVariants.{Datum}
use Rattle.vme_judge.specs.Logs.{Break, datum_by}
use Rattle.vme_judge.proofs.Runs.{datum_is_taken, goes_after, line_is_refused, stops_if}
use Rattle.vme_judge.proofs.run.Run.take_datum.Goals as goal

pub returns-in-Some-clause-line : goal.returns-in-Some-clause-line
returns-in-Some-clause-line c = λ on.
    line_is_refused c.args.self.now c.reject.new.self (Break c.args.line c.in-Some.why) c.args.line (Ok (Datum c.args.datum.now)) on
    c.reject.ensures.rejected c.reject.ensures.cause c.reject.ensures.judge
    (λ m. ap (datum_by c.args.line m c.args.self.now.state.last c.args.datum.now) (sym c.break_after.ensures ∙ c.in-Some.is))

pub returns-in-Some-clause-going : goal.returns-in-Some-clause-going
returns-in-Some-clause-going c = λ on. stops_if _ _ c.reject.ensures.rejected

pub returns-clause-line : goal.returns-clause-line
returns-clause-line c = λ on.
    datum_is_taken c.args.self.now (record c.args.self.now { state = c.datum.new.self; judge = c.datum.new.judge }) c.args.line c.args.datum.now
    c.datum.result on refl (sym c.break_after.ensures ∙ c.in_default.is) c.datum.ensures.taken

pub returns-clause-going : goal.returns-clause-going
returns-clause-going c = λ on.
    goes_after c.args.self.now (record c.args.self.now { state = c.datum.new.self; judge = c.datum.new.judge }) c.datum.result on refl
    c.datum.ensures.goes
