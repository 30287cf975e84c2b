use Rattle.std.proofs.Common.{Ok, IfOk, ap, refl, subst, sym}
use Rattle.vme_bus_log.specs.declared.entry.LogEntry.{LogEntry}
use Rattle.vme_bus_log.specs.declared.entry.LogEntry.TheVariants.{Nothing}
use Rattle.vme_judge.specs.Logs.{log_by}
use Rattle.vme_judge.specs.Runs.{TakesLine}
use Rattle.vme_judge.proofs.Runs.{access_is_taken, goes_after, line_is_taken}
use Rattle.vme_judge.proofs.run.Run.take_entry.Goals as goal

pub returns-in-Nothing-clause-line : goal.returns-in-Nothing-clause-line
returns-in-Nothing-clause-line c = λ on.
    subst (λ (entry : LogEntry). TakesLine c.args.self.now c.args.self.now c.args.line (Ok entry)) (sym c.in-Nothing.is)
    (line_is_taken c.args.self.now c.args.self.now c.args.line (Ok Nothing) on refl (λ m is. ap (log_by c.args.self.now.state.last) is))

pub returns-in-Datum-clause-line : goal.returns-in-Datum-clause-line
returns-in-Datum-clause-line c = λ on.
    subst (λ (entry : LogEntry). IfOk c.take_datum.result (λ _. TakesLine c.args.self.now c.take_datum.new.self c.args.line (Ok entry)))
    (sym c.in-Datum.is) (c.take_datum.ensures.line on)

pub returns-in-Access-clause-line : goal.returns-in-Access-clause-line
returns-in-Access-clause-line c = λ on.
    subst (λ (entry : LogEntry). IfOk c.take_access.result (λ _.
    TakesLine c.args.self.now (record c.args.self.now { judge = c.take_access.new.judge }) c.args.line (Ok entry))) (sym c.in-Access.is)
    (access_is_taken c.args.self.now (record c.args.self.now { judge = c.take_access.new.judge }) c.args.line c.in-Access.access c.take_access.result
    on refl refl c.take_access.ensures.taken)

pub returns-in-Access-clause-going : goal.returns-in-Access-clause-going
returns-in-Access-clause-going c = λ on.
    goes_after c.args.self.now (record c.args.self.now { judge = c.take_access.new.judge }) c.take_access.result on refl
    (λ stood. c.take_access.ensures.goes)
