use Rattle.std.proofs.Common.{ℕ, Ok, Err, refl, subst}
use Rattle.vme_bus_log.specs.Faults.{reported}
use Rattle.vme_judge.specs.Logs.{NoLine}
use Rattle.vme_judge.specs.Runs.{TakesLine, run_so_far}
use Rattle.vme_judge.proofs.Runs.{ended_taken, line_is_refused}
use Rattle.vme_judge.proofs.run.Run.end_log.Goals as goal

pub returns-in_ok-take_entry-in-Ok-clause-judges : goal.returns-in_ok-take_entry-in-Ok-clause-judges
unfolding run_so_far
returns-in_ok-take_entry-in-Ok-clause-judges c = λ on.
    let P : ℕ → Type 0 = λ n. TakesLine c.args.self.now c.take_entry.new.self n (Ok c.in-Ok.entry) in
    ended_taken c.args.self.now c.take_entry.new.self _ (subst P c.number-line.ensures (c.in_ok-take_entry-in-Ok.ensures.line on)) c.in-Ok.ensures.says

pub returns-in-Err-clause-judges : goal.returns-in-Err-clause-judges
returns-in-Err-clause-judges c = λ on.
    let P : ℕ → Type 0 = λ n. TakesLine c.args.self.now c.reject.new.self n (Err (reported c.in-Err.fault)) in
    ended_taken c.args.self.now c.reject.new.self (Err (reported c.in-Err.fault))
    (subst P c.number-line.ensures (line_is_refused c.args.self.now c.reject.new.self (NoLine c.number-line.result (reported c.in-Err.fault))
    c.number-line.result (Err (reported c.in-Err.fault)) on c.reject.ensures.rejected c.reject.ensures.cause c.reject.ensures.judge (λ m. refl)))
    c.in-Err.ensures.says
