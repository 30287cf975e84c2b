use Rattle.std.proofs.Common.{ℕ, Ok, Err, refl, subst, sym}
use Rattle.vme_bus_log.specs.Faults.{reported}
use Rattle.vme_judge.specs.Logs.{NoLine}
use Rattle.vme_judge.specs.Runs.{TakesLine, run_so_far}
use Rattle.vme_judge.proofs.Logs.{if_ok_both}
use Rattle.vme_judge.proofs.Runs.{line_is_refused, line_pushed, line_stopped, stops_if}
use Rattle.vme_judge.proofs.Blanks.{line_skipped, blanks_refused}
use Rattle.vme_judge.proofs.run.Run.push_line.Goals as goal

pub returns-in-Ok-clause-judges : goal.returns-in-Ok-clause-judges
unfolding run_so_far
returns-in-Ok-clause-judges c = λ on.
    if_ok_both _ _ _ c.take_entry.result (c.take_entry.ensures.line on) c.take_entry.ensures.log (λ goes taken log.
    let P : ℕ → Type 0 = λ n. TakesLine c.args.self.now c.take_entry.new.self n (Ok c.in-Ok.entry) in
    line_pushed c.args.self.now c.take_entry.new.self c.args.line.now _ (subst P c.number-number.ensures taken) c.in-Ok.ensures.ends
    c.end_with.new.self log c.in-Ok.ensures.next)

pub returns-in-Err-clause-judges : goal.returns-in-Err-clause-judges
returns-in-Err-clause-judges c = λ on.
    let P : ℕ → Type 0 = λ n. TakesLine c.args.self.now c.reject.new.self n (Err (reported c.in-Err.fault)) in
    line_stopped c.args.self.now c.reject.new.self c.args.line.now _
    (subst P c.number-number.ensures (line_is_refused c.args.self.now c.reject.new.self (NoLine c.number-number.result (reported c.in-Err.fault))
    c.number-number.result (Err (reported c.in-Err.fault)) on c.reject.ensures.rejected c.reject.ensures.cause c.reject.ensures.judge (λ m. refl)))
    c.in-Err.ensures.ends (sym (stops_if _ _ c.reject.ensures.rejected))

pub returns-in-Err-clause-going : goal.returns-in-Err-clause-going
returns-in-Err-clause-going c = λ on. stops_if _ _ c.reject.ensures.rejected

pub returns-in-Ok-clause-blanks : goal.returns-in-Ok-clause-blanks
returns-in-Ok-clause-blanks c = λ begin are is.
    line_skipped c.args.self.now c.take_entry.new.self c.end_with.new.self begin c.args.line.now _ c.take_entry.result is are c.requires
    c.in-Ok.ensures.ends c.in-Ok.ensures.next c.take_entry.ensures.nothing

pub returns-in-Err-clause-blanks : goal.returns-in-Err-clause-blanks
returns-in-Err-clause-blanks c = λ begin are is.
    blanks_refused c.args.self.now c.reject.new.self begin c.args.line.now c.number-number.result (reported c.in-Err.fault) is are c.requires c.in-Err.ensures.ends
    c.reject.ensures.rejected c.reject.ensures.cause c.number-number.ensures c.reject.ensures.judge c.reject.ensures.rest.4
