use Rattle.vme_answers.proofs.laws.taken_events_are_a_history.Goals as goal
use Rattle.vme_answers.proofs.Running.{run_comes}

pub returns : goal.returns
returns c = λ k last events accesses run.
    c.accesses_that_may_come_are_a_history.ensures.only k.bytes accesses (run_comes k last events accesses run)
