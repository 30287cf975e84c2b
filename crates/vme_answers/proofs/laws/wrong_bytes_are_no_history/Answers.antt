use Rattle.vme_answers.proofs.laws.wrong_bytes_are_no_history.Goals as goal
use Rattle.vme_answers.proofs.Running.{wrong_after}
use Rattle.vme_answers.specs.Running.{accesses_of}
use Rattle.std.proofs.Common.{◌++◌}

pub returns : goal.returns
returns c = λ k last events accesses event run wrong history.
    wrong_after k last events accesses event run wrong
    (c.accesses_that_may_come_are_a_history.ensures.every k.bytes (accesses ++ accesses_of last event) history)
