use Rattle.vme_check.specs.Answers.{IsAnswer}
use Rattle.vme_check.proofs.Inputs.{of_input}
use Rattle.vme_check.proofs.check.check_engine.Goals as goal

pub returns-clause-answer : goal.returns-clause-answer
returns-clause-answer g c =
    of_input (λ bytes. IsAnswer bytes c.in_ok-end.end.refusal) _ _ c.in_ok-input.ensures.whole
    (rw c.as_slice.ensures.value at c.in_ok-end.ensures.answer)
