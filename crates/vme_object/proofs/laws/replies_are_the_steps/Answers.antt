use Rattle.vme_object.proofs.lemmas.Histories.{reply_at, legal_from_replies}
use Rattle.vme_object.proofs.laws.replies_are_the_steps.Goals as goal

pub returns : goal.returns
returns g c = λ s h. (λ legal a b e. reply_at g.O.Object.step s h a b e legal, legal_from_replies g.O.Object.step s h)
