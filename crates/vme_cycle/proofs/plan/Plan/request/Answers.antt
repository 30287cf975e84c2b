-- The request of a plan has no refusal.
use Rattle.std.proofs.Common.{subst}
use Rattle.vme_cycle.specs.Parts.{IsLawful}
use Rattle.vme_cycle.proofs.Lawful.{lawful}
use Rattle.vme_cycle.proofs.plan.Plan.request.Goals as goal

pub returns-clause-lawful : goal.returns-clause-lawful
returns-clause-lawful c =
    subst (λ t. IsLawful t.am t.request) c.self.view_is (lawful _ _ c.self.invariant.0 c.self.invariant.1)
