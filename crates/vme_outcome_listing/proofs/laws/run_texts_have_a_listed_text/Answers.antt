use Rattle.vme_outcome_listing.proofs.Consequences.{run_listed}
use Rattle.vme_outcome_listing.proofs.laws.run_texts_have_a_listed_text.Goals as goal

pub returns : goal.returns
returns c = run_listed c.reports_have_a_listed_outcome.ensures.given
