use Rattle.std.proofs.Common.{ap, sym, ◌∙◌}
use Rattle.std.specs.Prelude.{is_some}
use Rattle.vme_arbiter.specs.Arbitration.{pends}
use Rattle.vme_arbiter.proofs.Listed.{pends-listed}
use Rattle.vme_arbiter.proofs.arbiter.Arbiter.pends.Goals as goal

pub returns : goal.returns
returns c =
    let read = pends-listed c.args.slot c.self.inside.levels in
    c.is_some.ensures ∙ ap is_some c.level_of.ensures ∙ sym read ∙ ap (λ bus. pends bus c.args.slot) c.self.view_is
