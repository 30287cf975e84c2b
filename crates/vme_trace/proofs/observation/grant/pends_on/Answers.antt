use Rattle.std.proofs.Common.{◌∙◌}
use Rattle.vme_trace.proofs.Pending.{on_level}
use Rattle.vme_trace.proofs.observation.grant.pends_on.Goals as goal

pub returns : goal.returns
returns c = c.is_any_on_level.ensures ∙ on_level c.args.level c.args.state.now.levels
