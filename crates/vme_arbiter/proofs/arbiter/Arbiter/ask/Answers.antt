use Rattle.std.proofs.Common.{◌<◌, length, not, ap, sym, ◌∙◌, rules}
use Rattle.vme_arbiter.specs.Arbitration.{can_ask, ask_step}
use Rattle.vme_arbiter.proofs.Steps.{asked-waits}
use Rattle.vme_arbiter.proofs.arbiter.Arbiter.ask.Goals as goal

pub returns-clause-state : goal.returns-clause-state
returns-clause-state c =
    let inside = c.self.inside in
    let within : c.from.result < length inside.levels = search rules in
    let held = c.is_none.ensures ∙ ap not c.if-is_none.false in
    let can = ap (λ bus. can_ask bus c.args.slot c.args.level) c.self.view_is ∙ sym c.can_ask.ensures ∙ c.if-not-can_ask.false in
    rw c.from.ensures
    (asked-waits inside.kind inside.first inside.holder c.args.slot c.args.level inside.levels (rw c.from.ensures at within) held can
    ∙ ap (λ bus. (ask_step bus c.args.slot c.args.level).0) c.self.view_is)
