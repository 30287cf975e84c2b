use Rattle.std.proofs.Common.{ap, sym, ◌∙◌}
use Rattle.vme_arbiter.specs.Requests.{bus_request}
use Rattle.vme_arbiter.specs.Levels.{level_order}
use Rattle.vme_arbiter.specs.Arbitration.{holds, done_step}
use Rattle.vme_arbiter.proofs.Listed.{none-listed}
use Rattle.vme_arbiter.proofs.Steps.{done-hands, done-rests, emptied-in_range}
use Rattle.vme_arbiter.proofs.arbiter.Arbiter.done.Goals as goal

pub returns-in-Some-clause-state : goal.returns-in-Some-clause-state
returns-in-Some-clause-state c =
    let inside = c.self.inside in
    let next = c.in-Some.next in
    let held = ap (λ bus. holds bus c.args.slot) c.self.view_is ∙ sym c.holds.ensures ∙ c.if-not-holds.false in
    let handed =
    done-hands inside.kind inside.first inside.holder c.args.slot (bus_request next.level next.slot) inside.levels held c.in-Some.ensures.next in
    c.grant.ensures ∙ rw c.from.ensures (handed ∙ ap (λ bus. (done_step bus c.args.slot).0) c.self.view_is)

pub returns-then-self-clause-state : goal.returns-then-self-clause-state
returns-then-self-clause-state c =
    let inside = c.self.inside in
    let held = ap (λ bus. holds bus c.args.slot) c.self.view_is ∙ sym c.holds.ensures ∙ c.if-not-holds.false in
    let none = none-listed (level_order inside.first) inside.levels (c.self.invariant.2 c.if-self.true) in
    done-rests inside.kind inside.first inside.holder c.args.slot inside.levels held none
    ∙ ap (λ bus. (done_step bus c.args.slot).0) c.self.view_is

pub invariant_of-self-in-Some : goal.invariant_of-self-in-Some
invariant_of-self-in-Some c =
    let inside = c.self.inside in
    let loud = c.if-self.false in
    (c.self.invariant.0, emptied-in_range inside.levels c.from.result c.self.invariant.1, λ quiet. cc)
