-- A lawful request stays lawful when a transfer borrows it.
use Rattle.std.proofs.Common.{sym, refl}
use Rattle.vme_cycle.proofs.lemmas.Transfers.{same_transfer}
use Rattle.vme_cycle.proofs.transfer.Transfer.of.Goals as goal

pub invariant_of-result : goal.invariant_of-result
invariant_of-result c =
    same_transfer c.args.request.now c.args.request.now c.am.result c.in_ok-plan.plan (sym (c.in_ok-plan.ensures).plan) c.am.ensures refl

pub returns : goal.returns
returns c =
    sym (same_transfer c.args.request.now c.args.request.now c.am.result c.in_ok-plan.plan (sym (c.in_ok-plan.ensures).plan) c.am.ensures refl)
