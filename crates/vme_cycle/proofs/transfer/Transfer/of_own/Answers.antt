-- A lawful request stays lawful when a transfer owns it.
use Rattle.std.proofs.Common.{sym, refl}
use Rattle.vme_cycle.proofs.lemmas.Transfers.{same_transfer}
use Rattle.vme_cycle.proofs.transfer.Transfer.of_own.Goals as goal

pub invariant_of-result : goal.invariant_of-result
invariant_of-result c =
    same_transfer c.args.request c.args.request c.am-am.result c.in_ok-of.field-0 (sym (c.in_ok-of.ensures).plan) c.am-am.ensures refl

pub returns : goal.returns
returns c =
    sym (same_transfer c.args.request c.args.request c.am-am.result c.in_ok-of.field-0 (sym (c.in_ok-of.ensures).plan) c.am-am.ensures refl)
