-- The entry that is returned as the selection is the one that the cycle selects.
use Rattle.std.proofs.Common.{◌≡◌, rules}
use Rattle.vme_decode.specs.Select.{selection}
use Rattle.vme_decode.proofs.lemmas.Selection.{result_facts}
use Rattle.vme_decode.proofs.map.AddressMap.select.Goals as goal

pub returns-clause-entry : goal.returns-clause-entry
unfolding selection
returns-clause-entry c =
    let value : c.select_at.result ≡ selection c.args.self.now c.args.signals.now = search rules in
    result_facts c.select_at.result c.args.self.now c.args.signals.now value
