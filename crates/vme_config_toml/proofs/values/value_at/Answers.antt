-- The lookup in the table's map returns the value of the member with the key.
use Rattle.toml.proofs.Views.{table_get}
use Rattle.vme_config_toml.proofs.values.value_at.Goals as goal

pub returns : goal.returns
returns c = table_get c.get.result c.args.key.now c.args.table.now.entries c.get.ensures.value
