-- Each key of the table is tested.
use Rattle.std.proofs.Common.{◌∙◌, string_bytes, rules, tests}
use Rattle.std.specs.Map.{keys_of}
use Rattle.std.proofs.lemmas.Iterator.Search.{all_from_yields_List}
use Rattle.std.proofs.lemmas.Iterator.Consumers.{YieldsList-from_rest}
use Rattle.vme_config_toml.specs.Keys.{is_mailbox_key}
use Rattle.vme_config_toml.proofs.Names.{has_only_keys}
use Rattle.vme_config_toml.proofs.keys.has_mailbox_keys.Goals as goal

pub returns : goal.returns
returns c =
    let asked = all_from_yields_List (λ key. is_mailbox_key (string_bytes key)) _ _ c.all.result c.all.ensures.ran
    (YieldsList-from_rest (keys_of c.args.table.now.entries) cc) (λ x b q k. search (rules, tests)) in
    asked ∙ has_only_keys is_mailbox_key c.args.table.now.entries
