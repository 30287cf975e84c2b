use Rattle.std.proofs.Common.{◌≡◌, drop}
use Rattle.toml.specs.View.{items_view}
use Rattle.vme_config_toml.specs.Values.{items_of}
use Rattle.vme_config_toml.specs.Keys.{mailbox}
use Rattle.vme_config_toml.proofs.Lists.{with_prefix}
use Rattle.vme_config_toml.proofs.keys.mailboxes_in.Given as goal

-- the mailboxes that were read, followed by those of the remaining values, are those of all values
abbrev pub invariant-loop-item : goal.invariant-loop-item
invariant-loop-item l = with_prefix l.mailboxes.items (items_of mailbox (items_view (drop l.item-index l.items.items))) ≡ items_of mailbox (items_view l.fn.items.items)
