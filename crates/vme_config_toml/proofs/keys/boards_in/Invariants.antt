use Rattle.std.proofs.Common.{◌≡◌, drop}
use Rattle.toml.specs.View.{items_view}
use Rattle.vme_config_toml.specs.Values.{items_of}
use Rattle.vme_config_toml.specs.Keys.{board}
use Rattle.vme_config_toml.proofs.Lists.{with_prefix}
use Rattle.vme_config_toml.proofs.keys.boards_in.Given as goal

-- the boards that were read, followed by those of the remaining values, are those of all values
abbrev pub invariant-loop-item : goal.invariant-loop-item
invariant-loop-item l = with_prefix l.boards.items (items_of board (items_view (drop l.item-index l.items.items))) ≡ items_of board (items_view l.fn.items.items)
