use Rattle.std.proofs.Common.{◌≡◌}
use Rattle.toml.specs.View.{members_view}
use Rattle.vme_line_map.specs.Documents.{each_member, with_slot}
use Rattle.vme_line_map.proofs.document.add_slots.Given as goal

-- what the keys left make of the map so far is what all make of the first
abbrev pub invariant-loop-name : goal.invariant-loop-name
invariant-loop-name l =
    each_member with_slot l.map (members_view l.name-iterator) ≡ each_member with_slot l.fn.map (members_view l.fn.table.entries)
