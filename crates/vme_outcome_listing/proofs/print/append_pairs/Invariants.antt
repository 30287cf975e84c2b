use Rattle.std.proofs.Common.{◌≡◌, ◌++◌, drop}
use Rattle.std.specs.List.{flat_map}
use Rattle.vme_outcome_listing.specs.Schedules.{next_pair_text}
use Rattle.vme_outcome_listing.proofs.print.append_pairs.Given as goal

-- the text so far, with that of the pairs that are left, is the whole text
abbrev pub invariant-loop-pair : goal.invariant-loop-pair
invariant-loop-pair l = l.text.items ++ flat_map next_pair_text (drop l.pair-index l.rest) ≡ l.initial.text.items ++ flat_map next_pair_text l.rest
