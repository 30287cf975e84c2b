use Rattle.std.proofs.Common.{◌≡◌, drop}
use Rattle.vme_outcome_listing.specs.Looks.{begin_alike}
use Rattle.vme_outcome_listing.proofs.seen.begin_alike.Given as goal

-- what is left begins alike exactly if all does
abbrev pub invariant-loop-byte : goal.invariant-loop-byte
invariant-loop-byte l = begin_alike (drop l.byte-index l.one) l.rest ≡ begin_alike l.one l.other
