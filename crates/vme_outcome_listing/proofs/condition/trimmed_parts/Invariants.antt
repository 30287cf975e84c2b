use Rattle.std.proofs.Common.{◌≡◌, map, ◌++◌, length}
use denote.Text.{Utf8}
use denote.Shadow.{shadow}
use Rattle.vme_outcome_listing.specs.Conditions.{trimmed_parts}
use Rattle.vme_outcome_listing.proofs.condition.trimmed_parts.Given as goal

-- the parts so far, and those of the rest, are all
abbrev pub invariant-loop-part : goal.invariant-loop-part
invariant-loop-part l =
    shadow (Utf8 l.rest) × (map (λ part. part.now) l.parts.items ++ trimmed_parts l.end l.rest ≡ trimmed_parts l.end l.fn.text)

abbrev pub decreases-loop-part : goal.decreases-loop-part
decreases-loop-part l = length l.rest
