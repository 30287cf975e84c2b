use Rattle.std.proofs.Common.{◌≡◌, map, take}
use Rattle.std.specs.Prelude.{All}
use Rattle.vme_outcome_listing.specs.Conditions.{AreNamed, lines_in, alternatives_of}
use Rattle.vme_outcome_listing.proofs.names.lines_of.Given as goal

-- what is wanted so far is what the lines so far say
abbrev pub invariant-loop-line : goal.invariant-loop-line
invariant-loop-line l = record {
  texts : map lines_in (map (λ a. a.items) l.wanted.items) ≡ map alternatives_of (map (λ line. line.now) (take l.line-index l.lines));
  named : All (AreNamed l.config) (map (λ a. a.items) l.wanted.items);
}
