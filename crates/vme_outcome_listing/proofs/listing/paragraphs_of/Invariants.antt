use Rattle.std.proofs.Common.{◌≡◌, map, take}
use Rattle.std.specs.Prelude.{option_map}
use Rattle.vme_outcome_listing.specs.ListedTexts.{shown, text_of, listed_of}
use Rattle.vme_outcome_listing.proofs.listing.paragraphs_of.Given as goal

-- the paragraphs so far are those of the outcomes so far
abbrev pub invariant-loop-outcome : goal.invariant-loop-outcome
invariant-loop-outcome l = record {
  texts : map shown l.paragraphs.items ≡ map (text_of l.config (option_map (λ k. k.now) l.kept)) (take l.outcome-index l.outcomes);
  outcomes : map listed_of l.paragraphs.items ≡ take l.outcome-index l.outcomes;
}
