use Rattle.std.proofs.Common.{◌≡◌, ◌++◌, ◌&&◌, map, drop}
use Rattle.std.specs.List.{flat_map}
use Rattle.vme_outcome_listing.specs.ListedTexts.{listed_of}
use Rattle.vme_outcome_listing.specs.Conditions.{condition_text, all_hold}
use Rattle.vme_outcome_listing.proofs.listing.append_answers.Given as goal

-- the text so far, with that of the conditions that are left, is the whole text; so is whether they hold
abbrev pub invariant-loop-claim : goal.invariant-loop-claim
invariant-loop-claim l = record {
  text : l.text.items ++ flat_map (condition_text (map listed_of l.paragraphs)) (drop l.claim-index l.claims)
      ≡ l.fn.text.items ++ flat_map (condition_text (map listed_of l.paragraphs)) l.claims;
  holds : (l.all_hold && all_hold (drop l.claim-index l.claims) (map listed_of l.paragraphs)) ≡ all_hold l.claims (map listed_of l.paragraphs);
}
