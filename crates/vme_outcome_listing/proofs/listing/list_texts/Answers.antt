use Rattle.std.proofs.Common.{rules, ◌≡◌, []}
use Rattle.std.specs.Prelude.{option_map}
use Rattle.vme_outcome_listing.proofs.Listings.{listing_is, answers_are}
use Rattle.vme_outcome_listing.proofs.listing.list_texts.Goals as goal

pub returns-clause-texts : goal.returns-clause-texts
returns-clause-texts c =
    listing_is c.args.config.now (option_map (λ k. k.now) c.args.kept) c.args.claims.now c.args.outcomes.now c.in_ok-paragraphs.paragraphs.items c.sort.new.self.items c.dedup.new.self.items
    c.requires c.in_ok-paragraphs.ensures.texts c.sort.ensures.permutation c.in_ok-sort.ensures.sorted c.dedup.ensures.filtered

pub returns-clause-answers : goal.returns-clause-answers
returns-clause-answers c =
    let none : c.new-answers.result.items ≡ [] = search rules in
    answers_are c.args.config.now (option_map (λ k. k.now) c.args.kept) c.args.outcomes.now c.in_ok-paragraphs.paragraphs.items c.sort.new.self.items c.args.claims.now
    c.new-answers.result.items c.append_answers.new.text.items c.in_ok-holds.holds c.requires c.in_ok-paragraphs.ensures.outcomes
    c.sort.ensures.permutation none
    (rw c.as_slice.ensures.value at c.in_ok-holds.ensures.text) (rw c.as_slice.ensures.value at c.in_ok-holds.ensures.holds)
