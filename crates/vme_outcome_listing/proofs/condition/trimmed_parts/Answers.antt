use Rattle.std.proofs.Common.{rules, ◌≡◌, ◌∷◌}
use Rattle.vme_outcome_listing.specs.Conditions.{parts_of}
use Rattle.vme_outcome_listing.proofs.Parts.{part_taken, one_part, line_pushed, all_pushed}
use Rattle.vme_outcome_listing.proofs.condition.trimmed_parts.Goals as goal

pub loop-part-preserved : goal.loop-part-preserved
loop-part-preserved c =
    let cut = c.in-Some.ensures.byte c.requires (λ w o found. found) in
    let first : parts_of c.args.end c.loop-part.rest.now ≡ c.in-Some.part.now ∷ parts_of c.args.end c.in-Some.more.now
    = rw (cut.0, cut.1) (part_taken c.args.end c.loop-part.rest.now cut.2) in (
      search rules,
      line_pushed c.args.end c.loop-part.parts.items c.push.new.self.items c.trim.result c.in-Some.part.now c.in-Some.more.now c.loop-part.rest.now
          c.args.text.now c.in_ok-push.ensures.items c.trim.ensures.trim first c.loop-part.invariant.1,
    )

pub returns : goal.returns
returns c =
    let none = (rw c.in_default.is at c.split_once.ensures.byte) c.requires (λ w o found. found) in
    all_pushed c.args.end c.loop-part.parts.items c.push-2.new.self.items c.trim-2.result c.loop-part.rest.now c.args.text.now c.in_ok-push-2.ensures.items
    c.trim-2.ensures.trim (one_part c.args.end c.loop-part.rest.now none) c.loop-part.invariant.1
