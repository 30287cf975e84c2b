use Rattle.std.proofs.Common.{◌≡◌, map, take}
use Rattle.vme_grammar.specs.Texts.{output_line}
use Rattle.vme_outcome_listing.specs.Conditions.{AreNamed, lines_in}
use Rattle.vme_outcome_listing.proofs.names.alternatives.Given as goal

-- the lines so far are the texts so far
abbrev pub invariant-loop-text : goal.invariant-loop-text
invariant-loop-text l = record {
  texts : lines_in l.wanted.items ≡ map output_line (map (λ text. text.now) (take l.text-index l.texts));
  named : AreNamed l.config l.wanted.items;
}
