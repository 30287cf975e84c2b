use Rattle.std.proofs.Common.{◌≡◌, ◌++◌, false, drop}
use Rattle.std.specs.List.{flat_map}
use Rattle.vme_io.proofs.lemmas.Gathering.{SoFar}
use Rattle.vme_outcome_listing.specs.ListedTexts.{shown}
use Rattle.vme_outcome_listing.specs.Outputs.{paragraph_text}
use Rattle.vme_outcome_listing.proofs.write.gather_paragraphs.Given as goal

-- the paragraphs so far, with those that are left, are the whole text
abbrev pub invariant-loop-paragraph : goal.invariant-loop-paragraph
invariant-loop-paragraph g l = record {
  gathered : SoFar (g.W.Sink.contents l.fn.writer) (g.W.Sink.contents l.writer) l.text.items
      (flat_map (λ p. paragraph_text l.form (shown p)) (drop l.paragraph-index l.paragraphs))
      (l.fn.text.items ++ flat_map (λ p. paragraph_text l.form (shown p)) l.fn.paragraphs);
  mark : g.W.Sink.is_marked l.writer ≡ false;
}
