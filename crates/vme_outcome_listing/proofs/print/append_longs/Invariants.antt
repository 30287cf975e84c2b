use Rattle.std.proofs.Common.{◌≡◌, ◌+◌, ◌++◌, map, drop}
use Rattle.vme_outcome_listing.specs.ListedTexts.{shown}
use Rattle.vme_outcome_listing.specs.Outputs.{longs_text}
use Rattle.vme_outcome_listing.proofs.print.append_longs.Given as goal

-- the text so far, with what is said of the outcomes that are left, is the whole text
abbrev pub invariant-loop-paragraph : goal.invariant-loop-paragraph
invariant-loop-paragraph l = record {
  count : l.number ≡ l.paragraph-index;
  text : l.text.items ++ longs_text (l.paragraph-index + 1) (map shown (drop l.paragraph-index l.paragraphs))
      ≡ l.fn.text.items ++ longs_text 1 (map shown l.paragraphs);
}
