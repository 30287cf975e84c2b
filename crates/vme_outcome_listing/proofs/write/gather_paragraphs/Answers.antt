-- One more paragraph is gathered, or a prefix of it.
use Rattle.std.proofs.Common.{◌<◌, ◌+◌, ◌++◌, length, drop, arith, rules}
use Rattle.std.specs.List.{flat_map}
use Rattle.vme_io.specs.Prefixes.{AppendsPrefix}
use Rattle.vme_io.proofs.lemmas.Gathering.{so_far_more, so_far_fails}
use Rattle.vme_outcome_listing.specs.ListedTexts.{shown}
use Rattle.vme_outcome_listing.specs.Outputs.{paragraph_text}
use Rattle.vme_outcome_listing.specs.declared.paragraph.Paragraph.{Paragraph}
use Rattle.vme_outcome_listing.proofs.Outputs.{item_first}
use Rattle.vme_outcome_listing.proofs.write.gather_paragraphs.Goals as goal

pub returns-in_err-gather_paragraph-clause-gathers : goal.returns-in_err-gather_paragraph-clause-gathers
returns-in_err-gather_paragraph-clause-gathers g c =
    let text = λ (p : Paragraph). paragraph_text c.args.form (shown p) in
    let within : c.loop-paragraph.paragraph-index < length c.args.paragraphs.now = omega (arith, c.loop-paragraph-test.true) in
    let first = item_first text c.args.paragraphs.now c.loop-paragraph.paragraph-index c.paragraph-item.result within c.paragraph-item.is in
    let prefix : AppendsPrefix (g.W.Sink.contents c.args.writer.now) (g.W.Sink.contents c.gather_paragraph.new.writer)
    (c.args.text.now.items ++ flat_map text c.args.paragraphs.now)
    = so_far_fails _ _ _ _ (text c.paragraph-item.result) _
    (flat_map text (drop (c.loop-paragraph.paragraph-index + 1) c.args.paragraphs.now)) _ c.loop-paragraph.invariant.gathered first
    c.in_err-gather_paragraph.ensures.gathers in
    search rules

pub loop-paragraph-preserved : goal.loop-paragraph-preserved
loop-paragraph-preserved g c =
    let text = λ (p : Paragraph). paragraph_text c.args.form (shown p) in
    let within : c.loop-paragraph.paragraph-index < length c.args.paragraphs.now = omega (arith, c.loop-paragraph-test.true) in
    let first = item_first text c.args.paragraphs.now c.loop-paragraph.paragraph-index c.paragraph-item.result within c.paragraph-item.is in
    record {
      gathered = so_far_more _ _ _ _ _ (text c.paragraph-item.result) _
          (flat_map text (drop (c.loop-paragraph.paragraph-index + 1) c.args.paragraphs.now)) _ c.loop-paragraph.invariant.gathered first
          c.in_ok-gather_paragraph.ensures.gathers;
      mark = c.in_ok-gather_paragraph.ensures.write;
    }
