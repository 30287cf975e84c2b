-- The words of the flags and the bytes of the lanes have these lanes.
use Rattle.std.proofs.Common.{ap, ◌∙◌}
use Rattle.vme_lanes.specs.Words.{word_of}
use Rattle.vme_lanes.proofs.lemmas.Words.{words_lanes, words_of_lanes}
use Rattle.vme_lanes.proofs.lines.DataLines.of.Goals as goal

pub invariant_of-result : goal.invariant_of-result
invariant_of-result c =
    words_of_lanes
    _
    c.args.lanes
    (c.word-2.ensures.value ∙ ap word_of c.flags_of.ensures)
    (c.word.ensures.value ∙ ap word_of c.bytes_of.ensures)
    (c.word-2.ensures.bytes ∙ c.flags_of.ensures)
    (c.word.ensures.bytes ∙ c.bytes_of.ensures)

pub returns : goal.returns
returns c =
    words_lanes _ c.args.lanes (c.word-2.ensures.bytes ∙ c.flags_of.ensures) (c.word.ensures.bytes ∙ c.bytes_of.ensures)
