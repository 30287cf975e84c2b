-- The digits of all data lanes are their text.
use Rattle.std.proofs.Common.{◌≡◌, length, true, ap, ◌∙◌, rules}
use Rattle.vme_grammar.specs.Texts.{lanes_text, printed_lanes}
use Rattle.vme_grammar.proofs.Lanes.{all_eight}
use Rattle.vme_grammar.proofs.print.all_lanes.Goals as goal

pub returns : goal.returns
returns c =
    let len : length c.lanes.result ≡ 8 = search rules in
    all_eight c.lanes.result c.lane_digits-first.result c.lane_digits-second.result c.lane_digits-third.result c.lane_digits-fourth.result
    c.lane_digits-fifth.result c.lane_digits-sixth.result c.lane_digits-seventh.result c.lane_digits-last.result len
    c.lane_digits-first.ensures c.lane_digits-second.ensures c.lane_digits-third.ensures c.lane_digits-fourth.ensures
    c.lane_digits-fifth.ensures c.lane_digits-sixth.ensures c.lane_digits-seventh.ensures c.lane_digits-last.ensures
    ∙ ap (λ lanes. lanes_text (printed_lanes true lanes)) c.lanes.ensures
