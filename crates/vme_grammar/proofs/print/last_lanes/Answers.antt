-- The digits of the last four data lanes are their text.
use Rattle.std.proofs.Common.{◌≡◌, length, false, ap, ◌∙◌, rules}
use Rattle.vme_grammar.specs.Texts.{lanes_text, printed_lanes}
use Rattle.vme_grammar.proofs.Lanes.{last_four}
use Rattle.vme_grammar.proofs.print.last_lanes.Goals as goal

pub returns : goal.returns
returns c =
    let len : length c.lanes.result ≡ 8 = search rules in
    last_four c.lanes.result c.lane_digits-first.result c.lane_digits-second.result c.lane_digits-third.result c.lane_digits-last.result len
    c.lane_digits-first.ensures c.lane_digits-second.ensures c.lane_digits-third.ensures c.lane_digits-last.ensures
    ∙ ap (λ lanes. lanes_text (printed_lanes false lanes)) c.lanes.ensures
