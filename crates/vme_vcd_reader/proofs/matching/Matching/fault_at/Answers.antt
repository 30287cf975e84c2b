use Rattle.std.proofs.Common.{true, false, sym, ◌∙◌}
use Rattle.vme_line_map.specs.Variables.{shown}
use Rattle.vme_vcd_reader.proofs.FaultsAt.{fault_clear}
use Rattle.vme_vcd_reader.proofs.matching.Matching.fault_at.Goals as goal

pub returns-then-is_there : goal.returns-then-is_there
returns-then-is_there c = λ ds matching found.
    let w = shown c.args.wanted.now in
    sym (fault_clear c.args.map.now ds c.args.index w true (sym found.holds.ambiguous ∙ c.if-found.false) (sym found.holds.wrong ∙ c.if-found-2.false)
    (sym (c.is_there.ensures ds w found) ∙ c.if-is_there.true))

pub returns : goal.returns
returns c = λ ds matching found.
    let w = shown c.args.wanted.now in
    c.absent_fault.ensures ds matching
    ∙ sym (fault_clear c.args.map.now ds c.args.index w false (sym found.holds.ambiguous ∙ c.if-found.false) (sym found.holds.wrong ∙ c.if-found-2.false)
    (sym (c.is_there.ensures ds w found) ∙ c.if-is_there.false))
