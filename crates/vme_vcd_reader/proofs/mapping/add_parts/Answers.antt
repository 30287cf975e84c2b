use Rattle.std.proofs.Common.{sym, ◌∙◌}
use Rattle.vme_line_map.specs.Variables.{shown}
use Rattle.vme_vcd_reader.specs.Matches.{line_of}
use Rattle.vme_vcd_reader.proofs.AddingLines.{too_many}
use Rattle.vme_vcd_reader.proofs.mapping.add_parts.Goals as goal

pub returns-then-not-branch-clause-fault : goal.returns-then-not-branch-clause-fault
returns-then-not-branch-clause-fault c = λ linked.
    too_many c.loop-part.table.rows.items (line_of c.args.a01 (shown c.args.wanted.now)) c.args.parts.now c.loop-part.part-index _
    (sym (c.in_ok-add.ensures.full (c.loop-part.invariant.linked linked)) ∙ c.if-not-branch.true) c.loop-part-test.true c.loop-part.invariant.added
