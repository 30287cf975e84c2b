use Rattle.std.proofs.Common.{◌≡◌, length, ◌∙◌, arith}
use Rattle.vme_vcd_reader.proofs.Adding.{linked_none}
use Rattle.vme_vcd_reader.proofs.table.Table.begin.Goals as goal

pub returns-clause-linked : goal.returns-clause-linked
returns-clause-linked c = λ rows heads.
    let all : length c.loop-place.self.heads.items ≡ 2048 = omega (arith, (c.loop-place.invariant.lists heads).0) in
    linked_none c.loop-place.self.rows.items c.loop-place.self.heads.items (c.loop-place.invariant.rows ∙ rows) all
    (c.loop-place.invariant.lists heads).1
