use Rattle.std.proofs.Common.{◌≡◌, ◌∙◌, Some, arith}
use Rattle.std.specs.Prelude.{slice_get}
use Rattle.vme_vcd_reader.proofs.Tables.{walk_begins, walk_then, walk_else, get_some_at}
use Rattle.vme_vcd_reader.proofs.table.Table.change.Goals as goal
use Rattle.vme_vcd_reader.proofs.table.Table.change.Goals.{then-row-identifier, else-row-identifier}

pub loop-link-init : goal.loop-link-init
loop-link-init c = λ linked.
    walk_begins c.args.self.now.rows.items c.args.identifier c.first-link.result c.args.bits.now c.args.bus.now (c.first-link.ensures linked)

pub loop-link-preserved : goal.loop-link-preserved
loop-link-preserved c = λ linked.
    let is : slice_get c.args.self.now.rows.items c.from.result ≡ Some c.in-Some.row.now =
    get_some_at _ _ c.from.result c.in-Some.row.now c.as_slice.ensures.value c.in-Some.ensures.lookup.3.0 c.in-Some.ensures.lookup.1 in
    elim c.if-row-identifier.branch [
      | then-row-identifier w ↦
          walk_then c.args.self.now.rows.items c.args.self.now.heads.items c.args.identifier c.loop-link.link c.from.result c.in-Some.row.now c.args.bits.now
          c.loop-link.bus c.args.bus.now _ c.loop-link.has_variable _ linked (c.loop-link.invariant linked) (omega arith) is
          w.if-row-identifier.true (w.bus-is ∙ w.change.ensures) w.has_variable-is
      | else-row-identifier w ↦
          walk_else c.args.self.now.rows.items c.args.self.now.heads.items c.args.identifier c.loop-link.link c.from.result c.in-Some.row.now c.args.bits.now
          c.loop-link.bus c.args.bus.now _ c.loop-link.has_variable _ linked (c.loop-link.invariant linked) (omega arith) is
          w.if-row-identifier.false w.bus-is w.has_variable-is
    ]

pub returns-then-link-row-clause-bus : goal.returns-then-link-row-clause-bus
returns-then-link-row-clause-bus c = λ linked.
    let is : slice_get c.args.self.now.rows.items c.from.result ≡ Some c.in-Some.row.now =
    get_some_at _ _ c.from.result c.in-Some.row.now c.as_slice.ensures.value c.in-Some.ensures.lookup.3.0 c.in-Some.ensures.lookup.1 in
    absurd (omega (arith, (linked.links c.from.result c.in-Some.row.now is).within))

pub returns-then-link-row-clause-some : goal.returns-then-link-row-clause-some
returns-then-link-row-clause-some c = λ linked.
    let is : slice_get c.args.self.now.rows.items c.from.result ≡ Some c.in-Some.row.now =
    get_some_at _ _ c.from.result c.in-Some.row.now c.as_slice.ensures.value c.in-Some.ensures.lookup.3.0 c.in-Some.ensures.lookup.1 in
    absurd (omega (arith, (linked.links c.from.result c.in-Some.row.now is).within))
