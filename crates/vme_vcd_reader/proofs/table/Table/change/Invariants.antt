use Rattle.vme_vcd_reader.specs.Tables.{IsLinked}
use Rattle.vme_vcd_reader.proofs.Tables.{IsWalked}
use Rattle.vme_vcd_reader.proofs.table.Table.change.Given as goal

-- the variables from the link on were walked through
abbrev pub invariant-loop-link : goal.invariant-loop-link
invariant-loop-link l =
    IsLinked l.self.rows.items l.self.heads.items → IsWalked l.self.rows.items l.identifier l.bits l.bus l.fn.bus l.link l.has_variable

abbrev pub decreases-loop-link : goal.decreases-loop-link
decreases-loop-link l = l.link
