use Rattle.std.proofs.Common.{◌≡◌, drop}
use Rattle.vme_vcd_reader.specs.Presences.{presence_of, with_each}
use Rattle.vme_vcd_reader.specs.Tables.{variables_of}
use Rattle.vme_vcd_reader.proofs.table.Table.presence.Given as goal

-- the variables from the index on are left
abbrev pub invariant-loop-row : goal.invariant-loop-row
invariant-loop-row l = with_each l.presence (variables_of (drop l.row-index l.row-items)) ≡ presence_of (variables_of l.row-items)
