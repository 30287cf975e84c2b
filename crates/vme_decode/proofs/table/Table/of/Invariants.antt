use Rattle.vme_decode.proofs.Rows.{HasRows}
use Rattle.vme_decode.proofs.table.Table.of.Given as goal

-- the rows so far are those of the entries so far
abbrev pub invariant-loop-place : goal.invariant-loop-place
invariant-loop-place l = HasRows l.entries l.place l.rows.items
