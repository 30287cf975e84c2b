use Rattle.std.proofs.Common.{◌≡◌, ◌++◌, drop}
use Rattle.vme_answers.specs.Starting.{rows_from, end_from}
use Rattle.vme_answers.proofs.starting.rows_of.Given as goal

abbrev pub invariant-loop-board : goal.invariant-loop-board
invariant-loop-board l = record {
  rows : rows_from 0 l.boards ≡ l.rows.items ++ rows_from l.start (drop l.board-index l.boards);
  len : end_from 0 l.boards ≡ end_from l.start (drop l.board-index l.boards);
}
