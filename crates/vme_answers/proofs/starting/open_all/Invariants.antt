use Rattle.std.proofs.Common.{◌≡◌, drop}
use Rattle.vme_answers.specs.Starting.{all_opened}
use Rattle.vme_answers.proofs.starting.open_all.Given as goal

abbrev pub invariant-loop-range : goal.invariant-loop-range
invariant-loop-range l = all_opened l.rows l.opens l.fn.bytes ≡ all_opened l.rows (drop l.range-index l.opens) l.bytes
