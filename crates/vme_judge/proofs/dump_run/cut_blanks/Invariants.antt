use Rattle.std.proofs.Common.{take}
use Rattle.vme_judge.specs.Blanks.{AreBlanks}
use Rattle.vme_judge.proofs.dump_run.cut_blanks.Given as goal

-- the bytes so far are blanks
abbrev pub invariant-loop-index : goal.invariant-loop-index
invariant-loop-index l = AreBlanks (take l.index l.bytes)
