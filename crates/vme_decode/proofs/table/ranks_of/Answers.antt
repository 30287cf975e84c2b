-- Before the first row all places have the greatest number, and after the last the ranks are those of the rows.
use Rattle.std.proofs.Common.{arith}
use Rattle.vme_decode.proofs.Ranks.{no_ranks, all_ranks}
use Rattle.vme_decode.proofs.table.ranks_of.Goals as goal

pub loop-place-init : goal.loop-place-init
loop-place-init c = no_ranks _

pub returns : goal.returns
returns c = all_ranks _ _ _ (omega arith) (omega arith) c.loop-place.invariant
