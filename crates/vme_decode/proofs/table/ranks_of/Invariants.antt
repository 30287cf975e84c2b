use Rattle.vme_decode.proofs.Ranks.{HasRanksBelow}
use Rattle.vme_decode.proofs.table.ranks_of.Given as goal

-- the places so far have the ranks of their rows, and all other places the greatest number
abbrev pub invariant-loop-place : goal.invariant-loop-place
invariant-loop-place l = HasRanksBelow l.rows l.place l.ranks
