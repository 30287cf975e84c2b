use Rattle.vme_decode.proofs.Halving.{IsHalved}
use Rattle.vme_decode.proofs.table.count_up_to.Given as goal

-- 2 * step - 1 ranks remain to be searched, from the count on
abbrev pub invariant-loop-step : goal.invariant-loop-step
invariant-loop-step l = IsHalved l.ranks l.top l.count l.step

abbrev pub decreases-loop-step : goal.decreases-loop-step
decreases-loop-step l = l.step
