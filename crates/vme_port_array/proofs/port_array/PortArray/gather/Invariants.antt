use Rattle.std.proofs.Common.{◌≡◌, All, vec_len}
use Rattle.vme_port_array.specs.Arrays.{array_id, IsPassOf}
use Rattle.vme_port_array.proofs.Gathers.{IsGathered}
use Rattle.vme_port_array.proofs.port_array.PortArray.gather.Given as goal

-- the passes behind those that are left are joined
abbrev pub invariant-loop-pass : goal.invariant-loop-pass
invariant-loop-pass g l = (l.joined.table_id ≡ array_id l.self) × All (IsPassOf l.self) l.passes.items × IsGathered l.fn.passes.items l.passes.items l.joined.me

-- each round joins one pass
abbrev pub decreases-loop-pass : goal.decreases-loop-pass
decreases-loop-pass g l = vec_len l.passes
