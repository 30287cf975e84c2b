use Rattle.std.proofs.Common.{◌≡◌, All, vec_len}
use Rattle.vme_port.specs.Ports.{port_id, IsPassOf}
use Rattle.vme_port.proofs.Gathers.{IsGathered}
use Rattle.vme_port.proofs.port.Port.gather.Given as goal

-- the passes that were removed from the vector are joined
abbrev pub invariant-loop-pass : goal.invariant-loop-pass
invariant-loop-pass g l = (l.all.table_id ≡ port_id l.self) × All (IsPassOf l.self) l.passes.items × IsGathered l.fn.passes.items l.passes.items l.all.me

abbrev pub decreases-loop-pass : goal.decreases-loop-pass
decreases-loop-pass g l = vec_len l.passes
