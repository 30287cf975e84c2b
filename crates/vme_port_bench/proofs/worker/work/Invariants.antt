use Rattle.std.proofs.Common.{◌≡◌, All}
use Rattle.vme_object.specs.declared.counter.CounterCmd.TheVariants.{Bump}
use Rattle.vme_port.specs.Ports.{IsPassOf}
use Rattle.vme_port_bench.proofs.worker.work.Given as goal

-- the pass stays a pass of the port and makes only increments
abbrev pub invariant-loop : goal.invariant-loop
invariant-loop g l = IsPassOf l.port l.pass × All (λ e. e.cmd ≡ Bump) l.pass.mine
