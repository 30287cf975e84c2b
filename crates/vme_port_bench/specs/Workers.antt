-- Defines what the threads do with their passes.
use Rattle.std.specs.Prelude.{ℕ, ◌≡◌, All}
use Rattle.vme_object.specs.declared.counter.Counter.{Counter}
use Rattle.vme_object.specs.declared.counter.CounterCmd.{CounterCmd}
use Rattle.vme_object.specs.declared.counter.CounterCmd.TheVariants.{Bump}
use Rattle.vme_port.specs.declared.port.Port.{Port}
use Rattle.vme_port.specs.Passes.{PassView}
use Rattle.vme_port.specs.Ports.{IsPassOf}
use Rattle.vme_port_bench.specs.declared.worker.CallsOf.{CallsOf}

-- a pass of the port made n entries, and all its entries are increments
pub record HasBumped (port : Port Counter CounterCmd ℕ) (n : ℕ) (p : PassView CounterCmd ℕ) : Type 0 where
  pub of_port : IsPassOf port p
  pub count : p.made ≡ n
  pub bumps : All (λ e. e.cmd ≡ Bump) p.mine

-- two promises have the same port and the same number of calls
abbrev pub IsSameWork : CallsOf → CallsOf → Type 0
IsSameWork a b = (a.port.now ≡ b.port.now) × (a.calls ≡ b.calls)
