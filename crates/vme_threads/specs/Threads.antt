-- Defines what the threads of a run promise.
use Rattle.std.specs.Prelude.{ℕ, ◌≡◌}
use Rattle.vme_script.specs.Configurations.{Configuration}
use Rattle.vme_threads.specs.declared.ports.Ports.{Ports}
use Rattle.vme_threads.specs.declared.threads.WorkerPromise.{WorkerPromise}

-- a thread promised to run worker `who_is`, with this configuration and these ports
pub record IsPromiseOf (config_is : Configuration) (ports_are : Ports) (who_is : ℕ) (p : WorkerPromise) : Type 0 where
  pub config : p.config.now ≡ config_is
  pub ports : p.ports.now ≡ ports_are
  pub who : p.who ≡ who_is
