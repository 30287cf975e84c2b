-- A service before its first line.
use Rattle.std.proofs.Common.{◌≡◌, ℕ, ◌-◌, ◌^◌, List, length, map, ap, ◌∙◌, arith}
use Rattle.std.proofs.lemmas.List.{length-map, length-replicate}
use Rattle.vme_memory.specs.Boards.{Board}
use Rattle.vme_arbiter.specs.Arbitration.{Arbitration}
use Rattle.vme_core.specs.Runs.{Machine}
use Rattle.vme_core.specs.CountedStates.{fresh_count}
use Rattle.vme_core.specs.Machines.{opening}
use Rattle.vme_script.specs.Configurations.{Configuration, opening_memory}
use Rattle.vme_script.specs.Lawful.{IsLawful}
use Rattle.vme_serve.specs.Services.{IsSound}
use Rattle.vme_serve.proofs.Counts.{fresh_steps}

-- a service before its first line is sound
pub opens_soundly : (config : Configuration) (machine : Machine) (memories : List Board) (bus : Arbitration) (k : ℕ) → IsLawful config
    → machine ≡ opening memories bus k → memories ≡ map opening_memory config.boards → k ≡ length config.boards
    → IsSound (record { config = config; machine = machine; left = 2 ^ 64 - 1 })
opens_soundly config machine memories bus k lawful is same count = record {
  lawful = lawful;
  boards = ap (λ (m : Machine). length m.boards) is ∙ length-map memories (fresh_count k) ∙ ap length same
      ∙ length-map config.boards opening_memory;
  process_count = ap (λ (m : Machine). length m.bus.made) is ∙ length-replicate k 0 ∙ count;
  steps = record {
    most = 0;
    within = fresh_steps memories machine k (ap (λ (m : Machine). m.boards) is) (ap (λ (m : Machine). m.bus.steps) is);
    sum = omega arith;
  };
}
