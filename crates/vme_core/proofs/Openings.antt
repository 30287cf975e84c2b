-- Boards before their first step.
use Rattle.std.proofs.Common.{◌≡◌, ℕ, List, length, map, All, refl}
use Rattle.std.proofs.lemmas.List.Elements.{All-map}
use Rattle.vme_memory.specs.Boards.{Board}
use Rattle.vme_arbiter.specs.Arbitration.{Arbitration}
use Rattle.vme_core.specs.CountedStates.{CountedState, fresh_count}

-- each board has counts for as many processors as the arbiter
pub fresh_made :
    (k : ℕ) (boards : List (CountedState Board)) (memories : List Board) (bus : CountedState Arbitration) (free : Arbitration)
    → boards ≡ map (fresh_count k) memories → bus ≡ fresh_count k free → All (λ b. length b.made ≡ length bus.made) boards
fresh_made k boards memories bus free made is =
    rw made (All-map (λ b. length b.made ≡ length bus.made) (fresh_count k) memories (λ i d i<. rw is refl))
