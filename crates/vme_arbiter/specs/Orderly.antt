-- The invariant of the arbiter's states.
use Rattle.std.specs.Prelude.{◌≡◌, ◌<◌, false, IsTrue, List, [], ◌∷◌, None, IfSome, All}
use Rattle.vme_arbiter.specs.declared.kind.ArbiterKind.TheVariants.{Priority}
use Rattle.vme_arbiter.specs.Requests.{BusRequest, is_slot, is_level}
use Rattle.vme_arbiter.specs.Arbitration.{Arbitration, pends}

-- requests are sorted by slot, and no slot has two
abbrev pub IsBySlot : List BusRequest → Type 0
IsBySlot [] = Unit {0}
IsBySlot (r ∷ pending) = All (λ later. r.slot < later.slot) pending × IsBySlot pending

-- the holder, if any, is in range and has no pending request
abbrev pub IsLawfulHolder : Arbitration → Type 0
IsLawfulHolder bus = IfSome bus.holder (λ slot. IsTrue (is_slot slot) × (pends bus slot ≡ false))

-- the slot and the level of a request are in range
abbrev pub IsLawfulRequest : BusRequest → Type 0
IsLawfulRequest r = IsTrue (is_slot r.slot) × IsTrue (is_level r.level)

-- a state is orderly: the first level is in range, and 3 by priority; the holder is valid; the requests are in range
-- and sorted by slot; none is pending while the bus is free
pub record IsOrderly (bus : Arbitration) : Type 0 where
  pub first : IsTrue (is_level bus.first)
  pub priority : bus.kind ≡ Priority → bus.first ≡ 3
  pub holder : IsLawfulHolder bus
  pub requests : All IsLawfulRequest bus.pending
  pub by_slot : IsBySlot bus.pending
  pub free : bus.holder ≡ None → bus.pending ≡ []
