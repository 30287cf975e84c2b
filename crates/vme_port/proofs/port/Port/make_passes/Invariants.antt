use Rattle.std.proofs.Common.{◌≡◌, ◌≤◌, vec_len, vec_capacity}
use Rattle.vme_object.specs.Each.{Each}
use Rattle.vme_port.specs.Views.{Represents}
use Rattle.vme_port.specs.Passes.{IsUnused}
use Rattle.vme_port.specs.Ports.{port_id, passes_of}
use Rattle.vme_port.proofs.port.Port.make_passes.Given as goal

-- the earlier passes are made, and the seat represents the others
abbrev pub invariant-loop-who : goal.invariant-loop-who
invariant-loop-who g l = (l.seat.table_id ≡ port_id l.self) × Represents (passes_of l.self) l.who l.seat.me × (vec_len l.passes ≡ l.who)
    × (passes_of l.self ≤ vec_capacity l.passes) × Each (λ i p. IsUnused (port_id l.self) i p) l.passes.items
