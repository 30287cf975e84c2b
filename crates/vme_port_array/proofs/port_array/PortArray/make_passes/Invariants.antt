use Rattle.std.proofs.Common.{◌≡◌, ◌≤◌, vec_len, vec_capacity}
use Rattle.vme_object.specs.Each.{Each}
use Rattle.vme_port_array.specs.Views.{Represents}
use Rattle.vme_port.specs.Passes.{IsUnused}
use Rattle.vme_port_array.specs.Arrays.{array_id, passes_of}
use Rattle.vme_port_array.proofs.port_array.PortArray.make_passes.Given as goal

-- the passes below this number are made, and the seat stands for the others
abbrev pub invariant-loop-who : goal.invariant-loop-who
invariant-loop-who g l = (l.seat.table_id ≡ array_id l.self) × Represents (passes_of l.self) l.who l.seat.me × (vec_len l.passes ≡ l.who)
    × (passes_of l.self ≤ vec_capacity l.passes) × Each (λ i p. IsUnused (array_id l.self) i p) l.passes.items
