-- The accesses of local ports.
use Rattle.std.specs.Prelude.{ℕ, Bool, not, ◌==◌, ◌||◌, if◌then◌else◌, Option, Some, None, Result, Ok, Err}
use Rattle.vme_protocol.specs.declared.rule.Rule.{Rule}
use Rattle.vme_protocol.specs.declared.rule.Rule.TheVariants.{PortUndefined}
use Rattle.vme_protocol.specs.declared.port.Port.{Port}
use Rattle.vme_protocol.specs.declared.port.Local.{Local}

-- the number of bytes on some lanes, a bit for each: one, two or four low ones
abbrev pub len_by : ℕ → Option ℕ
len_by lanes = if lanes == 1 then Some 1 else if lanes == 3 then Some 2 else if lanes == 15 then Some 4 else None

-- the access of a port with so many bytes
abbrev pub local_with : Port → Option ℕ → Option Local
local_with port None = None
local_with port (Some len) = Some (record { write = port.write; offset = port.offset; len = len; «data» = port.data })

-- the access that a port shows, if it shows some bytes
abbrev pub local_in : Port → Option Local
local_in port = local_with port (len_by port.lanes)

-- an access, if it is defined
abbrev pub defined : Bool → Option Local → Result (Option Local) Rule
defined undefined None = Err PortUndefined
defined undefined (Some local) = if undefined then Err PortUndefined else Ok (Some local)

-- J17: the access that a port has done between two samples, if it has: it may not answer with an undefined offset,
-- direction or byte
abbrev pub local_between : Port → Port → Result (Option Local) Rule
local_between before after = if before.done || not after.done then Ok None else defined after.undefined (local_in after)
