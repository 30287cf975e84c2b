-- Replies of slaves, as C has them.
use Rattle.std.specs.Prelude.{◌≡◌, ℕ, []}
use Rattle.vme_memory.specs.declared.reply.Reply.{Reply}
use Rattle.vme_memory.specs.declared.reply.Reply.TheVariants.{Bytes, Done, Berr}
use Rattle.vme_c_types.specs.declared.datum.VmeDatum.{VmeDatum}
use Rattle.vme_c_types.specs.Data.{datum_of, datum_struct}
use Rattle.vme_c_types.specs.Results.{ok, bus_error}

-- the result of a slave's reply: DTACK* or BERR*
abbrev pub result_of : Reply → ℕ
result_of (Bytes datum) = ok
result_of Done = ok
result_of Berr = bus_error

-- what a reply writes to the struct for its bytes: the bytes that were read, none after a write, and nothing after a bus
-- error; `n` is the exact number of bytes, and zeros follow them
abbrev pub Writes : Reply → VmeDatum → VmeDatum → Type 0
Writes (Bytes datum) old new = (datum_of new ≡ datum.items) × (new ≡ datum_struct datum.items)
Writes Done old new = (datum_of new ≡ []) × (new ≡ datum_struct [])
Writes Berr old new = new ≡ old
