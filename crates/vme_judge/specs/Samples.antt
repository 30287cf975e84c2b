-- The samples that a line of a bus log shows: the lines of a datum, with its strobes and its answer one after another.
use Rattle.std.specs.Prelude.{ℕ, ◌-◌, ◌*◌, ◌^◌, ◌%◌, bit_and, bit_or, Bool, true, false, not, ◌==◌, if◌then◌else◌, List, [], ◌∷◌, Option, Some, None}
use Rattle.std.specs.Option.{unwrap_or}
use Rattle.vme_protocol.specs.declared.sample.Sample.{Sample}
use Rattle.vme_bus_log.specs.declared.entry.LogDatum.{LogDatum}

-- the bit of the slot that drives BBSY*, if it is known: the lowest for slot 1
abbrev pub driver_bit : Option ℕ → ℕ
driver_bit None = 0
driver_bit (Some slot) = if slot == 0 then 0 else (2 ^ ((slot - 1) % 32)) % 2 ^ 32

-- A31 to A01, and LWORD* below them
abbrev pub address_lines : LogDatum → ℕ
address_lines d = bit_or (bit_or d.address (if d.a01 then 2 else 0)) (if d.lword then 1 else 0)

-- the address lines above D31 to D00
abbrev pub lines_of : LogDatum → ℕ
lines_of d = bit_or ((address_lines d * 2 ^ 32) % 2 ^ 64) (bit_and d.lines 0xffffffff)

-- the lines of a datum with no strobe and no answer; AS* is as it is given. IACK* is high, no line is requested or granted
unfoldable pub quiet : LogDatum → Bool → Sample
quiet d address_strobe = record {
  time = unwrap_or d.time 0;
  address_strobe = address_strobe;
  ds1 = true;
  ds0 = true;
  dtack = true;
  berr = true;
  iack = true;
  busy = driver_bit d.slot == 0;
  undefined = false;
  write = d.write;
  write_undefined = false;
  am = d.am;
  am_undefined = false;
  lines = lines_of d;
  lines_undefined = bit_and d.idle 0xffffffff;
  drivers = driver_bit d.slot;
  requests = 0;
  grants = 0;
}

-- a sample with the eight-byte data of a datum on all lines, if the datum has them
abbrev pub with_data : LogDatum → Sample → Sample
with_data d s = if d.is_wide then record s { lines = d.lines; lines_undefined = d.idle } else s

-- the strobes of a datum have fallen
abbrev pub strobed : LogDatum → Sample → Sample
strobed d s = record s { ds1 = d.ds1; ds0 = d.ds0 }

-- one answer is low: DTACK* or BERR*
abbrev pub answered : Bool → Sample → Sample
answered acknowledged s = record s { dtack = not acknowledged; berr = acknowledged }

-- both strobes are high again
abbrev pub released : Sample → Sample
released s = record s { ds1 = true; ds0 = true }

-- a handshake: no strobe, the strobes fall, the answer falls, the strobes rise, the answer rises
unfoldable pub handshake_samples : LogDatum → Sample → Bool → List Sample
handshake_samples d s acknowledged =
    s ∷ strobed d s ∷ answered acknowledged (strobed d s) ∷ released (answered acknowledged (strobed d s)) ∷ s ∷ []

-- a transfer begins: AS* is high, then low
abbrev pub fall_samples : LogDatum → List Sample
fall_samples d = quiet d true ∷ quiet d false ∷ []

-- eight-byte data come after an address phase, which DTACK* answers
abbrev pub address_samples : LogDatum → List Sample
address_samples d = if d.is_wide then handshake_samples d (quiet d false) true else []

-- the handshake of a datum
abbrev pub datum_samples : LogDatum → List Sample
datum_samples d = handshake_samples d (with_data d (quiet d false)) d.is_acknowledged
