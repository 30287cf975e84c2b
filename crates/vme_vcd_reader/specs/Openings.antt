-- What is known before the first change of a dump.
use Rattle.std.specs.Prelude.{ℕ, ◌-◌, ◌^◌, Bool, true, false, [], replicate, None}
use Rattle.vme_protocol.specs.declared.sample.Sample.{Sample}
use Rattle.vme_vcd_reader.specs.declared.bus.BusLines.{BusLines}
use Rattle.vme_vcd_reader.specs.Bodies.{Reading}
use Rattle.vme_vcd_reader.specs.Buses.{idle_port}
use Rattle.vme_vcd_reader.specs.Words.{Statement}

-- a sample whose control lines are high: all other lines are undefined, and no slot drives any
abbrev pub resting_sample : Sample
resting_sample = record {
  time = 0;
  address_strobe = true;
  ds1 = true;
  ds0 = true;
  dtack = true;
  berr = true;
  iack = true;
  busy = true;
  undefined = false;
  write = true;
  write_undefined = true;
  am = 0;
  am_undefined = true;
  lines = 0;
  lines_undefined = 2 ^ 64 - 1;
  drivers = 0;
  requests = 0;
  grants = 0;
}

-- the lines of the bus before any change
unfoldable pub resting : BusLines
resting = record {
  sample = resting_sample;
  undefined = 0;
  idle_modifier = 63;
  undefined_drivers = 0;
  undefined_requests = replicate 4 0;
  undefined_grants = replicate 4 0;
  requests = replicate 4 0;
  grants = replicate 4 0;
  ports = replicate 21 idle_port;
  changed_ports = 0;
  has_busy = false;
}

-- a body before its first byte, by whether the header names BBSY* of the bus, and the line of the text that has the byte
abbrev pub opening_of : Bool → ℕ → Reading
opening_of has_busy line = record {
  awaited = Statement;
  word = [];
  lines = record resting { has_busy = has_busy };
  time = None;
  changed = true;
  line = line;
}
