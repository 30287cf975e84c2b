-- The lines of a bus log that are printed of what a trace shows.
use Rattle.std.specs.Prelude.{ℕ, ◌+◌, ◌-◌, ◌*◌, ◌/◌, ◌^◌, ◌%◌, nat_lt, Bool, not, ◌==◌, ◌||◌, if◌then◌else◌, List, [], Option}
use Rattle.vme_bus_log.specs.declared.entry.LogAccess.{LogAccess}
use Rattle.vme_bus_log.specs.declared.entry.LogDatum.{LogDatum}
use Rattle.vme_bus_log.specs.Lines.{access_line, datum_line}
use Rattle.vme_protocol.specs.declared.datum.Datum.{Datum}
use Rattle.vme_protocol.specs.declared.port.Local.{Local}
use Rattle.vme_protocol.specs.declared.sample.Sample.{Sample}
use Rattle.vme_judge.specs.declared.judge.Spot.{Spot}
use Rattle.vme_judge.specs.Seen.{driver_of}

-- the lines of the data lanes from one of eight on
abbrev pub lanes_from : ℕ → ℕ
lanes_from lane = if nat_lt lane 8 then (2 ^ 64 - 1) / 2 ^ ((8 * lane) % 64) else 0

-- the lines of the lanes of a datum
abbrev pub lanes_of : Datum → ℕ
lanes_of d = lanes_from d.lane - lanes_from (d.lane + d.len)

-- the lines that carry its data: none in a read that BERR* answers
abbrev pub lanes_shown : Datum → ℕ
lanes_shown d = if not d.write || not d.dtack then lanes_of d else 0

-- a datum as a bus log has it, with its time and the slot that drives BBSY*, if they are known
unfoldable pub log_datum : Datum → Option ℕ → Option ℕ → LogDatum
log_datum d time slot = record {
  time = time;
  index = d.index;
  am = d.am;
  address = d.base;
  ds1 = d.ds1;
  ds0 = d.ds0;
  a01 = d.a01;
  lword = d.lword;
  write = d.write;
  lines = d.lines;
  idle = 2 ^ 64 - 1 - lanes_shown d;
  is_wide = d.len == 8;
  is_acknowledged = not d.dtack;
  slot = slot;
}

-- a local access of the board in a slot as a bus log has it
unfoldable pub log_access : Local → Option ℕ → ℕ → LogAccess
log_access a time slot = record {
  time = time;
  slot = slot;
  is_write = a.write;
  offset = a.offset;
  len = a.len;
  bytes = a.«data»;
}

-- what is printed of a datum that a sample shows, if the bus log is printed
unfoldable pub datum_printed : Bool → Spot → Sample → Datum → List ℕ
datum_printed log spot s d = if log then datum_line (log_datum d spot.time (driver_of s.drivers)) else []

-- what is printed of a local access, if the bus log is printed
unfoldable pub access_printed : Bool → Spot → ℕ → Local → List ℕ
access_printed log spot slot a = if log then access_line (log_access a spot.time slot) else []
