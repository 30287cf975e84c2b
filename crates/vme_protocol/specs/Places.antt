-- Where a datum is, and whether it may come in its transfer.
use Rattle.std.specs.Prelude.{ℕ, ◌+◌, ◌-◌, ◌/◌, ◌%◌, ◌^◌, nat_le, nat_lt, Bool, true, not, ◌==◌, ◌&&◌, ◌||◌, if◌then◌else◌, Option, Some, None}
use Rattle.std.specs.Bool.{beq}
use Rattle.vme_lanes.specs.declared.location.Location.{Location}
use Rattle.vme_lanes.specs.Rows.{row_of, location_sensed}
use Rattle.vme_protocol.specs.declared.sample.Sample.{Sample}
use Rattle.vme_protocol.specs.declared.place.Place.{Place}
use Rattle.vme_protocol.specs.declared.datum.Datum.{Datum}
use Rattle.vme_protocol.specs.declared.transfer.Transfer.{Transfer}
use Rattle.vme_protocol.specs.Lines.{lanes_of}

-- A01 as the slave senses it: in a block it increments the address; IEEE 1014-1987, 2.3.7 (block transfer)
abbrev pub a01_at : Transfer → Bool
a01_at t = if t.block && nat_lt 0 t.count then nat_le 2 (t.next % 4) else t.a01

-- the byte location that the strobes of a sample select; IEEE 1014-1987, 2.2.1 (addressing lines)
abbrev pub location_in : Transfer → Sample → Option Location
location_in t s = location_sensed (record { ds1 = s.ds1; ds0 = s.ds0; a01 = a01_at t; lword = t.lword })

-- the address of its first byte: in a block where the last datum ended
abbrev pub addr_of : Transfer → Location → ℕ
addr_of t l = if t.block && nat_lt 0 t.count then t.next else (t.base + (row_of l).first) % 2 ^ 32

-- the number of its bytes
abbrev pub len_of : Transfer → Location → ℕ
len_of t l = if t.wide then 8 else (row_of l).len

-- the place of a location
abbrev pub place_at : Transfer → Option Location → Option Place
place_at t None = None
place_at t (Some l) = Some (record { location = l; addr = addr_of t l; len = len_of t l })

-- where the datum of a sample is, if its strobes select one
unfoldable pub place_in : Transfer → Sample → Option Place
place_in t s = place_at t (location_in t s)

-- the same, if the cycle is judged and the code has a row
abbrev pub place_of : Transfer → Sample → Option Place
place_of t s = if t.judged && t.has_row then place_in t s else None

-- the data lines of a place
abbrev pub lanes_in : Transfer → Option Place → ℕ
lanes_in t None = 0
lanes_in t (Some place) = if t.wide then 2 ^ 64 - 1 else lanes_of place.location

-- the data lines that the datum of a sample uses; none in the address phase of eight-byte data
unfoldable pub data_lanes : Transfer → Sample → ℕ
data_lanes t s = if t.wide && not t.addressed then 0 else lanes_in t (place_of t s)

-- the bytes of a block that does not pass its unit; IEEE 1014-1987, 2.3.7 (block transfer)
abbrev pub unit_of : Transfer → ℕ
unit_of t = if t.wide then 2048 else 256

-- whether a location is that of four bytes
abbrev pub is_quad : Location → Bool
is_quad l = (row_of l).len == 4

-- where a datum of a block may be: one, two or four bytes at a multiple of their number; eight bytes at a multiple of four
abbrev pub is_placed : Transfer → Place → Bool
is_placed t place =
    if t.wide then is_quad place.location && place.addr % 4 == 0
    else place.len == 1 || place.len == 2 && place.addr % 2 == 0 || place.len == 4 && place.addr % 4 == 0

-- whether a datum has another length or direction than the block, or is in another unit
abbrev pub differs_from_block : Transfer → Place → Sample → Bool
differs_from_block t place s =
    not (place.len == t.len) || not (beq s.write t.write) || not (place.addr / unit_of t == t.first / unit_of t)

-- whether a datum may not come in a block; IEEE 1014-1987, 2.3.7 (block transfer)
abbrev pub misfits_block : Transfer → Place → Sample → Bool
misfits_block t place s =
    not (is_placed t place) || not ((row_of place.location).first == place.addr % 4)
    || nat_lt (unit_of t) (place.addr % unit_of t + place.len)
    || nat_lt 0 t.count && differs_from_block t place s

-- whether a cycle is a second one that does not write what the first has read, or a third;
-- IEEE 1014-1987, 2.3.8 (read-modify-write)
abbrev pub misfits_cycle : Transfer → Sample → Bool
misfits_cycle t s =
    nat_lt 1 t.count || t.count == 1 && not (t.write && not s.write && beq s.ds1 t.ds1 && beq s.ds0 t.ds0)

-- a datum may not come at this place of its transfer
abbrev pub misfits : Transfer → Place → Sample → Bool
misfits t place s = if t.block then misfits_block t place s else misfits_cycle t s

-- whether a datum may not come at a place, if there is one
abbrev pub breaks_at : Transfer → Sample → Option Place → Bool
breaks_at t s None = true
breaks_at t s (Some place) = t.failed || misfits t place s

-- whether the datum of a sample may not come in a transfer: the strobes select no bytes, BERR* has ended it, or it does not fit
unfoldable pub breaks_transfer : Transfer → Sample → Bool
breaks_transfer t s = breaks_at t s (place_in t s)

-- the datum of a sample at a place
unfoldable pub datum_at : Transfer → Place → Sample → Datum
datum_at t place s = record {
  am = t.am;
  base = t.base;
  first = if t.count == 0 then place.addr else t.first;
  index = t.count;
  addr = place.addr;
  len = place.len;
  lane = if t.wide then 0 else 4 + (row_of place.location).lane;
  ds1 = s.ds1;
  ds0 = s.ds0;
  a01 = t.a01;
  lword = t.lword;
  write = s.write;
  dtack = s.dtack;
  lines = s.lines;
}
