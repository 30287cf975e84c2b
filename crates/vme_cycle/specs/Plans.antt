-- The signals of the data of a lawful request.
use Rattle.std.specs.Prelude.{ℕ, ◌-◌, ◌%◌, Bool, false, List, Option, Some, None, is_none, unwrap_or}
use Rattle.vme_lanes.specs.declared.location.Location.{Location}
use Rattle.vme_lanes.specs.declared.location.Location.TheVariants.{Byte0}
use Rattle.vme_lanes.specs.declared.location.Strobes.{Strobes}
use Rattle.vme_lanes.specs.Rows.{row_of}
use Rattle.vme_lanes.specs.Lanes.{lanes_with, idle_lanes}
use Rattle.vme_cycle.specs.Requests.{addr_of, datum_len, datum_of, address_of}
use Rattle.vme_cycle.specs.Lawful.{Transfer, location_for}
use Rattle.vme_cycle.specs.SignalLines.{SignalLines, placed_lanes}

-- the location of n bytes that begin at an address, or BYTE(0) where none has them;
-- IEEE 1014-1987, 2.2.1 (addressing lines)
unfoldable pub location_from : ℕ → ℕ → Location
location_from addr n = unwrap_or (location_for addr n) Byte0

-- the location of datum i on its own; IEEE 1014-1987, 2.2.1 (addressing lines)
abbrev pub own_location : Transfer → ℕ → Location
own_location t i = location_from (address_of t.request i) (datum_len t.request)

-- the strobes of a datum: DS1* and DS0* of its own location, A01 and LWORD* of the first datum
abbrev pub shown_strobes : Strobes → Strobes → Strobes
shown_strobes first own = record { ds1 = own.ds1; ds0 = own.ds0; a01 = first.a01; lword = first.lword }

-- the lanes that the master drives: only in a write, those of code and location; IEEE 1014-1987, 2.2.3 (data lines)
abbrev pub driven_lanes : Bool → Location → Option (List ℕ) → List (Option ℕ)
driven_lanes wide location (Some bytes) = placed_lanes wide location bytes
driven_lanes wide location None = idle_lanes

-- the signals of datum i before a slave replies: the address lines of the first datum from A02 up, and WRITE* low for a
-- write; IEEE 1014-1987, 2.3.6 (basic data transfer)
unfoldable pub signals_of : Transfer → ℕ → SignalLines
signals_of t i = record {
  am = t.am;
  addr = addr_of t.request - addr_of t.request % 4;
  strobes = shown_strobes (row_of (own_location t 0)).strobes (row_of (own_location t i)).strobes;
  write = is_none (datum_of t.request i);
  lanes = driven_lanes t.am.wide (own_location t i) (datum_of t.request i);
}

-- the signals of the write half of a read-modify-write: those of its read half, with WRITE* low and the bytes driven;
-- IEEE 1014-1987, 2.3.8 (read-modify-write)
unfoldable pub write_half_of : Transfer → List ℕ → SignalLines
write_half_of t bytes = record (signals_of t 0) { write = false; lanes = lanes_with (own_location t 0) bytes }
