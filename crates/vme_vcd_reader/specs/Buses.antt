-- The lines of the bus after a change of a variable, and the sample that they show.
use Rattle.std.specs.Prelude.{ℕ, nat_le, ◌+◌, ◌-◌, ◌*◌, ◌/◌, ◌^◌, ◌%◌, Bool, true, false, not, ◌==◌, ◌&&◌, ◌||◌, if◌then◌else◌, bit_and, bit_or, List, [], ◌∷◌, slice_index, slice_index_or, slice_set}
use Rattle.std.specs.Int.{bit_not, w64}
use Rattle.vme_line_map.specs.declared.group.Group.{Group}
use Rattle.vme_line_map.specs.declared.group.Group.TheVariants as groups
use Rattle.vme_protocol.specs.declared.sample.Sample.{Sample}
use Rattle.vme_vcd_reader.specs.declared.bits.Bits.{Bits}
use Rattle.vme_vcd_reader.specs.declared.bus.BusLines.{BusLines}
use Rattle.vme_vcd_reader.specs.declared.change.Change.{Change}
use Rattle.vme_vcd_reader.specs.declared.bus.PortLines.{PortLines}
use Rattle.vme_vcd_reader.specs.declared.variable.Mapped.{Mapped}
use Rattle.vme_vcd_reader.specs.Changes.{change_of, idle_after, is_undefined, level_after, lines_after, undefined_after, without}

-- lines of a group among the lines of a sample
abbrev pub among : ℕ → ℕ → ℕ → ℕ
among own place lines = bit_and ((lines * 2 ^ (place % 64)) % 2 ^ 64) own

-- the lines of a sample after a change of the address, LWORD* or the data, of which those of `own` are meant
abbrev pub sample_lines : Change → ℕ → ℕ → Sample → Sample
sample_lines c own place s = record s {
  lines = bit_or (bit_and s.lines (bit_not w64 (among own place c.mask))) (among own place c.ones);
  lines_undefined =
      bit_or (bit_and s.lines_undefined (bit_not w64 (among own place c.mask))) (among own place (bit_or c.free c.undefined));
}

-- the bit of a slot, the lowest for slot 1
abbrev pub slot_bit : ℕ → ℕ
slot_bit slot = (1 * 2 ^ (((slot + 256 - 1) % 2 ^ 8) % 32)) % 2 ^ 32

-- a set of slots with one of them in it or not
abbrev pub with_slot : ℕ → ℕ → Bool → ℕ
with_slot slots slot is_in = if is_in then bit_or slots (slot_bit slot) else without slots (slot_bit slot)

-- the lines that are low after a change
abbrev pub low_of : Change → ℕ
low_of c = without (without (without c.mask c.ones) c.free) c.undefined

-- the set of slots of one level after a change of a slot's lines: `bit` is its line
abbrev pub level_set : ℕ → ℕ → Change → ℕ → ℕ → ℕ
level_set set bit c lines slot = if not (bit_and c.mask bit == 0) then with_slot set slot (not (bit_and lines bit == 0)) else set

-- the sets of the four levels
abbrev pub level_sets : List ℕ → Change → ℕ → ℕ → List ℕ
level_sets sets c lines slot =
    level_set (slice_index sets 0) 1 c lines slot ∷ level_set (slice_index sets 1) 2 c lines slot
    ∷ level_set (slice_index sets 2) 4 c lines slot ∷ level_set (slice_index sets 3) 8 c lines slot ∷ []

-- the slots in any of four sets
abbrev pub any_of : List ℕ → ℕ
any_of sets = bit_or (bit_or (bit_or (slice_index sets 0) (slice_index sets 1)) (slice_index sets 2)) (slice_index sets 3)

-- the lines of the bus with another sample
abbrev pub showing : BusLines → Sample → BusLines
showing b s = record b { sample = s }

-- the same after a change of a control line
abbrev pub controlled : BusLines → ℕ → Change → Sample → BusLines
controlled b line c s = record b { sample = s; undefined = undefined_after c line b.undefined }

-- a lane that is defined, if each of its eight lines, from a place on, is driven
abbrev pub defined_lane : ℕ → ℕ → ℕ → ℕ
defined_lane idle place lane = if bit_and (idle / 2 ^ (place % 32)) 255 == 0 then lane else 0

-- the lanes that are
abbrev pub defined_lanes : ℕ → ℕ
defined_lanes idle =
    bit_or (bit_or (bit_or (defined_lane idle 0 1) (defined_lane idle 8 2)) (defined_lane idle 16 4)) (defined_lane idle 24 8)

-- the lines of a local port, which is undefined if its direction or a line of its offset is
abbrev pub marked : PortLines → PortLines
marked p = record p { port = record p.port { undefined = p.undefined_write || not (p.undefined_offset == 0) } }

-- the lines of a local port after a change of them: they are low where nothing drives them
abbrev pub port_after : PortLines → Group → Change → PortLines
port_after p (groups.PortWrite slot) c = marked (record p {
  port = record p.port { write = not (c.ones == 0) };
  undefined_write = not (bit_or c.free c.undefined == 0);
})
port_after p (groups.PortOffset slot) c = marked (record p {
  port = record p.port { offset = lines_after c p.port.offset };
  undefined_offset = idle_after c p.undefined_offset;
})
port_after p (groups.PortData slot) c = marked (record p {
  port = record p.port { «data» = lines_after c p.port.«data»; lanes = defined_lanes (idle_after c p.idle) };
  idle = idle_after c p.idle;
})
port_after p (groups.PortDone slot) c = marked (record p { port = record p.port { done = not (c.ones == 0) } })
port_after p group c = marked p

-- the lines of a local port before the first change
abbrev pub idle_port : PortLines
idle_port = record {
  port = record { done = false; write = false; undefined = true; offset = 0; lanes = 0; «data» = 0 };
  idle = 2 ^ 32 - 1;
  undefined_offset = 0;
  undefined_write = false;
}

-- the lines of the local port of a slot
abbrev pub port_of : BusLines → ℕ → PortLines
port_of b slot = slice_index_or b.ports (slot - 1) idle_port

-- the lines of the bus after a change of the local port of a slot
abbrev pub port_changed : BusLines → ℕ → Group → Change → BusLines
port_changed b slot group c = record b {
  changed_ports = with_slot b.changed_ports slot true;
  ports = if nat_le 1 slot && nat_le slot 21 then slice_set b.ports (slot - 1) (port_after (port_of b slot) group c) else b.ports;
}

-- the lines of the bus after a change of a slot's lines
abbrev pub slot_after : BusLines → Group → Change → BusLines
slot_after b (groups.SlotBusy slot) c = record b {
  undefined_drivers = with_slot b.undefined_drivers slot (is_undefined c);
  sample = record b.sample { drivers = with_slot b.sample.drivers slot (not (low_of c == 0)) };
}
slot_after b (groups.SlotRequest slot) c = record b {
  requests = level_sets b.requests c (low_of c) slot;
  undefined_requests = level_sets b.undefined_requests c c.undefined slot;
}
slot_after b (groups.SlotGrant slot) c = record b {
  grants = level_sets b.grants c (low_of c) slot;
  undefined_grants = level_sets b.undefined_grants c c.undefined slot;
}
slot_after b (groups.PortWrite slot) c = port_changed b slot (groups.PortWrite slot) c
slot_after b (groups.PortOffset slot) c = port_changed b slot (groups.PortOffset slot) c
slot_after b (groups.PortData slot) c = port_changed b slot (groups.PortData slot) c
slot_after b (groups.PortDone slot) c = port_changed b slot (groups.PortDone slot) c
slot_after b group c = b

-- the lines of the bus after a change of a group
abbrev pub after_change : BusLines → Group → Change → BusLines
after_change b groups.AddressStrobe c = controlled b 1 c (record b.sample { address_strobe = level_after c })
after_change b groups.UpperStrobe c = controlled b 2 c (record b.sample { ds1 = level_after c })
after_change b groups.LowerStrobe c = controlled b 4 c (record b.sample { ds0 = level_after c })
after_change b groups.Acknowledge c = controlled b 8 c (record b.sample { dtack = level_after c })
after_change b groups.BusError c = controlled b 16 c (record b.sample { berr = level_after c })
after_change b groups.InterruptAcknowledge c = controlled b 32 c (record b.sample { iack = level_after c })
after_change b groups.Busy c = controlled b 64 c (record b.sample { busy = level_after c })
after_change b groups.Write c =
    showing b (record b.sample { write = level_after c; write_undefined = is_undefined c || not (c.free == 0) })
after_change b groups.Modifier c = record b {
  idle_modifier = idle_after c b.idle_modifier;
  sample = record b.sample {
    am = bit_and (lines_after c b.sample.am) 63;
    am_undefined = not (idle_after c b.idle_modifier == 0);
  };
}
after_change b groups.LongWord c = showing b (sample_lines c (2 ^ 32) 32 b.sample)
after_change b groups.Address c = showing b (sample_lines c (2 ^ 64 - 1 - 2 ^ 32) 32 b.sample)
after_change b groups.Data c = showing b (sample_lines c (2 ^ 64 - 1) 0 b.sample)
after_change b group c = slot_after b group c

-- the lines of the bus after a variable has changed to these bits
abbrev pub bus_after : BusLines → Mapped → Bits → BusLines
bus_after b m bits = after_change b m.group (change_of m bits)

-- the slots with an undefined BBSY*, BRn* or BGnIN*
abbrev pub undefined_slots : BusLines → ℕ
undefined_slots b = bit_or (bit_or b.undefined_drivers (any_of b.undefined_requests)) (any_of b.undefined_grants)

-- the sample that lines of the bus show at a time; without BBSY*, it is high where no slot drives it
abbrev pub sample_of : BusLines → ℕ → Sample
sample_of b time = record b.sample {
  time = time;
  undefined = not (bit_or b.undefined (undefined_slots b) == 0);
  busy = if b.has_busy then b.sample.busy else (b.sample.drivers == 0);
  requests = any_of b.requests;
  grants = any_of b.grants;
}
