-- The groups of lines: how many lines each has, its name, and whether a trace needs it.
use Rattle.std.specs.Prelude.{ℕ, Bool, true, false, List, codes}
use Rattle.vme_line_map.specs.declared.group.Group.{Group}
use Rattle.vme_line_map.specs.declared.group.Group.TheVariants.{AddressStrobe, UpperStrobe, LowerStrobe, Acknowledge, BusError, InterruptAcknowledge, Busy, Write, LongWord, Modifier, Address, Data, SlotBusy, SlotRequest, SlotGrant, PortOffset, PortData}

-- the number of lines of a group
abbrev pub lines : Group → ℕ
lines Modifier = 6
lines Address = 32
lines Data = 32
lines (PortOffset slot) = 32
lines (PortData slot) = 32
lines (SlotRequest slot) = 4
lines (SlotGrant slot) = 4
lines _ = 1

-- what a message calls the lines of a group
abbrev pub name : Group → List ℕ
name AddressStrobe = codes "AS*"
name UpperStrobe = codes "DS1*"
name LowerStrobe = codes "DS0*"
name Acknowledge = codes "DTACK*"
name BusError = codes "BERR*"
name InterruptAcknowledge = codes "IACK*"
name Busy = codes "BBSY*"
name Write = codes "WRITE*"
name LongWord = codes "LWORD*"
name Modifier = codes "AM5 to AM0"
name Address = codes "A31 to A01"
name Data = codes "D31 to D00"
name (SlotBusy slot) = codes "BBSY* of a slot"
name (SlotRequest slot) = codes "BRn* of a slot"
name (SlotGrant slot) = codes "BG3IN* to BG0IN* of a slot"
name _ = codes "a local port"

-- whether no trace is judged without the lines of a group
abbrev pub is_needed : Group → Bool
is_needed AddressStrobe = true
is_needed UpperStrobe = true
is_needed LowerStrobe = true
is_needed Acknowledge = true
is_needed Write = true
is_needed LongWord = true
is_needed Modifier = true
is_needed Address = true
is_needed Data = true
is_needed _ = false
