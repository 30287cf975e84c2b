-- The control lines of the bus that are undefined, and what a program reports of them.
use Rattle.std.specs.Prelude.{ℕ, ◌==◌, if◌then◌else◌, bit_and, List, [], ◌∷◌, codes, Option, Some, None}
use Rattle.vme_vcd_reader.specs.declared.bus.BusLines.{BusLines}
use Rattle.vme_vcd_reader.specs.declared.control.ControlLine.{ControlLine}
use Rattle.vme_vcd_reader.specs.declared.control.ControlLine.TheVariants.{AddressStrobe, UpperStrobe, LowerStrobe, Acknowledge, BusError, InterruptAcknowledge, Busy, SlotBusy, SlotRequest, SlotGrant}
use Rattle.vme_vcd_reader.specs.Buses.{any_of}

-- the name of a line
abbrev pub control_name : ControlLine → List ℕ
control_name AddressStrobe = codes "AS*"
control_name UpperStrobe = codes "DS1*"
control_name LowerStrobe = codes "DS0*"
control_name Acknowledge = codes "DTACK*"
control_name BusError = codes "BERR*"
control_name InterruptAcknowledge = codes "IACK*"
control_name Busy = codes "BBSY*"
control_name SlotBusy = codes "BBSY* of a slot"
control_name SlotRequest = codes "BRn* of a slot"
control_name SlotGrant = codes "BGnIN* of a slot"

-- each control line, with the bits that say that it is undefined: one of the bus by its place, those of slots by any slot
abbrev pub undefined_marks : BusLines → List (ControlLine × ℕ)
undefined_marks b =
    (AddressStrobe, bit_and b.undefined 1) ∷ (UpperStrobe, bit_and b.undefined 2) ∷ (LowerStrobe, bit_and b.undefined 4)
    ∷ (Acknowledge, bit_and b.undefined 8) ∷ (BusError, bit_and b.undefined 16)
    ∷ (InterruptAcknowledge, bit_and b.undefined 32) ∷ (Busy, bit_and b.undefined 64)
    ∷ (SlotBusy, b.undefined_drivers) ∷ (SlotRequest, any_of b.undefined_requests) ∷ (SlotGrant, any_of b.undefined_grants) ∷ []

-- the first line that has a mark
abbrev pub first_marked : List (ControlLine × ℕ) → Option ControlLine
first_marked [] = None
first_marked ((line, marks) ∷ lines) = if marks == 0 then first_marked lines else Some line

-- the first control line that is undefined, if one is
abbrev pub undefined_line : BusLines → Option ControlLine
undefined_line b = first_marked (undefined_marks b)
