-- The variables that `bendrika trace` writes: those of the lines of the bus, then those of each slot.
use Rattle.std.specs.Prelude.{ℕ, ◌-◌, false, List, [], ◌∷◌, ◌++◌, length, take, codes}
use Rattle.std.specs.List.{flat_map}
use Rattle.std.specs.Fmt.{decimal}
use Rattle.std.specs.Borrow.{Bor}
use Rattle.vme_line_map.specs.Variables.{Variable, Map, most_wanted, with_variables}
use Rattle.vme_line_map.specs.declared.group.Group.{Group}
use Rattle.vme_line_map.specs.declared.group.Group.TheVariants.{AddressStrobe, UpperStrobe, LowerStrobe, Acknowledge, BusError, InterruptAcknowledge, Busy, Write, LongWord, Modifier, Address, Data, SlotBusy, SlotRequest, SlotGrant, PortWrite, PortOffset, PortData, PortDone}
use Rattle.vme_line_map.specs.declared.map.Place.{Place}
use Rattle.vme_line_map.specs.declared.map.Place.TheVariants.{Ranged, From}

-- a variable that is 0 where its lines are low
abbrev pub plain : List ℕ → Group → Place → Variable
plain name group place = record { name = name; group = group; place = place; is_inverted = false }

-- the variables of the lines of the bus
abbrev pub bus_variables : List Variable
bus_variables =
    plain (codes "as_n") AddressStrobe (From 0)
    ∷ plain (codes "ds1_n") UpperStrobe (From 0)
    ∷ plain (codes "ds0_n") LowerStrobe (From 0)
    ∷ plain (codes "dtack_n") Acknowledge (From 0)
    ∷ plain (codes "berr_n") BusError (From 0)
    ∷ plain (codes "iack_n") InterruptAcknowledge (From 0)
    ∷ plain (codes "bbsy_n") Busy (From 0)
    ∷ plain (codes "write_n") Write (From 0)
    ∷ plain (codes "lword_n") LongWord (From 0)
    ∷ plain (codes "am") Modifier (Ranged 0)
    ∷ plain (codes "a") Address (Ranged 0)
    ∷ plain (codes "a01") Address (From 1)
    ∷ plain (codes "d") Data (Ranged 0)
    ∷ plain (codes "d31_24") Data (From 24)
    ∷ plain (codes "d23_16") Data (From 16)
    ∷ plain (codes "d15_08") Data (From 8)
    ∷ plain (codes "d07_00") Data (From 0)
    ∷ []

-- the name of a slot's variable: `s`, the slot in decimal, `_` and the variable
abbrev pub slot_name : ℕ → List ℕ → List ℕ
slot_name slot name = codes "s" ++ decimal slot ++ codes "_" ++ name

-- the variables of a slot
abbrev pub slot_variables : ℕ → List Variable
slot_variables slot =
    plain (slot_name slot (codes "bbsy_n")) (SlotBusy slot) (From 0)
    ∷ plain (slot_name slot (codes "br_n")) (SlotRequest slot) (From 0)
    ∷ plain (slot_name slot (codes "bg3in_n")) (SlotGrant slot) (From 3)
    ∷ plain (slot_name slot (codes "bg2in_n")) (SlotGrant slot) (From 2)
    ∷ plain (slot_name slot (codes "bg1in_n")) (SlotGrant slot) (From 1)
    ∷ plain (slot_name slot (codes "bg0in_n")) (SlotGrant slot) (From 0)
    ∷ plain (slot_name slot (codes "lp_we")) (PortWrite slot) (From 0)
    ∷ plain (slot_name slot (codes "lp_a")) (PortOffset slot) (From 0)
    ∷ plain (slot_name slot (codes "lp_ack")) (PortDone slot) (From 0)
    ∷ plain (slot_name slot (codes "lp_d")) (PortData slot) (From 0)
    ∷ plain (slot_name slot (codes "lp_d31_24")) (PortData slot) (From 24)
    ∷ plain (slot_name slot (codes "lp_d23_16")) (PortData slot) (From 16)
    ∷ plain (slot_name slot (codes "lp_d15_08")) (PortData slot) (From 8)
    ∷ plain (slot_name slot (codes "lp_d07_00")) (PortData slot) (From 0)
    ∷ []

-- the variable of a row: a name, its lines, and which bits they are
abbrev pub bus_row : Bor (List ℕ) × Group × Place → Variable
bus_row (name, group, place) = plain name.now group place

-- the variable of a row of a slot: a name, its lines, and the first of them
abbrev pub slot_row : ℕ → Bor (List ℕ) × Group × ℕ → Variable
slot_row slot (name, group, first) = plain (slot_name slot name.now) group (From first)

-- a map with as many of these variables at its end as fit
abbrev pub with_fitting : Map → List Variable → Map
with_fitting map more = with_variables map (take (most_wanted - length map.variables) more)

-- the map of `bendrika trace` with these slots: of 34 slots and more, only the first 500 variables
abbrev pub default_map : List ℕ → Map
default_map slots =
    record { variables = take most_wanted (bus_variables ++ flat_map slot_variables slots); is_named = false }
