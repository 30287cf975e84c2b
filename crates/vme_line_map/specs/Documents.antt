-- The map that a document names: the keys in order, each with a pattern of names for its lines, up to the first fault.
use Rattle.std.specs.Prelude.{◌≡◌, ◌≢◌, ℕ, zero, suc, nat_le, ◌&&◌, ◌==◌, true, List, [], ◌∷◌, if◌then◌else◌, Option, Some, None, Result, Ok, Err, codes, IsUtf8}
use Rattle.std.specs.Option.{option_and_then, ok_or}
use Rattle.std.specs.Str.{bytes_eq}
use Rattle.toml.specs.Data.{Data, Members, no_members, member, as_str, as_table}
use Rattle.toml.specs.Parse.{parse_document}
use Rattle.vme_line_map.specs.Texts.{number}
use Rattle.vme_line_map.specs.Variables.{Map, added}
use Rattle.vme_line_map.specs.Patterns.{pattern, and_then, ◌>>=◌}
use Rattle.vme_line_map.specs.declared.group.Group.{Group}
use Rattle.vme_line_map.specs.declared.group.Group.TheVariants.{AddressStrobe, UpperStrobe, LowerStrobe, Acknowledge, BusError, InterruptAcknowledge, Busy, Write, LongWord, Modifier, Address, Data as DataLines, SlotBusy, SlotRequest, SlotGrant, PortWrite, PortOffset, PortData, PortDone}
use Rattle.vme_line_map.specs.declared.fault.LinesProblem.{LinesProblem}
use Rattle.vme_line_map.specs.declared.fault.LinesProblem.TheVariants.{UnknownKey, NotText, NotTable, NotSlot}
use Rattle.vme_line_map.specs.declared.fault.LinesFault.{LinesFault}
use Rattle.vme_line_map.specs.declared.fault.LinesFault.TheVariants.{NotToml, Key, Memory}

-- the first bytes of a name, and 0 where it has fewer
abbrev pub padded : ℕ → List ℕ → List ℕ
padded zero name = []
padded (suc n) [] = 0 ∷ padded n []
padded (suc n) (c ∷ name) = c ∷ padded n name

-- the fault of a key: it is reported with the first 16 bytes of its name
abbrev pub key_fault : ℕ → List ℕ → LinesProblem → LinesFault
key_fault slot name problem = Key slot (padded 16 name) problem

-- the lines of each key of `[lines]`, and the first of them
abbrev pub bus_keys : List (List ℕ × Group × ℕ)
bus_keys =
    (codes "as", AddressStrobe, 0)
    ∷ (codes "ds1", UpperStrobe, 0)
    ∷ (codes "ds0", LowerStrobe, 0)
    ∷ (codes "dtack", Acknowledge, 0)
    ∷ (codes "berr", BusError, 0)
    ∷ (codes "iack", InterruptAcknowledge, 0)
    ∷ (codes "bbsy", Busy, 0)
    ∷ (codes "write", Write, 0)
    ∷ (codes "lword", LongWord, 0)
    ∷ (codes "am", Modifier, 0)
    ∷ (codes "a", Address, 0)
    ∷ (codes "a01", Address, 1)
    ∷ (codes "d", DataLines, 0)
    ∷ []

-- the lines of each key of `[slot.N]`, and the first of them
abbrev pub slot_keys : ℕ → List (List ℕ × Group × ℕ)
slot_keys slot =
    (codes "bbsy", SlotBusy slot, 0)
    ∷ (codes "br", SlotRequest slot, 0)
    ∷ (codes "bgin", SlotGrant slot, 0)
    ∷ (codes "lp_we", PortWrite slot, 0)
    ∷ (codes "lp_a", PortOffset slot, 0)
    ∷ (codes "lp_d", PortData slot, 0)
    ∷ (codes "lp_ack", PortDone slot, 0)
    ∷ []

-- the row of a key in a table
abbrev pub row_of : List ℕ → List (List ℕ × Group × ℕ) → Option (Group × ℕ)
row_of name [] = None
row_of name ((key, group, first) ∷ rows) = if bytes_eq name key then Some (group, first) else row_of name rows

-- the lines of a key of `[lines]`, and the first of them
unfoldable pub bus_lines : List ℕ → Option (Group × ℕ)
bus_lines name = row_of name bus_keys

-- the lines of a key of `[slot.N]`, and the first of them
unfoldable pub slot_lines : ℕ → List ℕ → Option (Group × ℕ)
slot_lines slot name = row_of name (slot_keys slot)

-- the lines of a key of a slot's table, and the first of them; 0 stands for the table of the bus
unfoldable pub lines_named : ℕ → List ℕ → Option (Group × ℕ)
lines_named slot name = if slot == 0 then bus_lines name else slot_lines slot name

-- a number that is a slot's, 1 to 21
abbrev pub slot_within : ℕ → Option ℕ
slot_within n = if nat_le 1 n && nat_le n 21 then Some n else None

-- the slot that a name writes in decimal
abbrev pub slot_named : List ℕ → Option ℕ
slot_named name = option_and_then slot_within (number 8 name)

-- the members of a value that must be a table
abbrev pub members_at : ℕ → List ℕ → Data → Result Members LinesFault
members_at slot name value = ok_or (as_table value) (key_fault slot name NotTable)

-- what each member in order makes of a map, up to the first fault
abbrev pub each_member : (Map → List ℕ → Data → Result Map LinesFault) → Map → Members → Result Map LinesFault
each_member step map no_members = Ok map
each_member step map (member name value more) = step map name value >>= (λ new. each_member step new more)

-- a result for a key: its problem is a fault of the key
abbrev pub for_key : {A : Type 0} → ℕ → List ℕ → Result A LinesProblem → Result A LinesFault
for_key slot name (Ok x) = Ok x
for_key slot name (Err problem) = Err (key_fault slot name problem)

-- a map with the variables that the pattern of a key names
abbrev pub with_key : ℕ → Map → List ℕ → Data → Result Map LinesFault
with_key slot map name value = do
  lines ← ok_or (lines_named slot name) (key_fault slot name UnknownKey)
  text ← ok_or (as_str value) (key_fault slot name NotText)
  for_key slot name (and_then (pattern lines.0 lines.1 text) (added map))

-- a map with the variables of a table `[slot.N]`
abbrev pub with_slot : Map → List ℕ → Data → Result Map LinesFault
with_slot map name value = do
  slot ← ok_or (slot_named name) (key_fault 0 name NotSlot)
  members ← members_at slot [] value
  each_member (with_key slot) map members

-- a map with the variables of `[lines]`, or of the slots
abbrev pub with_section : Map → List ℕ → Data → Result Map LinesFault
with_section map name value =
    if bytes_eq name (codes "lines") then members_at 0 name value >>= each_member (with_key 0) map
    else (if bytes_eq name (codes "slot") then members_at 0 name value >>= each_member with_slot map
    else Err (key_fault 0 name UnknownKey))

-- the map of a document
abbrev pub map_of_document : Option Members → Result Map LinesFault
map_of_document None = Err NotToml
map_of_document (Some members) = each_member with_section (record { variables = []; is_named = true }) members

-- the map of a text, or its first fault
abbrev pub map_of_text : List ℕ → Result Map LinesFault
map_of_text text = map_of_document (parse_document text)

-- the call leaves the expected map, or returns the expected fault; after a failed allocation nothing is stated
abbrev pub Builds : Result (Unit {0}) LinesFault → Map → Result Map LinesFault → Type 0
Builds (Ok _) new expected = expected ≡ Ok new
Builds (Err fault) new expected = fault ≢ Memory → expected ≡ Err fault

-- the map of a text that is UTF-8, or the fault of the text; after a failed allocation nothing is stated
abbrev pub ReadsMap : List ℕ → Result Map LinesFault → Type 0
ReadsMap text (Ok map) = IsUtf8 text × (map_of_text text ≡ Ok map)
ReadsMap text (Err fault) = fault ≢ Memory → (IsUtf8 text → map_of_text text ≡ Err fault) × (fault ≢ NotToml → IsUtf8 text)
