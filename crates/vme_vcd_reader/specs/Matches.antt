-- Which lines of the bus the variables of a header are.
use Rattle.std.specs.Prelude.{ℕ, ◌+◌, ◌-◌, nat_le, bit_and, Bool, true, false, not, ◌==◌, ◌&&◌, ◌||◌, if◌then◌else◌, List, [], ◌∷◌, length, drop, filter, filter_map, flat_map, map, bytes_eq, Option, Some, None, is_none, Result, Ok, Err}
use Rattle.std.specs.List.{list_any}
use Rattle.std.specs.Option.{option_map, option_or}
use Rattle.vme_line_map.specs.Groups.{is_needed}
use Rattle.vme_line_map.specs.Variables.{Map, Variable}
use Rattle.vme_line_map.specs.declared.group.Group.{Group}
use Rattle.vme_line_map.specs.declared.group.Group.TheVariants as groups
use Rattle.vme_line_map.specs.declared.map.Place.{Place}
use Rattle.vme_line_map.specs.declared.map.Place.TheVariants as places
use Rattle.vme_vcd_reader.specs.declared.fault.VcdFault.{VcdFault}
use Rattle.vme_vcd_reader.specs.declared.fault.VcdFault.TheVariants as faults
use Rattle.vme_vcd_reader.specs.declared.matching.Part.{Part}
use Rattle.vme_vcd_reader.specs.declared.variable.Mapped.{Mapped}
use Rattle.vme_vcd_reader.specs.Changes.{without}
use Rattle.vme_vcd_reader.specs.Mapping.{Declaration, mapped_of}

-- whether a variable has a name as its whole path
abbrev pub is_whole : List ℕ → Declaration → Bool
is_whole name d = bytes_eq d.path name

-- whether a path ends with a name, after a dot
abbrev pub ends_with_name : List ℕ → List ℕ → Bool
ends_with_name path name = bytes_eq (drop (length path - (length name + 1)) path) (46 ∷ name)

-- whether a variable has a name as the end of its path
abbrev pub is_end : List ℕ → Declaration → Bool
is_end name d = ends_with_name d.path name

-- some variables, or others if there are none
abbrev pub some_or : List Declaration → List Declaration → List Declaration
some_or [] others = others
some_or (d ∷ ds) others = d ∷ ds

-- the variables that a name names: those with the whole path, or if there are none, those with the end
abbrev pub named_by : List ℕ → List Declaration → List Declaration
named_by name ds = some_or (filter (is_whole name) ds) (filter (is_end name) ds)

-- a declared variable as lines of a wanted one
abbrev pub part_of : Variable → Declaration → Option Part
part_of w d = option_map (λ m. record { scope = d.scope; identifier = d.identifier; mapped = m }) (mapped_of w d)

-- whether two variables are the same bits of one identifier, as the same lines
abbrev pub is_same : Part → Part → Bool
is_same p q =
    p.identifier == q.identifier && (p.mapped.right == q.mapped.right && (p.mapped.first == q.mapped.first
    && (p.mapped.mask == q.mapped.mask && p.mapped.size == q.mapped.size)))

-- each of some variables once: where one is the same as another, the first of them
abbrev pub distinct : List Part → List Part
distinct [] = []
distinct (p ∷ ps) = p ∷ filter (λ q. not (is_same p q)) (distinct ps)

-- the variables that are lines of a wanted one
abbrev pub parts_of : List Declaration → Variable → List Part
parts_of ds w = distinct (filter_map (part_of w) (named_by w.name ds))

-- whether two different variables cannot be one together: they are in two scopes, or one line twice
abbrev pub clashes : Part → Part → Bool
clashes p q = not (p.scope == q.scope) || not (bit_and p.mapped.mask q.mapped.mask == 0)

-- whether some two of different variables clash
abbrev pub has_clash : List Part → Bool
has_clash [] = false
has_clash (p ∷ ps) = list_any (clashes p) ps || has_clash ps

-- whether a wanted variable is several
abbrev pub is_ambiguous : List Declaration → Variable → Bool
is_ambiguous ds w = has_clash (parts_of ds w)

-- whether a wanted variable has other bits than the map says
abbrev pub is_wrong : List Declaration → Variable → Bool
is_wrong ds w = list_any (λ d. is_none (mapped_of w d)) (named_by w.name ds)

-- whether a wanted variable is there
abbrev pub is_there : List Declaration → Variable → Bool
is_there ds w = list_any (is_whole w.name) ds || list_any (is_end w.name) ds

-- the number of a group without whose lines nothing is judged, or 0 for another one
abbrev pub needed_number : Group → ℕ
needed_number groups.AddressStrobe = 1
needed_number groups.UpperStrobe = 2
needed_number groups.LowerStrobe = 3
needed_number groups.Acknowledge = 4
needed_number groups.Write = 5
needed_number groups.LongWord = 6
needed_number groups.Modifier = 7
needed_number groups.Address = 8
needed_number groups.Data = 9
needed_number group = 0

-- whether lines of a needed group are there
abbrev pub has_group : List Declaration → List Variable → Group → Bool
has_group ds ws group = list_any (λ w. needed_number w.group == needed_number group && is_there ds w) ws

-- why no line is read of a variable that is not there: somebody named it, or its lines are needed and none of them is there
abbrev pub absent_fault : Map → List Declaration → ℕ → Variable → Option VcdFault
absent_fault map ds index w =
    if map.is_named then Some (faults.Absent index) else
    (if is_needed w.group && not (has_group ds map.variables w.group) then Some (faults.LacksLines index) else None)

-- what is wrong with the wanted variable at an index
abbrev pub fault_at : Map → List Declaration → ℕ → Variable → Option VcdFault
fault_at map ds index w =
    if is_ambiguous ds w then Some (faults.Ambiguous index) else
    (if is_wrong ds w then Some (faults.BadWidth index) else
    (if is_there ds w then None else absent_fault map ds index w))

-- the first fault of wanted variables, of which the first has an index
abbrev pub first_fault : Map → List Declaration → ℕ → List Variable → Option VcdFault
first_fault map ds index [] = None
first_fault map ds index (w ∷ ws) = option_or (fault_at map ds index w) (first_fault map ds (index + 1) ws)

-- whether a place is that of A01 alone
abbrev pub is_first_line : Place → Bool
is_first_line (places.From first) = first == 1
is_first_line place = false

-- whether the lines are of the address
abbrev pub is_address : Group → Bool
is_address groups.Address = true
is_address group = false

-- whether a wanted variable is A01
abbrev pub is_a01 : Variable → Bool
is_a01 w = is_address w.group && is_first_line w.place

-- whether A01 has a variable of its own
abbrev pub has_a01 : List Declaration → List Variable → Bool
has_a01 ds ws = list_any (λ w. is_a01 w && is_there ds w) ws

-- the lines of a variable: another one of the address has no A01 if that has one of its own
abbrev pub own_lines : Bool → Variable → Mapped → Mapped
own_lines a01 w m = if a01 && (is_address w.group && not (is_a01 w)) then record m { mask = without m.mask 2 } else m

-- a variable of a dump that is lines of a wanted one, by its identifier
abbrev pub line_of : Bool → Variable → Part → ℕ × Mapped
line_of a01 w p = (p.identifier, own_lines a01 w p.mapped)

-- the variables of a dump that are lines of a wanted one
abbrev pub lines_at : List Declaration → Bool → Variable → List (ℕ × Mapped)
lines_at ds a01 w = map (line_of a01 w) (parts_of ds w)

-- the variables of a dump that are lines of the bus
abbrev pub lines_in : Map → List Declaration → List (ℕ × Mapped)
lines_in map ds = flat_map (lines_at ds (has_a01 ds map.variables)) map.variables

-- no more than 1000 variables are kept
abbrev pub if_few : List (ℕ × Mapped) → Result (List (ℕ × Mapped)) VcdFault
if_few lines = if nat_le (length lines) 1000 then Ok lines else Err faults.TooManyMapped

-- no lines but a fault, or lines
abbrev pub unless : Option VcdFault → List (ℕ × Mapped) → Result (List (ℕ × Mapped)) VcdFault
unless (Some fault) lines = Err fault
unless None lines = if_few lines

-- the lines of the bus in a dump whose header declares these variables, or the first fault
abbrev pub lines_of : Map → List Declaration → Result (List (ℕ × Mapped)) VcdFault
lines_of map ds = unless (first_fault map ds 0 map.variables) (lines_in map ds)
