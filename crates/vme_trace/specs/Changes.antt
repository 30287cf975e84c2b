-- The text of a value change dump: changes of variables, edge by edge.
use Rattle.std.specs.Prelude.{ℕ, zero, suc, ◌+◌, ◌*◌, ◌/◌, ◌%◌, ◌^◌, ◌==◌, Bool, true, false, if◌then◌else◌, List, [], ◌∷◌, ◌++◌, flat_map, slice_get, Option, Some, None, codes}
use Rattle.std.specs.List.{list_any, range_with_len}
use Rattle.std.specs.Option.{option_to_list}
use Rattle.std.specs.Fmt.{decimal}
use Rattle.vme_trace.specs.declared.dump.change.Code.{Code}
use Rattle.vme_trace.specs.declared.dump.change.Value.{Value}
use Rattle.vme_trace.specs.declared.dump.change.Value.TheVariants.{Low, High, Free, Released, Number, Lanes, Grants}
use Rattle.vme_trace.specs.declared.dump.change.Change.{Change}
use Rattle.vme_trace.specs.declared.dump.edge.TheConstants.{EDGES}

-- the level of a line
abbrev pub level_of : Bool → Value
level_of true = High
level_of false = Low

-- the lanes, if nothing drives them
abbrev pub no_lanes : Value
no_lanes = Lanes (None ∷ None ∷ None ∷ None ∷ [])

-- a change, if it takes place
abbrev pub change_if : Bool → ℕ → Code → Value → List Change
change_if true edge code value = record { edge = edge; code = code; value = value } ∷ []
change_if false edge code value = []

-- so many binary digits of a number
abbrev pub binary : ℕ → ℕ → List ℕ
binary zero n = []
binary (suc width) n = (48 + n / 2 ^ width % 2) ∷ binary width n

-- a lane that is found; none carries nothing
abbrev pub lane_found : Option (Option ℕ) → Option ℕ
lane_found None = None
lane_found (Some lane) = lane

-- a lane: eight digits, or z if nothing drives it; IEEE 1364-2005, clause 18 (value changes)
abbrev pub lane_digits : Option ℕ → List ℕ
lane_digits None = codes "z"
lane_digits (Some byte) = binary 8 byte

-- the text of a code
abbrev pub code_text : Code → List ℕ
code_text code = code.first ∷ option_to_list code.second

-- the line of a value: its digits, and the code of its variable; IEEE 1364-2005, clause 18 (value changes)
abbrev pub line_text : List ℕ → Code → List ℕ
line_text digits code = digits ++ (code_text code ++ 10 ∷ [])

-- the line of one of several lines with names of their own: their code is that of the variable and a digit
abbrev pub part_text : List ℕ → Code → ℕ → List ℕ
part_text digits code part = digits ++ (code_text code ++ (48 + part) ∷ 10 ∷ [])

-- the line of a lane, counted from 0 for the most significant
abbrev pub lane_text : Code → List (Option ℕ) → ℕ → List ℕ
lane_text code lanes i = part_text (codes "b" ++ (lane_digits (lane_found (slice_get lanes i)) ++ codes " ")) code i

-- the line of BG0IN* to BG3IN*, by the level
abbrev pub grant_text : Code → ℕ → ℕ → List ℕ
grant_text code bits level = part_text ((48 + bits / 2 ^ level % 2) ∷ []) code level

-- the lines of a value: one for each lane and each grant line
abbrev pub value_text : Code → Value → List ℕ
value_text code Low = line_text (codes "0") code
value_text code High = line_text (codes "1") code
value_text code Free = line_text (codes "z") code
value_text code Released = line_text (codes "bz ") code
value_text code (Number width number) = line_text (codes "b" ++ (binary width number ++ codes " ")) code
value_text code (Lanes lanes) = flat_map (lane_text code lanes) (range_with_len 0 4)
value_text code (Grants bits) = flat_map (grant_text code bits) (range_with_len 0 4)

-- the lines of a change
abbrev pub change_text : Change → List ℕ
change_text c = value_text c.code c.value

-- the line of a change at an edge; nothing at another edge
abbrev pub text_at : ℕ → Change → List ℕ
text_at k c = if c.edge == k then change_text c else []

-- the line of a time
abbrev pub time_text : ℕ → List ℕ
time_text time = codes "#" ++ (decimal time ++ 10 ∷ [])

-- edge k of event n: its time and its changes in order; nothing if nothing changes
abbrev pub edge_text : ℕ → List Change → ℕ → List ℕ
edge_text n changes k =
    if list_any (λ c. c.edge == k) changes then time_text (100 * n + 5 * k) ++ flat_map (text_at k) changes else []

-- event n: its edges
unfoldable pub event_text : ℕ → List Change → List ℕ
event_text n changes = flat_map (edge_text n changes) (range_with_len 0 EDGES)

-- the end, after n events
abbrev pub end_text : ℕ → List ℕ
end_text n = time_text (100 * n + 100)
