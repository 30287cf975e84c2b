-- How a map is stored: the names one after another, and a row for each variable.
use Rattle.std.specs.Prelude.{ℕ, ◌≤◌, List, [], ◌∷◌, length, map, slice_range, ⊤}
use Rattle.vme_line_map.specs.Variables.{Variable, most_wanted}
use Rattle.vme_line_map.specs.declared.map.Row.{Row}

-- the variable of a row
abbrev pub variable_of : List ℕ → Row → Variable
variable_of names row =
    record { name = slice_range names row.from row.to; group = row.group; place = row.place; is_inverted = row.is_inverted }

-- the variables of rows
abbrev pub variables_of : List ℕ → List Row → List Variable
variables_of names rows = map (variable_of names) rows

-- each row's name ends within a number of bytes
abbrev pub EndWithin : ℕ → List Row → Type 0
EndWithin bytes [] = ⊤
EndWithin bytes (row ∷ rows) = (row.from ≤ row.to) × (row.to ≤ bytes) × EndWithin bytes rows

-- each row's name is among the names, and there are at most 500 rows
pub record IsStored (names : List ℕ) (rows : List Row) : Type 0 where
  pub within : EndWithin (length names) rows
  pub fits : length rows ≤ most_wanted
