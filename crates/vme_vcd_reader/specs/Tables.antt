-- The variables that are mapped, by their identifiers.
use Rattle.std.specs.Prelude.{◌≡◌, ℕ, ◌+◌, ◌*◌, ◌/◌, ◌^◌, ◌%◌, ◌<◌, ◌≤◌, Bool, false, ◌==◌, ◌||◌, if◌then◌else◌, List, [], ◌∷◌, length, slice_get, slice_index, Some}
use Rattle.vme_vcd_reader.specs.declared.bits.Bits.{Bits}
use Rattle.vme_vcd_reader.specs.declared.bus.BusLines.{BusLines}
use Rattle.vme_vcd_reader.specs.declared.table.Row.{Row}
use Rattle.vme_vcd_reader.specs.declared.variable.Mapped.{Mapped}
use Rattle.vme_vcd_reader.specs.Buses.{bus_after}

-- whether some variable has an identifier
abbrev pub has_variable : List Row → ℕ → Bool
has_variable [] identifier = false
has_variable (row ∷ rows) identifier = row.identifier == identifier || has_variable rows identifier

-- the lines of the bus after the variables with an identifier have changed to these bits, the last one first
abbrev pub variables_after : List Row → ℕ → Bits → BusLines → BusLines
variables_after [] identifier bits bus = bus
variables_after (row ∷ rows) identifier bits bus =
    if row.identifier == identifier then bus_after (variables_after rows identifier bits bus) row.mapped bits
    else variables_after rows identifier bits bus

-- variables by their identifiers, with the lines that they are
abbrev pub variables_of : List Row → List (ℕ × Mapped)
variables_of [] = []
variables_of (row ∷ rows) = (row.identifier, row.mapped) ∷ variables_of rows

-- the list in which an identifier is sought
abbrev pub place_of : ℕ → ℕ
place_of identifier = (identifier * 0x9e37_79b9_7f4a_7c15) % 2 ^ 64 / 2 ^ 53

-- a link to a list's last variable among the first ones: its number, from 1, or 0 if there is none
pub record IsLink (rows : List Row) (link bound place : ℕ) : Type 0 where
  pub within : link ≤ bound
  pub there : (n : ℕ) (row : Row) → link ≡ n + 1 → slice_get rows n ≡ Some row → place_of row.identifier ≡ place
  pub last : (n : ℕ) (row : Row) → link ≤ n → n < bound → slice_get rows n ≡ Some row
      → (place_of row.identifier == place) ≡ false

-- there are 2048 lists; each has its last variable at its head, and each variable has the one before it in its list
pub record IsLinked (rows : List Row) (heads : List ℕ) : Type 0 where
  pub lists : (place : ℕ) → place < length heads → IsLink rows (slice_index heads place) (length rows) place
  pub links : (n : ℕ) (row : Row) → slice_get rows n ≡ Some row → IsLink rows row.next n (place_of row.identifier)
  pub all : length heads ≡ 2048
