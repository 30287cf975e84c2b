-- Which bits of a declared variable are which lines of a wanted one.
use Rattle.std.specs.Prelude.{ℕ, ◌+◌, ◌-◌, ◌^◌, ◌%◌, nat_lt, nat_le, min, max, ◌==◌, ◌&&◌, if◌then◌else◌, List, ◌++◌, Option, Some, None}
use Rattle.vme_line_map.specs.Groups.{lines}
use Rattle.vme_line_map.specs.Variables.{Variable}
use Rattle.vme_line_map.specs.declared.group.Group.{Group}
use Rattle.vme_line_map.specs.declared.group.Group.TheVariants.{Address}
use Rattle.vme_line_map.specs.declared.map.Place.{Place}
use Rattle.vme_line_map.specs.declared.map.Place.TheVariants.{Ranged, From, Bits}
use Rattle.vme_vcd_reader.specs.declared.variable.Declared.{Declared}
use Rattle.vme_vcd_reader.specs.declared.variable.Mapped.{Mapped}
use Rattle.vme_vcd_reader.specs.declared.variable.Span.{Span}
use Rattle.vme_vcd_reader.specs.Headers.{Heading}
use Rattle.vme_vcd_reader.specs.Headings.{path_of}
use Rattle.vme_vcd_reader.specs.Ranges.{named}

-- a variable that a header declares: its path without the range behind it, how many scopes were opened before it, its
-- identifier, its size, and the indices of its first and its last bit, if it has a range
pub record Declaration : Type 0 where
  pub path : List ℕ
  pub scope : ℕ
  pub identifier : ℕ
  pub size : ℕ
  pub range : Option (ℕ × ℕ)

-- the variable that a header has declared last
abbrev pub declaration : Heading → Declaration
declaration h = record {
  path = path_of h.scopes ++ (named h.name).0;
  scope = h.opened;
  identifier = h.identifier;
  size = h.size;
  range = (named h.name).1;
}

-- the declaration that a reader has
abbrev pub declaration_of : Declared → Declaration
declaration_of d =
    record { path = d.path.now; scope = d.scope; identifier = d.identifier; size = d.size; range = d.range }

-- how many bits stand right of that with an index; without a range, the last bit has the index 0
abbrev pub right_of : Option (ℕ × ℕ) → ℕ → ℕ
right_of None index = index
right_of (Some (first, last)) index = max index last - min index last

-- the lowest line of an address whose variable has no range: A01 if it has an odd number of bits, A02 if two less than a
-- multiple of eight, else A00
abbrev pub lowest_address : ℕ → ℕ
lowest_address size = if size % 2 == 1 then 1 else (if size % 8 == 6 then 2 else 0)

-- the lowest line of a variable that has all bits from some line on: the least index of its range
abbrev pub lowest_line : Group → ℕ → Option (ℕ × ℕ) → ℕ
lowest_line group size (Some (one, other)) = min one other
lowest_line Address size None = lowest_address size
lowest_line _ size None = 0

-- the bits of a variable that a place says, if it has them: how many stand right of them, the line of the last one, and how
-- many they are
abbrev pub span_of : Group → Place → ℕ → Option (ℕ × ℕ) → Option Span
span_of group (From first) size range = Some (record { right = 0; first = first; count = size })
span_of group (Ranged more) size range = Some (record { right = 0; first = lowest_line group size range + more; count = size })
span_of group (Bits high low first) size range =
    if nat_lt (right_of range high) size && (nat_lt (right_of range low) size && nat_le low high)
    then Some (record { right = min (right_of range high) (right_of range low); first = first; count = high - low + 1 })
    else None

-- bits as lines, if the group has so many
abbrev pub spanned : Variable → ℕ → Option Span → Option Mapped
spanned w size None = None
spanned w size (Some s) =
    if nat_le (s.first + s.count) (lines w.group)
    then Some (record {
      group = w.group;
      right = s.right;
      first = s.first;
      mask = 2 ^ (s.first + s.count) - 2 ^ s.first;
      size = size;
      is_inverted = w.is_inverted;
    })
    else None

-- the bits of a declared variable that are lines of a wanted one; none if it has others than the map says, or more than 64
abbrev pub mapped_of : Variable → Declaration → Option Mapped
mapped_of w d =
    if nat_le 1 d.size && nat_le d.size 64 then spanned w d.size (span_of w.group w.place d.size d.range) else None
