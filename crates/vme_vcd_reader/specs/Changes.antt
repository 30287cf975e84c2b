-- The levels that a change of a variable gives to lines.
use Rattle.std.specs.Prelude.{ℕ, ◌*◌, ◌/◌, ◌^◌, ◌%◌, Bool, not, ◌==◌, ◌||◌, if◌then◌else◌, bit_and, bit_or}
use Rattle.std.specs.Int.{bit_not, w32}
use Rattle.vme_vcd_reader.specs.declared.bits.Bits.{Bits}
use Rattle.vme_vcd_reader.specs.declared.change.Change.{Change}
use Rattle.vme_vcd_reader.specs.declared.variable.Mapped.{Mapped}

-- bits of a variable at the places of their lines
abbrev pub placed : Mapped → ℕ → ℕ
placed m bits = bit_and (((bits / 2 ^ (m.right % 64)) * 2 ^ (m.first % 64)) % 2 ^ 64) 0xffffffff

-- lines without others
abbrev pub without : ℕ → ℕ → ℕ
without lines others = bit_and lines (bit_not w32 others)

-- the lines that are high by the bits that are 1: the others, if the variable is 0 where they are high
abbrev pub ones_of : Mapped → ℕ → ℕ
ones_of m ones = if m.is_inverted then bit_not w32 ones else ones

-- the levels that the bits of a variable give to its lines
abbrev pub change_of : Mapped → Bits → Change
change_of m b = record {
  mask = m.mask;
  ones = without (without (bit_and (ones_of m (placed m b.ones)) m.mask) (placed m b.free)) (placed m b.undefined);
  free = bit_and (placed m b.free) m.mask;
  undefined = bit_and (placed m b.undefined) m.mask;
}

-- whether a line is undefined after a change of it alone
abbrev pub is_undefined : Change → Bool
is_undefined c = not (c.undefined == 0)

-- whether a line is high after a change of it alone: nothing drives it, or it is
abbrev pub is_high : Change → Bool
is_high c = not (bit_or c.ones c.free == 0)

-- the level of a control line after a change: high if it is undefined
abbrev pub level_after : Change → Bool
level_after c = is_high c || is_undefined c

-- the control lines that are undefined after a change of one
abbrev pub undefined_after : Change → ℕ → ℕ → ℕ
undefined_after c line old = if is_undefined c then bit_or old line else without old line

-- the lines of a group after a change: those of the variable have its levels
abbrev pub lines_after : Change → ℕ → ℕ
lines_after c old = bit_or (without old c.mask) c.ones

-- the lines of a group that are not driven or undefined after a change
abbrev pub idle_after : Change → ℕ → ℕ
idle_after c old = bit_or (bit_or (without old c.mask) c.free) c.undefined
