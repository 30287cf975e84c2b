-- The levels of a line, as simulators write them: IEEE 1364-2005, clause 18, and those of VHDL.
use Rattle.std.specs.Prelude.{◌≡◌, ℕ, ◌+◌, ◌*◌, ◌^◌, ◌-◌, ◌%◌, min, ◌==◌, ◌||◌, if◌then◌else◌, List, [], ◌∷◌, length, Option, None, Some}
use Rattle.std.specs.Option.{option_map, option_and_then}
use Rattle.vme_vcd_reader.specs.declared.bits.Bits.{Bits}
use Rattle.vme_vcd_reader.specs.declared.bits.Level.{Level}
use Rattle.vme_vcd_reader.specs.declared.bits.Level.TheVariants.{Low, High, Free, Undefined}

-- the level that a byte spells: 0, 1, z and x, and L, H, U, W and - of VHDL, letters in either case
abbrev pub level_of : ℕ → Option Level
level_of c =
    if c == 48 || c == 76 || c == 108 then Some Low else
    (if c == 49 || c == 72 || c == 104 then Some High else
    (if c == 122 || c == 90 then Some Free else
    (if c == 120 || c == 88 || c == 85 || c == 117 || c == 87 || c == 119 || c == 45 then Some Undefined else None)))

-- the levels that digits spell
abbrev pub levels_of : List ℕ → Option (List Level)
levels_of [] = Some []
levels_of (c ∷ cs) = option_and_then (λ level. option_map (λ levels. level ∷ levels) (levels_of cs)) (level_of c)

-- 64 bits with one more at their right
abbrev pub put : ℕ → ℕ → ℕ
put bits bit = (2 * bits + bit) % 2 ^ 64

-- the bits of a value with one more level at their right
abbrev pub with_level : Bits → Level → Bits
with_level b Low = record { ones = put b.ones 0; free = put b.free 0; undefined = put b.undefined 0 }
with_level b High = record { ones = put b.ones 1; free = put b.free 0; undefined = put b.undefined 0 }
with_level b Free = record { ones = put b.ones 0; free = put b.free 1; undefined = put b.undefined 0 }
with_level b Undefined = record { ones = put b.ones 0; free = put b.free 0; undefined = put b.undefined 1 }

-- the bits of a value with levels at their right, one after another
abbrev pub with_levels : Bits → List Level → Bits
with_levels b [] = b
with_levels b (level ∷ levels) = with_levels (with_level b level) levels

-- the bits to the left of a value by its first level: they are z or x where it is, else 0
abbrev pub left_of : Level → Bits
left_of Low = record { ones = 0; free = 0; undefined = 0 }
left_of High = record { ones = 0; free = 0; undefined = 0 }
left_of Free = record { ones = 0; free = 2 ^ 64 - 1; undefined = 0 }
left_of Undefined = record { ones = 0; free = 0; undefined = 2 ^ 64 - 1 }

-- the last 64 bits of a value by its levels
abbrev pub value_of : List Level → Bits
value_of [] = left_of Low
value_of (first ∷ levels) = with_levels (left_of first) (first ∷ levels)

-- the levels of a value are kept as the last 64 bits, the first level and the number of levels, as far as it counts
abbrev pub IsValue : List Level → Bits → Level → ℕ → Type 0
IsValue [] bits first digits = (bits ≡ left_of Low) × (first ≡ Low) × (digits ≡ 0)
IsValue (level ∷ more) bits first digits =
    (bits ≡ with_levels (left_of Low) (level ∷ more)) × (first ≡ level)
    × (digits ≡ min (length (level ∷ more)) (2 ^ 32 - 1))
