-- The parts in which a processor makes an access: each is aligned, and at most as wide as what it moves at once.
use Rattle.std.specs.Prelude.{◌≡◌, ℕ, zero, suc, ◌+◌, ◌-◌, ◌%◌, ◌<◌, ◌≤◌, nat_le, Bool, ◌==◌, ◌&&◌, if◌then◌else◌, List, [], ◌∷◌}
use Rattle.vme_memory.specs.declared.class.Width8To32.{Width8To32}
use Rattle.vme_memory.specs.declared.class.Width8To32.TheVariants.{D08, D16, D32}
use Rattle.vme_split.specs.declared.part.Part.{Part}

-- how many bytes a processor of a width moves at once
abbrev pub width_bytes : Width8To32 → ℕ
width_bytes D08 = 1
width_bytes D16 = 2
width_bytes D32 = 4

-- whether a processor that moves `width` bytes at once moves `len` of the `n` bytes from `at` on
abbrev pub moves : ℕ → ℕ → ℕ → ℕ → Bool
moves len width at n = nat_le len width && nat_le len n && at % len == 0

-- the length of the first part of `n` bytes from `at` on: four bytes, or two, or one
abbrev pub part_len : ℕ → ℕ → ℕ → ℕ
part_len width at n = if moves 4 width at n then 4 else if moves 2 width at n then 2 else 1

-- at most so many parts of `n` bytes from `at` on
abbrev pub parts_within : ℕ → ℕ → ℕ → ℕ → List Part
parts_within zero width at n = []
parts_within (suc most) width at zero = []
parts_within (suc most) width at (suc n) =
    record { at = at; len = part_len width at (suc n) }
    ∷ parts_within most width (at + part_len width at (suc n)) (suc n - part_len width at (suc n))

-- the parts of an access of at most four bytes
abbrev pub parts : ℕ → ℕ → ℕ → List Part
parts width at n = parts_within 4 width at n

-- parts are the bytes of an access, in order
abbrev pub Cover : ℕ → ℕ → List Part → Type 0
Cover at n [] = n ≡ 0
Cover at n (part ∷ more) = (part.at ≡ at) × (part.len ≤ n) × Cover (at + part.len) (n - part.len) more

-- a part has bytes, begins at a multiple of their number, and is at most as wide
abbrev pub IsAligned : ℕ → Part → Type 0
IsAligned width part = (0 < part.len) × (part.len ≤ width) × (part.at % part.len ≡ 0)
