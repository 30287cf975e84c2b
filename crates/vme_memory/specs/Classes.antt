-- The cycles of each class of slave.
use Rattle.std.specs.Prelude.{ℕ, ◌%◌, Bool, true, false, ◌==◌, ◌&&◌, ◌||◌, if◌then◌else◌}
use Rattle.vme_lanes.specs.declared.location.Location.{Location}
use Rattle.vme_lanes.specs.declared.location.Location.TheVariants.{Byte0, Byte1, Byte2, Byte3, Bytes01, Bytes23, Bytes03, Bytes02, Bytes13, Bytes12}
use Rattle.vme_cycle.specs.Counts.{is_block_len, is_modify_len, is_wide_len}
use Rattle.vme_memory.specs.declared.class.Class.{Class}
use Rattle.vme_memory.specs.declared.class.Width8To32.{Width8To32}
use Rattle.vme_memory.specs.declared.class.Width8To32.TheVariants.{D08, D16, D32}

-- whether a width has double bytes: D16 and wider; IEEE 1014-1987, 2.3.6 (basic data transfer)
abbrev pub answers_doubles : Width8To32 → Bool
answers_doubles D08 = false
answers_doubles D16 = true
answers_doubles D32 = true

-- whether a width has quad bytes: D32; IEEE 1014-1987, 2.3.6 (basic data transfer)
abbrev pub answers_quads : Width8To32 → Bool
answers_quads D08 = false
answers_quads D16 = false
answers_quads D32 = true

-- whether a class has the cycle of a location; unaligned ones require a capability of their own;
-- IEEE 1014-1987, 2.3.9 (unaligned transfer)
abbrev pub answers : Class → Location → Bool
answers class Byte0 = true
answers class Byte1 = true
answers class Byte2 = true
answers class Byte3 = true
answers class Bytes01 = answers_doubles class.width
answers class Bytes23 = answers_doubles class.width
answers class Bytes03 = answers_quads class.width
answers class Bytes02 = answers_quads class.width && class.uat
answers class Bytes13 = answers_quads class.width && class.uat
answers class Bytes12 = answers_quads class.width && class.uat

-- whether a class has the cycle of one, two or four bytes at a multiple of their number;
-- IEEE 1014-1987, 2.3.6 (basic data transfer)
abbrev pub answers_whole : Class → ℕ → Bool
answers_whole class n = n == 1 || (if n == 2 then answers_doubles class.width else answers_quads class.width)

-- where a datum of a block may be: one, two or four bytes at a multiple of their number;
-- IEEE 1014-1987, 2.3.7 (block transfer). A datum of eight bytes may be at a multiple of four
abbrev pub is_block_place : ℕ → ℕ → Bool
is_block_place at len = if is_wide_len len then at % 4 == 0 else is_block_len len && at % len == 0

-- where a read-modify-write may be: one, two or four bytes at a multiple of their number;
-- IEEE 1014-1987, 2.3.8 (read-modify-write)
abbrev pub is_modify_place : ℕ → ℕ → Bool
is_modify_place at len = is_modify_len len && at % len == 0

-- the lengths that the local port accepts at any offset: one, two or four bytes
abbrev pub is_local_len : ℕ → Bool
is_local_len len = len == 1 || len == 2 || len == 4
