-- The cycles of a class of slave, apart from the size of its memory.
use Rattle.std.specs.Prelude.{ℕ, Bool, false, ◌&&◌, if◌then◌else◌}
use Rattle.std.specs.Option.{option_map_or}
use Rattle.vme_lanes.specs.Rows.{location_at}
use Rattle.vme_cycle.specs.Counts.{is_wide_len}
use Rattle.vme_memory.specs.declared.class.Class.{Class}
use Rattle.vme_memory.specs.Classes.{answers, answers_quads, is_block_place, is_modify_place}

-- whether a byte location has these bytes, and the class has its cycle; IEEE 1014-1987, 2.3.6 (basic data transfer)
abbrev pub has_cycle : Class → ℕ → ℕ → Bool
has_cycle class at len = option_map_or (answers class) (location_at at len) false

-- whether the class has the cycle of a datum of a block; eight bytes require a width with quad bytes
abbrev pub has_block_cycle : Class → ℕ → ℕ → Bool
has_block_cycle class at len = if is_wide_len len then answers_quads class.width else has_cycle class at len

-- whether the class has a datum, of a block or not; IEEE 1014-1987, 2.3.7 (block transfer)
abbrev pub has_datum : Class → Bool → ℕ → ℕ → Bool
has_datum class block at len =
    if block then has_block_cycle class at len && is_block_place at len && class.blt else has_cycle class at len

-- whether the class has a read-modify-write; IEEE 1014-1987, 2.3.8 (read-modify-write)
abbrev pub has_modify : Class → ℕ → ℕ → Bool
has_modify class at len = has_cycle class at len && is_modify_place at len && class.rmw
