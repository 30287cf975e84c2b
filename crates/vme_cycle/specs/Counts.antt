-- The lengths and the numbers of data that single cycles and blocks may have.
use Rattle.std.specs.Prelude.{ℕ, ◌/◌, nat_le, Bool, true, false, ◌==◌, ◌&&◌, ◌||◌, if◌then◌else◌, Result, Ok, Err}
use Rattle.vme_am.specs.declared.code.AmFault.{AmFault}
use Rattle.vme_am.specs.Codes.{CodeRow, read_code}

-- the lengths of a single datum, one to four bytes; IEEE 1014-1987, 2.2.1 (addressing lines)
abbrev pub is_single_len : ℕ → Bool
is_single_len n = nat_le 1 n && nat_le n 4

-- the lengths of a datum of a block, one, two or four bytes; IEEE 1014-1987, 2.3.7 (block transfer)
abbrev pub is_block_len : ℕ → Bool
is_block_len n = n == 1 || n == 2 || n == 4

-- whether a datum has eight bytes
abbrev pub is_wide_len : ℕ → Bool
is_wide_len n = n == 8

-- whether a datum of a block may have a length, given whether its code is one of eight-byte data
abbrev pub is_datum_len : Bool → ℕ → Bool
is_datum_len true n = is_wide_len n
is_datum_len false n = is_block_len n

-- whether the row of a code is one of eight-byte data; false where the code has no row
abbrev pub is_wide_row : Result CodeRow AmFault → Bool
is_wide_row (Ok row) = row.wide
is_wide_row (Err fault) = false

-- whether a code is one of eight-byte data
abbrev pub is_wide_code : ℕ → Bool
is_wide_code code = is_wide_row (read_code code)

-- the lengths of a read-modify-write, one, two or four bytes; IEEE 1014-1987, 2.3.8 (read-modify-write)
abbrev pub is_modify_len : ℕ → Bool
is_modify_len n = n == 1 || n == 2 || n == 4

-- the numbers of data of a block: 1 to 256
abbrev pub is_block_count : ℕ → Bool
is_block_count count = nat_le 1 count && nat_le count 256

-- the distance between the addresses that no block crosses, 256; IEEE 1014-1987, 2.3.7 (block transfer). With data of
-- eight bytes it is 2,048
abbrev pub boundary_of : ℕ → ℕ
boundary_of n = if is_wide_len n then 2048 else 256

-- the unit between two block boundaries that contains an address
abbrev pub unit_of : ℕ → ℕ → ℕ
unit_of n addr = addr / boundary_of n
