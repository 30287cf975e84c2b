-- The table of a search: the entries that cover some address, sorted by space and base.
use Rattle.std.specs.Prelude.{◌≡◌, ℕ, ◌+◌, ◌-◌, ◌*◌, ◌^◌, ◌<◌, ◌≤◌, List, Option, None, Some, length, slice_get, slice_index, All, Contains}
use Rattle.std.specs.List.Sorted.{IsNonDecreasingBy}
use Rattle.vme_am.specs.declared.code.Space.{Space}
use Rattle.vme_am.specs.declared.code.Space.TheVariants.{A16, A24, A32}
use Rattle.vme_decode.specs.declared.entry.Entry.{Entry}
use Rattle.vme_decode.specs.declared.table.Row.{Row}

-- the rank of an address: the spaces follow one another, and each takes 2 ^ 32 ranks
abbrev pub rank : Space → ℕ → ℕ
rank A16 addr = addr
rank A24 addr = 2 ^ 32 + addr
rank A32 addr = 2 * 2 ^ 32 + addr

-- the rank of the first address of a row's entry
abbrev pub rank_of : Row → ℕ
rank_of row = rank row.entry.space row.entry.base

-- a row has an entry of the list that covers some address, and its position in the list
pub record IsRow (entries : List Entry) (row : Row) : Type 0 where
  pub there : slice_get entries row.place ≡ Some row.entry
  pub covering : 0 < row.entry.size

-- rows are the table of a list: sorted by rank, each is a row of the list, and no row of the list is missing
pub record IsTable (entries : List Entry) (rows : List Row) : Type 0 where
  pub rising : IsNonDecreasingBy rank_of rows
  pub own : All (IsRow entries) rows
  pub complete : (row : Row) → IsRow entries row → Contains rows row

-- the ranks of a search are those of the rows, with the greatest number at the unused places
pub record HasRanks (rows : List Row) (ranks : List ℕ) : Type 0 where
  pub few : length rows ≤ length ranks
  pub used : (k : ℕ) (row : Row) → slice_get rows k ≡ Some row → slice_index ranks k ≡ rank_of row
  pub unused : (k : ℕ) → length rows ≤ k → k < length ranks → slice_index ranks k ≡ 2 ^ 64 - 1

-- a row is the last of a table whose rank is at most top
pub record IsLast (rows : List Row) (top : ℕ) (last : Row) : Type 0 where
  pub there : Contains rows last
  pub up_to : rank_of last ≤ top
  pub after : (row : Row) → Contains rows row → rank_of row ≤ top → rank_of row ≤ rank_of last

-- the last row whose rank is at most top; none where each rank is greater
abbrev pub IsLastUpTo : List Row → ℕ → Option Row → Type 0
IsLastUpTo rows top None = (row : Row) → Contains rows row → top < rank_of row
IsLastUpTo rows top (Some last) = IsLast rows top last
