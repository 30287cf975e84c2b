-- The last row of a table up to a rank.
use Rattle.std.proofs.Common.{◌≡◌, ℕ, ◌-◌, ◌<◌, ◌≤◌, Bor, List, Option, None, Some, length, get_or, ap, sym, ◌∙◌, arith, inl, inr}
use Rattle.std.specs.Prelude.{nat_lt, slice_get, is_some, option_copied, Contains}
use Rattle.std.specs.Option.{MatchOption}
use Rattle.std.specs.Bool.{⊤}
use Rattle.std.specs.List.Sorted.{IsNonDecreasingBy}
use Rattle.std.proofs.lemmas.Bool.{cases_lt, lt-ltb}
use Rattle.std.proofs.lemmas.Option.{slice_get_within, get_or_from_slice_get, slice_get-get_or}
use Rattle.vme_decode.specs.declared.table.Row.{Row}
use Rattle.vme_decode.specs.Table.{rank_of, IsLast, IsLastUpTo}
use Rattle.vme_decode.proofs.Ranks.{RowsSplit}

-- a row of a table has a position
at_place : (rows : List Row) (row : Row) (there : Contains rows row) → slice_get rows there.0 ≡ Some row
at_place rows row there = slice_get-get_or rows there.0 row there.1 ∙ ap Some there.2

-- a row up to the rank is before the partition point
before_end : (rows : List Row) (top end : ℕ) (row : Row) → RowsSplit rows top end → rank_of row ≤ top
    → (there : Contains rows row) → there.0 < end
before_end rows top end row row_split up_to there =
    elim (cases_lt there.0 end) [
      | inl before ↦ before
      | inr past ↦ absurd (omega (arith, row_split.above there.0 row past (at_place rows row there)))
    ]

-- if no row is before the partition point, each rank is greater
pub none_up_to_rank : (rows : List Row) (top : ℕ) → RowsSplit rows top 0 → IsLastUpTo rows top None
none_up_to_rank rows top row_split row there = row_split.above there.0 row (omega arith) (at_place rows row there)

-- the row before the partition point is the last up to the rank
some_up_to : (rows : List Row) (top end : ℕ) (last : Row) → IsNonDecreasingBy rank_of rows → RowsSplit rows top end → 0 < end
    → slice_get rows (end - 1) ≡ Some last → IsLast rows top last
some_up_to rows top end last rising row_split some found =
    let at : get_or rows (end - 1) last ≡ last = get_or_from_slice_get rows (end - 1) last last found in
    record {
      there = (end - 1, slice_get_within rows (end - 1) last found, at);
      up_to = row_split.up_to (end - 1) last (omega arith) found;
      after = λ row there up_to.
          let before : there.0 < end = before_end rows top end row row_split up_to there in
          let risen : rank_of (get_or rows there.0 row) ≤ rank_of (get_or rows (end - 1) row) =
          rising there.0 (end - 1) row (omega arith) (slice_get_within rows (end - 1) last found) in
          let row_is : rank_of (get_or rows there.0 row) ≡ rank_of row = ap rank_of there.2 in
          let last_is : rank_of (get_or rows (end - 1) row) ≡ rank_of last =
          ap rank_of (get_or_from_slice_get rows (end - 1) last row found) in
          omega arith;
    }

-- if the partition point is positive, the row before it exists
not_none : (rows : List Row) (top end : ℕ) → RowsSplit rows top end → 0 < end → None ≡ slice_get rows (end - 1)
    → IsLastUpTo rows top None
not_none rows top end row_split some found_is row there =
    let last = slice_get-get_or rows (end - 1) row (omega (arith, row_split.within)) in
    cc

-- the row that is found before the partition point is the last up to the rank
pub last_at : (rows : List Row) (top end : ℕ) (found : Option Row) → IsNonDecreasingBy rank_of rows → RowsSplit rows top end
    → 0 < end → found ≡ slice_get rows (end - 1) → IsLastUpTo rows top found
last_at rows top end None rising row_split some found_is = not_none rows top end row_split some found_is
last_at rows top end (Some last) rising row_split some found_is = some_up_to rows top end last rising row_split some (sym found_is)

-- the row that an indexed access returns
pub got : (rows : List Row) (k : ℕ) (found : Option (Bor Row)) → is_some found ≡ nat_lt k (length rows)
    → MatchOption found ⊤ (λ row. row.now ≡ get_or rows k row.now) → k < length rows → option_copied found ≡ slice_get rows k
got rows k None is_there item within = let below = lt-ltb k (length rows) within in cc
got rows k (Some row) is_there item within = ap Some item ∙ sym (slice_get-get_or rows k row.now within)
