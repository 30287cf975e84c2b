-- The ranks of a table's rows at their places, and what a search among them determines.
use Rattle.std.proofs.Common.{◌≡◌, ℕ, ◌-◌, ◌^◌, ◌<◌, ◌≤◌, leb, List, length, get_or, replicate, refl, Some, ap, sym, ◌∙◌, arith, inl, inr}
use Rattle.std.specs.Prelude.{slice_get}
use Rattle.std.specs.List.Sorted.{IsNonDecreasingBy, IsPartitionedBy, IsPartitionPoint}
use Rattle.std.proofs.lemmas.Bool.{cases_lt, leb-true, le-leb}
use Rattle.std.proofs.lemmas.Option.{slice_get_cases, slice_get-get_or, slice_get_within, get_or_from_slice_get}
use Rattle.std.proofs.lemmas.List.{get_or-replicate, get_or_default}
use Rattle.vme_decode.specs.declared.table.Row.{Row}
use Rattle.vme_decode.specs.Table.{rank_of, HasRanks}

-- the first n places have the ranks of their rows, and all other places the greatest number
pub record HasRanksBelow (rows : List Row) (n : ℕ) (ranks : List ℕ) : Type 0 where
  pub places : length ranks ≡ 31
  pub used : (k : ℕ) (d : Row) → k < n → get_or ranks k 0 ≡ rank_of (get_or rows k d)
  pub unused : (k : ℕ) → n ≤ k → k < 31 → get_or ranks k 0 ≡ 2 ^ 64 - 1

-- before the first row all places have the greatest number
pub no_ranks : (rows : List Row) → HasRanksBelow rows 0 (replicate 31 (2 ^ 64 - 1))
no_ranks rows = record {
  places = refl;
  used = λ k d below. absurd (omega arith);
  unused = λ k from within. get_or-replicate 31 k (2 ^ 64 - 1) 0 within;
}

-- after the last row the places are the ranks of the rows
pub all_ranks : (rows : List Row) (n : ℕ) (ranks : List ℕ) → length rows ≤ 31 → n ≡ length rows → HasRanksBelow rows n ranks
    → HasRanks rows ranks
all_ranks rows n ranks few all has = record {
  few = omega (arith, has.places);
  used = λ k row there.
      has.used k row (omega (arith, slice_get_within rows k row there)) ∙ ap rank_of (get_or_from_slice_get rows k row row there);
  unused = λ k from within. has.unused k (omega arith) (omega (arith, has.places));
}

-- the ranks up to a number come before the greater ones
pub ranks_parted : (rows : List Row) (ranks : List ℕ) (top : ℕ) → IsNonDecreasingBy rank_of rows → HasRanks rows ranks
    → top < 2 ^ 64 - 1 → IsPartitionedBy (λ r. leb r top) ranks
ranks_parted rows ranks top rising has below i j d le within up_to =
    let rank_j : get_or ranks j d ≡ get_or ranks j 0 = get_or_default ranks j d 0 within in
    let rank_i : get_or ranks i d ≡ get_or ranks i 0 = get_or_default ranks i d 0 (omega arith) in
    let up_to_j : get_or ranks j d ≤ top = leb-true _ _ up_to in
    elim (slice_get_cases rows j).1 [
      | inl used ↦
          let row = used.0 in
          let risen : rank_of (get_or rows i row) ≤ rank_of (get_or rows j row) = rising i j row le used.1 in
          let at_j : rank_of (get_or rows j row) ≡ get_or ranks j 0 = ap rank_of used.3 ∙ sym (has.used j row used.2) in
          let at_i : get_or ranks i 0 ≡ rank_of (get_or rows i row) =
          has.used i (get_or rows i row) (slice_get-get_or rows i row (omega (arith, used.1))) in
          le-leb _ _ (omega arith)
      | inr unused ↦ absurd (omega (arith, has.unused j unused.0 within))
    ]

-- the rows before a place have ranks up to top, and the rows from it on have greater ranks
pub record RowsSplit (rows : List Row) (top end : ℕ) : Type 0 where
  pub within : end ≤ length rows
  pub up_to : (k : ℕ) (row : Row) → k < end → slice_get rows k ≡ Some row → rank_of row ≤ top
  pub above : (k : ℕ) (row : Row) → end ≤ k → slice_get rows k ≡ Some row → top < rank_of row

-- the partition point of the ranks is that of the rows
pub rows_split : (rows : List Row) (ranks : List ℕ) (top end : ℕ) → HasRanks rows ranks → top < 2 ^ 64 - 1 → end ≤ length ranks
    → IsPartitionPoint (λ r. r ≤ top) (λ r. top < r) ranks end → RowsSplit rows top end
rows_split rows ranks top end has below places point = record {
  within = elim (cases_lt (length rows) end) [
    | inl past ↦
        let up_to = point.0 (length rows) 0 (omega arith) past in
        absurd (omega (arith, has.unused (length rows) (omega arith) (omega arith)))
    | inr within ↦ within
  ];
  up_to = λ k row before there. rw (sym (has.used k row there)) (point.0 k 0 (omega arith) before);
  above = λ k row from there.
      let inside = slice_get_within rows k row there in
      rw (sym (has.used k row there)) (point.1 k 0 from (omega (arith, has.few)));
}
