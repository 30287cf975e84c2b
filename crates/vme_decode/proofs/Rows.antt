-- The rows of a table, collected from a list of entries.
use Rattle.std.proofs.Common.{◌≡◌, ℕ, ◌+◌, ◌<◌, ◌≤◌, List, [], ◌∷◌, ◌++◌, length, Some, ap, sym, ◌∙◌, subst, arith, inl, inr}
use Rattle.std.specs.Prelude.{slice_get, All, Contains, IsPermutation}
use Rattle.std.specs.List.Sorted.{IsNonDecreasingBy}
use Rattle.std.proofs.lemmas.Bool.{cases_lt}
use Rattle.std.proofs.lemmas.Option.{same_Some, slice_get_within}
use Rattle.std.proofs.lemmas.List.{length-append}
use Rattle.std.proofs.lemmas.List.Elements.{All-nil, All-push, Contains-append_left, Contains-push}
use Rattle.std.proofs.lemmas.List.Sorted.{All-permutation, Contains-permutation}
use Rattle.vme_decode.specs.declared.entry.Entry.{Entry}
use Rattle.vme_decode.specs.declared.table.Row.{Row}
use Rattle.vme_decode.specs.Table.{rank_of, IsRow, IsTable}

-- rows are those of the first n entries of a list
pub record HasRows (entries : List Entry) (n : ℕ) (rows : List Row) : Type 0 where
  pub few : length rows ≤ n
  pub own : All (IsRow entries) rows
  pub complete : (row : Row) → IsRow entries row → row.place < n → Contains rows row

-- no rows are those of the first 0 entries
pub has_none : (entries : List Entry) → HasRows entries 0 []
has_none entries = record { few = omega arith; own = All-nil (IsRow entries); complete = λ row is_row below. absurd (omega arith) }

-- a row from its parts: position, entry
abbrev pub row_at : ℕ → Entry → Row
row_at place entry = record { place = place; entry = entry }

-- two rows of a list with one position are equal
pub same_row : (entries : List Entry) (a b : Row) → IsRow entries a → IsRow entries b → a.place ≡ b.place → a ≡ b
same_row entries a b is_a is_b same =
    let there : Some a.entry ≡ Some b.entry = sym is_a.there ∙ ap (slice_get entries) same ∙ is_b.there in
    ap (λ place. row_at place a.entry) same ∙ ap (row_at b.place) (same_Some _ _ there)

-- an entry that covers some address adds its row
pub has_pushed : (entries : List Entry) (rows : List Row) (row : Row)
    → HasRows entries row.place rows → IsRow entries row → HasRows entries (row.place + 1) (rows ++ row ∷ [])
has_pushed entries rows row has is_row = record {
  few = omega (arith, length-append rows (row ∷ []), has.few);
  own = All-push (IsRow entries) rows row has.own is_row;
  complete = λ other is_other below. elim (cases_lt other.place row.place) [
    | inl before ↦ Contains-append_left rows (row ∷ []) other (has.complete other is_other before)
    | inr at ↦
        let same : row ≡ other = same_row entries row other is_row is_other (omega arith) in
        subst (Contains (rows ++ row ∷ [])) same (Contains-push rows row)
  ];
}

-- an entry that covers no address adds no row
pub has_skipped : (entries : List Entry) (rows : List Row) (n : ℕ) (entry : Entry)
    → HasRows entries n rows → slice_get entries n ≡ Some entry → entry.size ≡ 0 → HasRows entries (n + 1) rows
has_skipped entries rows n entry has there empty = record {
  few = omega (arith, has.few);
  own = has.own;
  complete = λ other is_other below. elim (cases_lt other.place n) [
    | inl before ↦ has.complete other is_other before
    | inr at ↦
        let same : other.place ≡ n = omega arith in
        let entry_is : other.entry ≡ entry = same_Some _ _ (sym is_other.there ∙ ap (slice_get entries) same ∙ there) in
        absurd (omega (arith, is_other.covering, ap (λ (e : Entry). e.size) entry_is, empty))
  ];
}

-- the sorted rows of all entries are the table
pub table_from_rows : (entries : List Entry) (n : ℕ) (rows sorted : List Row) → length entries ≤ n → HasRows entries n rows
    → IsPermutation rows sorted → IsNonDecreasingBy rank_of sorted → IsTable entries sorted
table_from_rows entries n rows sorted all has moved rising = record {
  rising = rising;
  own = All-permutation (IsRow entries) rows sorted moved has.own;
  complete = λ row is_row.
      let within = slice_get_within entries row.place row.entry is_row.there in
      Contains-permutation rows sorted row moved (has.complete row is_row (omega arith));
}
