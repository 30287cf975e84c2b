-- Codes of eight-byte data, and the number of bytes that they select.
use Rattle.std.proofs.Common.{◌≡◌, ℕ, Bool, true, false, List, [], ◌∷◌, find, Option, None, Some, Ok, refl, ap, sym, ◌∙◌, inl, inr}
use Rattle.std.specs.Prelude.{◌==◌, ◌||◌, not}
use Rattle.std.specs.List.{list_all}
use Rattle.std.specs.Option.{ok_or}
use Rattle.std.proofs.lemmas.Bool.{cases_Bool, and_parts, eqb-true}
use Rattle.vme_am.specs.Kinds.{is_block}
use Rattle.vme_am.specs.Codes.{CodeRow, table, row_at, code_fault, read_code}
use Rattle.vme_lanes.specs.declared.location.Location.{Location}
use Rattle.vme_lanes.specs.Rows.{row_of}
use Rattle.vme_cycle.specs.Counts.{is_wide_row, is_wide_code}
use Rattle.vme_cycle.specs.SignalLines.{len_with, chosen_len}

-- what holds of each element holds of the element that is found
all_found : (holds test : CodeRow → Bool) (rows : List CodeRow) (row : CodeRow) → list_all holds rows ≡ true → find test rows ≡ Some row → holds row ≡ true
all_found holds test [] row all h = absurd cc
all_found holds test (r ∷ rows) row all h =
    let parts = and_parts (holds r) (list_all holds rows) all in
    elim (cases_Bool (test r)) [
      | inl passes ↦ let same : r ≡ row = let found = rw passes at h in cc in ap holds (sym same) ∙ parts.0
      | inr fails ↦ all_found holds test rows row parts.1 (rw fails at h)
    ]

-- whether a row, if it is one of eight-byte data, is a block row
abbrev only_blocks : CodeRow → Bool
only_blocks row = not row.wide || is_block row.kind

-- a row of eight-byte data that passes the test is a block row
found_block : (row : CodeRow) → row.wide ≡ true → only_blocks row ≡ true → is_block row.kind ≡ true
found_block row wide only = rw wide at only

-- the row that is read for a code was found in the table
read_at : (code : ℕ) (row : CodeRow) (found : Option CodeRow) → ok_or found (code_fault code) ≡ Ok row → found ≡ Some row
read_at code row None h = absurd cc
read_at code row (Some r) h = cc

-- the row of a code of eight-byte data is a block row
pub wide_is_block : (code : ℕ) (row : CodeRow) → read_code code ≡ Ok row → row.wide ≡ true → is_block row.kind ≡ true
unfolding read_code
wide_is_block code row h wide =
    found_block row wide (all_found only_blocks (λ r. r.code == code) table row refl (read_at code row (row_at code) h))

-- whether a code is one of eight-byte data is what its row states
pub wide_code : (code : ℕ) (row : CodeRow) → read_code code ≡ Ok row → is_wide_code code ≡ row.wide
wide_code code row h = ap is_wide_row h

-- two numbers are equal if their options are
some_same : (a b : ℕ) → Some a ≡ Some b → a ≡ b
some_same a b h = cc

-- with a code of eight-byte data, a location that selects bytes has four
four_of : (len n : ℕ) → len_with true len ≡ Some n → len ≡ 4
four_of len n h =
    elim (cases_Bool (len == 4)) [
      | inl four ↦ eqb-true len 4 four
      | inr other ↦ let none = rw other at h in absurd cc
    ]

-- the number of selected bytes determines the length of the location
pub same_len : (wide : Bool) (a b : Location) (n : ℕ) → chosen_len wide a ≡ Some n → chosen_len wide b ≡ Some n → (row_of a).len ≡ (row_of b).len
same_len true a b n first second = four_of (row_of a).len n first ∙ sym (four_of (row_of b).len n second)
same_len false a b n first second = some_same _ _ (first ∙ sym second)

-- without a code of eight-byte data, the number of selected bytes is the length of the location
pub plain_len : (l : Location) (n : ℕ) → chosen_len false l ≡ Some n → (row_of l).len ≡ n
plain_len l n h = some_same _ _ h
