-- The rows of a map: their names stay when more names are stored.
use Rattle.std.proofs.Common.{◌≡◌, ℕ, zero, suc, ◌-◌, ◌<◌, ◌≤◌, List, [], ◌∷◌, ◌++◌, length, drop, Some, refl, arith, length-append, length-drop}
use Rattle.std.specs.List.{slice_get, slice_range}
use Rattle.std.proofs.lemmas.List.{take-append-le, drop-append-le, take_all, map-append}
use Rattle.std.proofs.lemmas.Option.{same_Some}
use Rattle.std.proofs.Math.Seq.{drop-append_seam}
use Rattle.vme_line_map.specs.Variables.{most_wanted}
use Rattle.vme_line_map.specs.Rows.{variable_of, variables_of, EndWithin, IsStored}
use Rattle.vme_line_map.specs.declared.map.Row.{Row}

-- a part of a list stays when more is appended
pub slice_range-append : (xs ys : List ℕ) (a b : ℕ) → a ≤ b → b ≤ length xs → slice_range (xs ++ ys) a b ≡ slice_range xs a b
slice_range-append xs ys a b low high =
    let first : a ≤ length xs = omega arith in
    let rest : b - a ≤ length (drop a xs) = omega (arith, length-drop a xs) in
    rw (drop-append-le a xs ys first, take-append-le (b - a) (drop a xs) ys rest) refl

-- what is appended is the part from the old end to the new end
pub slice_range-appended : (xs ys : List ℕ) → slice_range (xs ++ ys) (length xs) (length (xs ++ ys)) ≡ ys
slice_range-appended xs ys =
    let all : length ys ≤ length (xs ++ ys) - length xs = omega (arith, length-append xs ys) in
    rw drop-append_seam (take_all (length (xs ++ ys) - length xs) ys all)

-- rows that end within some bytes end within more
pub EndWithin-more : (m n : ℕ) (rows : List Row) → EndWithin m rows → m ≤ n → EndWithin n rows
EndWithin-more m n [] within more = tt
EndWithin-more m n (row ∷ rows) (low, high, rest) more = (low, omega arith, EndWithin-more m n rows rest more)

-- one more row
pub EndWithin-push : (n : ℕ) (rows : List Row) (row : Row) → EndWithin n rows → row.from ≤ row.to → row.to ≤ n → EndWithin n (rows ++ row ∷ [])
EndWithin-push n [] row within low high = (low, high, tt)
EndWithin-push n (first ∷ rows) row (a, b, rest) low high = (a, b, EndWithin-push n rows row rest low high)

-- the variables stay when more names are stored
pub variables_of-more : (names more : List ℕ) (rows : List Row) → EndWithin (length names) rows → variables_of (names ++ more) rows ≡ variables_of names rows
variables_of-more names more [] within = refl
variables_of-more names more (row ∷ rows) (low, high, rest) =
    let e = slice_range-append names more row.from row.to low high in
    let es = variables_of-more names more rows rest in
    cc

-- the row at an index has its name among the names
pub row_within : (n : ℕ) (rows : List Row) (index : ℕ) (row : Row) → EndWithin n rows → slice_get rows index ≡ Some row → (row.from ≤ row.to) × (row.to ≤ n)
row_within n [] index row within e = cc
row_within n (first ∷ rows) zero row (low, high, rest) e = let same = same_Some first row e in rw (← same) (low, high)
row_within n (first ∷ rows) (suc index) row (low, high, rest) e = row_within n rows index row rest e

-- what is stored stays stored when more names are stored
pub IsStored-more : (names more : List ℕ) (rows : List Row) → IsStored names rows → IsStored (names ++ more) rows
IsStored-more names more rows stored =
    record { within = EndWithin-more (length names) (length (names ++ more)) rows stored.within (omega (arith, length-append names more)); fits = stored.fits }

-- a row with the appended name, after rows that are stored
pub IsStored-push :
    (names more : List ℕ) (rows : List Row) (row : Row) → IsStored names rows → length rows < most_wanted → row.from ≡ length names
    → row.to ≡ length (names ++ more) → IsStored (names ++ more) (rows ++ row ∷ [])
IsStored-push names more rows row stored space from to =
    let more_rows = IsStored-more names more rows stored in
    record {
      within = EndWithin-push (length (names ++ more)) rows row more_rows.within (omega (arith, length-append names more)) (omega arith);
      fits = omega (arith, length-append rows (row ∷ []));
    }

-- its variable follows theirs
pub variables_of-push :
    (names more : List ℕ) (rows : List Row) (row : Row) → EndWithin (length names) rows → row.from ≡ length names → row.to ≡ length (names ++ more)
    → variables_of (names ++ more) (rows ++ row ∷ [])
    ≡ variables_of names rows ++ record { name = more; group = row.group; place = row.place; is_inverted = row.is_inverted } ∷ []
variables_of-push names more rows row within from to =
    let same = variables_of-more names more rows within in
    let name = slice_range-appended names more in
    let split = map-append (variable_of (names ++ more)) rows (row ∷ []) in
    grind (arith, same, name, split, from, to)
