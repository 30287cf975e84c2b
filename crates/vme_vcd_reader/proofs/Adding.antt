-- A table with one more variable.
use Rattle.std.proofs.Common.{◌≡◌, ◌≢◌, ◌⊎◌, inl, inr, ℕ, zero, suc, ◌<◌, ◌≤◌, true, false, ◌==◌, List, [], ◌∷◌, ◌++◌, length, get_or, set, Some, refl, ap, sym, ◌∙◌, subst, arith, length-set, get_or-set_same, get_or-set_other}
use Rattle.std.specs.Prelude.{slice_get}
use Rattle.std.proofs.lemmas.Bool.Decides.{eqb_tells}
use Rattle.std.proofs.lemmas.Option.{slice_get_within}
use Rattle.vme_vcd_reader.specs.declared.table.Row.{Row}
use Rattle.vme_vcd_reader.specs.Tables.{IsLink, IsLinked, place_of, variables_of}

-- a variable among more, and the last one
get_below : (xs ys : List Row) (n : ℕ) → n < length xs → slice_get (xs ++ ys) n ≡ slice_get xs n
get_below [] ys n within = absurd (omega arith)
get_below (x ∷ xs) ys zero within = refl
get_below (x ∷ xs) ys (suc n) within = get_below xs ys n (omega arith)

get_last : (xs : List Row) (y : Row) → slice_get (xs ++ y ∷ []) (length xs) ≡ Some y
get_last [] y = refl
get_last (x ∷ xs) y = get_last xs y

last_is : (rows : List Row) (row r : Row) (n : ℕ) → n ≡ length rows → slice_get (rows ++ row ∷ []) n ≡ Some r → r ≡ row
last_is rows row r n at get =
    let here : slice_get (rows ++ row ∷ []) n ≡ Some row = ap (slice_get (rows ++ row ∷ [])) at ∙ get_last rows row in cc

below_or_last : (n k : ℕ) → n < suc k → (n < k) ⊎ (n ≡ k)
below_or_last zero zero h = inr refl
below_or_last zero (suc k) h = inl (omega arith)
below_or_last (suc n) zero h = absurd (omega arith)
below_or_last (suc n) (suc k) h =
    elim (below_or_last n k (omega arith)) as (λ v. (suc n < suc k) ⊎ (suc n ≡ suc k)) [ inl less ↦ inl (omega arith) | inr same ↦ inr (ap suc same) ]

-- a link among the first variables is one among more
link_more : (rows more : List Row) (link bound place : ℕ) → bound ≤ length rows → IsLink rows link bound place
    → IsLink (rows ++ more) link bound place
link_more rows more link bound place fits is = record {
  within = is.within;
  there = λ n row at get. is.there n row at (sym (get_below rows more n (omega (arith, is.within))) ∙ get);
  last = λ n row from to get. is.last n row from to (sym (get_below rows more n (omega arith)) ∙ get);
}

-- the link of another list goes past one more variable
last_other : (rows : List Row) (row r : Row) (link place n : ℕ) → (place_of row.identifier == place) ≡ false → IsLink rows link (length rows) place
    → link ≤ n → slice_get (rows ++ row ∷ []) n ≡ Some r → (n < length rows) ⊎ (n ≡ length rows) → (place_of r.identifier == place) ≡ false
last_other rows row r link place n apart is from get (inl less) = is.last n r from less (sym (get_below rows (row ∷ []) n less) ∙ get)
last_other rows row r link place n apart is from get (inr same) =
    ap (λ (r : Row). place_of r.identifier == place) (last_is rows row r n same get) ∙ apart

link_other : (rows : List Row) (row : Row) (link place : ℕ) → (place_of row.identifier == place) ≡ false → IsLink rows link (length rows) place
    → IsLink (rows ++ row ∷ []) link (suc (length rows)) place
link_other rows row link place apart is = record {
  within = omega (arith, is.within);
  there = λ n r at get. is.there n r at (sym (get_below rows (row ∷ []) n (omega (arith, is.within))) ∙ get);
  last = λ n r from to get. last_other rows row r link place n apart is from get (below_or_last n (length rows) to);
}

-- the link to the last variable
link_last : (rows : List Row) (row : Row) → IsLink (rows ++ row ∷ []) (suc (length rows)) (suc (length rows)) (place_of row.identifier)
link_last rows row = record {
  within = omega arith;
  there = λ n r at get. ap (λ (r : Row). place_of r.identifier) (last_is rows row r n (omega arith) get);
  last = λ n r from to get. absurd (omega arith);
}

-- a link by its numbers
link_at : (rows : List Row) (link bound place l b p : ℕ) → link ≡ l → bound ≡ b → place ≡ p → IsLink rows l b p → IsLink rows link bound place
link_at rows link bound place l b p at_link at_bound at_place is =
    subst (λ link. IsLink rows link bound place) (sym at_link)
    (subst (λ bound. IsLink rows l bound place) (sym at_bound) (subst (λ place. IsLink rows l b place) (sym at_place) is))

length_more : (rows : List Row) (row : Row) → length (rows ++ row ∷ []) ≡ suc (length rows)
length_more [] row = refl
length_more (r ∷ rows) row = ap suc (length_more rows row)

-- each list after one more variable
list_by : (rows : List Row) (heads : List ℕ) (row : Row) (place : ℕ) → IsLinked rows heads → place < length heads → place_of row.identifier < length heads
    → ((place_of row.identifier == place) ≡ true) × (place_of row.identifier ≡ place)
    ⊎ ((place_of row.identifier == place) ≡ false) × (place_of row.identifier ≢ place)
    → IsLink (rows ++ row ∷ []) (get_or (set heads (place_of row.identifier) (suc (length rows))) place 0) (length (rows ++ row ∷ [])) place
list_by rows heads row place linked within here (inl same) =
    let there : get_or (set heads (place_of row.identifier) (suc (length rows))) (place_of row.identifier) 0 ≡ suc (length rows) =
    get_or-set_same heads (place_of row.identifier) (suc (length rows)) 0 here in
    link_at (rows ++ row ∷ []) _ _ place (suc (length rows)) (suc (length rows)) (place_of row.identifier)
    (ap (λ place. get_or (set heads (place_of row.identifier) (suc (length rows))) place 0) (sym same.1) ∙ there)
    (length_more rows row) (sym same.1) (link_last rows row)
list_by rows heads row place linked within here (inr other) =
    link_at (rows ++ row ∷ []) _ _ place (get_or heads place 0) (suc (length rows)) place
    (get_or-set_other heads (place_of row.identifier) place (suc (length rows)) 0 (λ same. other.1 (sym same)))
    (length_more rows row) refl (link_other rows row (get_or heads place 0) place other.0 (linked.lists place within))

-- the link of each variable
link_by : (rows : List Row) (heads : List ℕ) (row r : Row) (n : ℕ) → IsLinked rows heads → place_of row.identifier < length heads
    → row.next ≡ get_or heads (place_of row.identifier) 0 → slice_get (rows ++ row ∷ []) n ≡ Some r → (n < length rows) ⊎ (n ≡ length rows)
    → IsLink (rows ++ row ∷ []) r.next n (place_of r.identifier)
link_by rows heads row r n linked here next get (inl less) =
    link_more rows (row ∷ []) r.next n (place_of r.identifier) (omega arith)
    (linked.links n r (sym (get_below rows (row ∷ []) n less) ∙ get))
link_by rows heads row r n linked here next get (inr same) =
    let is : r ≡ row = last_is rows row r n same get in
    link_at (rows ++ row ∷ []) r.next n (place_of r.identifier) (get_or heads (place_of row.identifier) 0) (length rows) (place_of row.identifier)
    (ap (λ (r : Row). r.next) is ∙ next) same (ap (λ (r : Row). place_of r.identifier) is)
    (link_more rows (row ∷ []) (get_or heads (place_of row.identifier) 0) (length rows) (place_of row.identifier) (omega arith)
    (linked.lists (place_of row.identifier) here))

-- a table with one more variable, at the head of its list
pub linked_more : (rows : List Row) (heads : List ℕ) (row : Row) → IsLinked rows heads → place_of row.identifier < length heads
    → row.next ≡ get_or heads (place_of row.identifier) 0
    → IsLinked (rows ++ row ∷ []) (set heads (place_of row.identifier) (suc (length rows)))
linked_more rows heads row linked here next = record {
  lists = λ place within.
      list_by rows heads row place linked (omega (arith, length-set heads (place_of row.identifier) (suc (length rows)))) here
      (eqb_tells (place_of row.identifier) place);
  links = λ n r get.
      link_by rows heads row r n linked here next get
      (below_or_last n (length rows) (omega (arith, slice_get_within (rows ++ row ∷ []) n r get, length_more rows row)));
  all = length-set heads (place_of row.identifier) (suc (length rows)) ∙ linked.all;
}

-- the table without a variable
pub linked_none : (rows : List Row) (heads : List ℕ) → rows ≡ [] → length heads ≡ 2048 → ((k : ℕ) → get_or heads k 0 ≡ 0) → IsLinked rows heads
linked_none [] heads none all zeros = record {
  lists = λ place within. link_at [] _ 0 place 0 0 place (zeros place) refl refl
      (record { within = omega arith; there = λ n row at get. absurd (cc); last = λ n row from to get. absurd (cc) });
  links = λ n row get. absurd (cc);
  all = all;
}
linked_none (row ∷ rows) heads none all zeros = absurd (cc)

-- one more 0
pub zeros_more : (xs : List ℕ) → ((k : ℕ) → get_or xs k 0 ≡ 0) → (k : ℕ) → get_or (xs ++ 0 ∷ []) k 0 ≡ 0
zeros_more [] zeros zero = refl
zeros_more [] zeros (suc k) = refl
zeros_more (x ∷ xs) zeros zero = zeros 0
zeros_more (x ∷ xs) zeros (suc k) = zeros_more xs (λ k. zeros (suc k)) k

-- the variables with one more
pub variables_more : (rows : List Row) (row : Row) → variables_of (rows ++ row ∷ []) ≡ variables_of rows ++ (row.identifier, row.mapped) ∷ []
variables_more [] row = refl
variables_more (r ∷ rows) row = ap (λ more. (r.identifier, r.mapped) ∷ more) (variables_more rows row)

-- what a read of a list gives, by any default
read_is : (xs : List ℕ) (k x d : ℕ) → k < length xs → x ≡ get_or xs k x → x ≡ get_or xs k d
read_is [] k x d within is = absurd (omega arith)
read_is (y ∷ xs) zero x d within is = is
read_is (y ∷ xs) (suc k) x d within is = read_is xs k x d (omega arith) is

pub read_at : (ys xs : List ℕ) (k p x : ℕ) → ys ≡ xs → k ≡ p → k < length ys → x ≡ get_or ys k x → x ≡ get_or xs p 0
read_at ys xs k p x same at within is = read_is ys k x 0 within is ∙ ap (λ ys. get_or ys k 0) same ∙ ap (λ k. get_or xs k 0) at
