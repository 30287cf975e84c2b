-- Lists that are two appended lists in two ways.
use Rattle.std.proofs.Common.{◌≡◌, suc, ◌+◌, ◌≤◌, ◌<◌, List, [], ◌∷◌, ◌++◌, length, refl, ap, sym, ◌∙◌, append_assoc, length-append, arith}
use Rattle.std.specs.Prelude.{All}
use Rattle.std.proofs.lemmas.List.Elements.{All-nil, All-cons, All-head, All-tail}

-- one list is another and more, of two that begin a list
pub record IsMore {X : Type 0} (xs ys shorter rest : List X) : Type 0 where
  pub more : List X
  pub first : xs ≡ shorter ++ more
  pub last : more ++ ys ≡ rest

-- of two lists that begin a list, one that is no shorter is the other and more
pub is_more : {X : Type 0} (xs ys shorter rest : List X) → xs ++ ys ≡ shorter ++ rest → length shorter ≤ length xs
    → IsMore xs ys shorter rest
is_more xs ys [] rest same less = record { more = xs; first = refl; last = same }
is_more [] ys (y ∷ shorter) rest same less = absurd (omega (arith, less))
is_more {X} (x ∷ xs) ys (y ∷ shorter) rest same less =
    let head : x ≡ y = cc same in
    let tail : xs ++ ys ≡ shorter ++ rest = cc same in
    let one : IsMore xs ys shorter rest = is_more xs ys shorter rest tail (omega (arith, less)) in
    record { more = one.more; first = λ k. head k ∷ one.first k; last = one.last }

-- the place of two elements in a part of a list
pub record IsAmid {X : Type 0} (before between earlier own : List X) (m n : X) : Type 0 where
  pub first : List X
  pub rest : List X
  pub begins : before ≡ earlier ++ first
  pub whole : own ≡ first ++ m ∷ (between ++ n ∷ rest)

-- two elements that are in a part of a list by their places
pub is_amid : {X : Type 0} (before between after earlier own later : List X) (m n : X)
    → before ++ m ∷ (between ++ n ∷ after) ≡ earlier ++ (own ++ later) → length earlier ≤ length before
    → length before + 1 + length between < length earlier + length own → IsAmid before between earlier own m n
is_amid before between after earlier own later m n same begins to =
    let head_part = is_more before (m ∷ (between ++ n ∷ after)) earlier (own ++ later) same begins in
    let head = head_part.more ++ m ∷ (between ++ n ∷ []) in
    let split : own ++ later ≡ head ++ after =
    sym head_part.last ∙ ap (λ l. head_part.more ++ m ∷ l) (sym (append_assoc between (n ∷ []) after))
    ∙ sym (append_assoc head_part.more (m ∷ (between ++ n ∷ [])) after) in
    let count : length head ≡ length head_part.more + (length between + 2) =
    length-append head_part.more (m ∷ (between ++ n ∷ [])) ∙ ap (λ k. length head_part.more + suc k) (length-append between (n ∷ [])) ∙ omega arith in
    let long : length before ≡ length earlier + length head_part.more = ap length head_part.first ∙ length-append earlier head_part.more in
    let tail_part = is_more own later head after split (omega (arith, count, long, to)) in
    record {
      first = head_part.more;
      rest = tail_part.more;
      begins = head_part.first;
      whole = tail_part.first ∙ append_assoc head_part.more (m ∷ (between ++ n ∷ [])) tail_part.more
          ∙ ap (λ l. head_part.more ++ m ∷ l) (append_assoc between (n ∷ []) tail_part.more);
    }

-- a property holds of all elements if it holds of each, by what comes before it and after it
pub all_by_place : {X : Type 0} (P : X → Type 0) (xs : List X)
    → ((first rest : List X) (x : X) → xs ≡ first ++ x ∷ rest → P x) → All P xs
all_by_place P [] each = All-nil P
all_by_place P (x ∷ xs) each =
    All-cons P x xs (each [] xs x refl)
    (all_by_place P xs (λ first rest y is. each (x ∷ first) rest y (ap (λ l. x ∷ l) is)))

-- a property of all elements holds of the first of them
pub all_first : {X : Type 0} (P : X → Type 0) (first rest : List X) → All P (first ++ rest) → All P first
all_first P [] rest all = All-nil P
all_first P (x ∷ first) rest all =
    All-cons P x first (All-head P x (first ++ rest) all) (all_first P first rest (All-tail P x (first ++ rest) all))
