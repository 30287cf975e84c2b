-- The form that the words of a line name.
use Rattle.std.proofs.Common.{◌≡◌, ℕ, ◌<◌, ◌≤◌, slice_index_or, Bool, true, false, List, [], ◌∷◌, length, None, Some, Err, refl, inl, inr, arith}
use Rattle.vme_grammar.proofs.Cases.{cases_Result, same_count}
use Rattle.vme_grammar.specs.Fields.{Field, Name, with_field}
use Rattle.std.specs.Prelude.{find, slice_get, drop, codes}
use Rattle.std.specs.List.{list_any}
use Rattle.std.specs.Str.{bytes_eq}
use Rattle.std.proofs.lemmas.Bool.{cases_Bool}
use Rattle.std.proofs.lemmas.Slice.Eq.{bytes_eq-Decides}
use Rattle.vme_grammar.specs.declared.fault.LineFault.TheVariants.{UnknownWord}
use Rattle.vme_grammar.specs.declared.form.LineForm.{LineForm}
use Rattle.vme_grammar.specs.declared.form.LineForm.TheVariants.{Read, Write, BlockRead, BlockWrite, BlockFill, Modify, LocalRead, LocalWrite, LocalModify, Await, Lock, Unlock, Put, Take}
use Rattle.vme_grammar.specs.declared.function.Function.TheVariants.{Set}
use Rattle.vme_grammar.specs.Forms.{Place, Word, Of, places, fields_of, forms}
use Rattle.vme_grammar.specs.Grammar.{matches_fixed, form_of, operands_of, line_of_words}
use Rattle.vme_grammar.specs.Naming.{form_named, function_of, with_function, line_by, line_named}

-- the six bytes of `unlock` name the form Unlock
pub unlock_named :
    (word : List ℕ) → 6 ≤ length word → length word < 7 → slice_index_or word 0 0 ≡ 117 → slice_index_or word 1 0 ≡ 110
    → slice_index_or word 2 0 ≡ 108 → slice_index_or word 3 0 ≡ 111 → slice_index_or word 4 0 ≡ 99 → slice_index_or word 5 0 ≡ 107
    → Some Unlock ≡ form_named word
unfolding form_named
unlock_named [] long short u n l o c k = absurd (omega arith)
unlock_named (p ∷ []) long short u n l o c k = absurd (omega (arith, long))
unlock_named (p ∷ q ∷ []) long short u n l o c k = absurd (omega (arith, long))
unlock_named (p ∷ q ∷ r ∷ []) long short u n l o c k = absurd (omega (arith, long))
unlock_named (p ∷ q ∷ r ∷ s ∷ []) long short u n l o c k = absurd (omega (arith, long))
unlock_named (p ∷ q ∷ r ∷ s ∷ t ∷ []) long short u n l o c k = absurd (omega (arith, long))
unlock_named (p ∷ q ∷ r ∷ s ∷ t ∷ v ∷ []) long short u n l o c k = rw (u, n, l, o, c, k) refl
unlock_named (p ∷ q ∷ r ∷ s ∷ t ∷ v ∷ w ∷ more) long short u n l o c k = absurd (omega (arith, short))

-- the empty list of words matches all places if an absent word counts as a match
matches_fixed_none : (more : List Place) → matches_fixed true more [] ≡ true
matches_fixed_none [] = refl
matches_fixed_none (Word text ∷ more) = matches_fixed_none more
matches_fixed_none (Of field ∷ more) = matches_fixed_none more

-- if the first word alone does not match, it does not match with more words after it
first_fails :
    (some : List Place) (word : List ℕ) (words : List (List ℕ)) → matches_fixed true some (word ∷ []) ≡ false
    → matches_fixed true some (word ∷ words) ≡ false
first_fails [] word words miss = absurd (let bad : true ≡ false = miss in cc)
first_fails (Of field ∷ more) word words miss = absurd (let good : matches_fixed true more [] ≡ true = matches_fixed_none more in cc)
first_fails (Word text ∷ more) word words miss =
    elim (cases_Bool (bytes_eq word text)) [
      | inl hit ↦ absurd (let bad = rw (hit, matches_fixed_none more) at miss in cc)
      | inr other ↦ rw other refl
    ]

-- if no form begins with a word, no form matches words that begin with it
none_named :
    (some : List LineForm) (word : List ℕ) (words : List (List ℕ)) → find (λ form. matches_fixed true (places form) (word ∷ [])) some ≡ None
    → list_any (λ form. matches_fixed true (places form) (word ∷ words)) some ≡ false
none_named [] word words none = refl
none_named (form ∷ some) word words none =
    elim (cases_Bool (matches_fixed true (places form) (word ∷ []))) [
      | inl hit ↦ absurd (let bad = rw hit at none in cc)
      | inr miss ↦ rw (first_fails (places form) word words miss) (none_named some word words (rw miss at none))
    ]

-- if no form begins with a word, words that begin with it are refused as an unknown word
pub unnamed : (word : List ℕ) (words : List (List ℕ)) → form_named word ≡ None → form_of (word ∷ words) ≡ Err UnknownWord
unfolding form_named form_of
unnamed word words none = rw (none_named forms word words none) refl

-- a form that `find` returns passes the test
pub find_passes : (p : LineForm → Bool) (some : List LineForm) (form : LineForm) → find p some ≡ Some form → p form ≡ true
find_passes p [] form found = absurd (cc)
find_passes p (x ∷ some) form found =
    elim (cases_Bool (p x)) [
      | inl hit ↦ let same : x ≡ form = cc (rw hit at found) in rw (← same) hit
      | inr miss ↦ find_passes p some form (rw miss at found)
    ]

-- a first word that matches a fixed word is that word
first_is :
    (text : List ℕ) (some : List Place) (word : List ℕ) → slice_get some 0 ≡ Some (Word text) → matches_fixed true some (word ∷ []) ≡ true
    → word ≡ text
first_is text [] word first passes = absurd (cc)
first_is text (Of field ∷ more) word first passes = absurd (cc)
first_is text (Word own ∷ more) word first passes =
    elim (cases_Bool (bytes_eq word own)) [
      | inl hit ↦ let same : own ≡ text = cc in rw (← same) ((bytes_eq-Decides word own).0 hit)
      | inr miss ↦ absurd (let bad = rw miss at passes in cc)
    ]

-- words that begin with `m` have the form of the function that their fifth word names
modify_named : (words : List (List ℕ)) → form_of (codes "m" ∷ words) ≡ with_function (Modify Set) words
unfolding form_of function_of
modify_named [] = refl
modify_named (a ∷ []) = refl
modify_named (a ∷ b ∷ []) = refl
modify_named (a ∷ b ∷ c ∷ []) = refl
modify_named (a ∷ b ∷ c ∷ word ∷ words) =
    elim (cases_Bool (bytes_eq word (codes "set"))) [
      | inl set ↦ rw set refl
      | inr no_set ↦ elim (cases_Bool (bytes_eq word (codes "xchg"))) [
        | inl exchange ↦ rw (no_set, exchange) refl
        | inr no_exchange ↦ elim (cases_Bool (bytes_eq word (codes "add"))) [
          | inl add ↦ rw (no_set, no_exchange, add) refl
          | inr no_add ↦ elim (cases_Bool (bytes_eq word (codes "cas"))) [
            | inl compare ↦ rw (no_set, no_exchange, no_add, compare) refl
            | inr no_compare ↦ rw (no_set, no_exchange, no_add, no_compare) refl
          ]
        ]
      ]
    ]

-- words that begin with `lm` have the form of the function that their fourth word names
local_modify_named : (words : List (List ℕ)) → form_of (codes "lm" ∷ words) ≡ with_function (LocalModify Set) words
unfolding form_of function_of
local_modify_named [] = refl
local_modify_named (a ∷ []) = refl
local_modify_named (a ∷ b ∷ []) = refl
local_modify_named (a ∷ b ∷ word ∷ words) =
    elim (cases_Bool (bytes_eq word (codes "set"))) [
      | inl set ↦ rw set refl
      | inr no_set ↦ elim (cases_Bool (bytes_eq word (codes "xchg"))) [
        | inl exchange ↦ rw (no_set, exchange) refl
        | inr no_exchange ↦ elim (cases_Bool (bytes_eq word (codes "add"))) [
          | inl add ↦ rw (no_set, no_exchange, add) refl
          | inr no_add ↦ elim (cases_Bool (bytes_eq word (codes "cas"))) [
            | inl compare ↦ rw (no_set, no_exchange, no_add, compare) refl
            | inr no_compare ↦ rw (no_set, no_exchange, no_add, no_compare) refl
          ]
        ]
      ]
    ]

-- the first word of a form
abbrev pub word_of : LineForm → List ℕ
word_of Read = codes "r"
word_of Write = codes "w"
word_of BlockRead = codes "br"
word_of BlockWrite = codes "bw"
word_of BlockFill = codes "bf"
word_of (Modify function) = codes "m"
word_of LocalRead = codes "lr"
word_of LocalWrite = codes "lw"
word_of (LocalModify function) = codes "lm"
word_of Await = codes "await"
word_of Lock = codes "lock"
word_of Unlock = codes "unlock"
word_of Put = codes "put"
word_of Take = codes "take"

-- the places of a form begin with its first word
own_first : (form : LineForm) → slice_get (places form) 0 ≡ Some (Word (word_of form))
own_first Read = refl
own_first Write = refl
own_first BlockRead = refl
own_first BlockWrite = refl
own_first BlockFill = refl
own_first (Modify function) = refl
own_first LocalRead = refl
own_first LocalWrite = refl
own_first (LocalModify function) = refl
own_first Await = refl
own_first Lock = refl
own_first Unlock = refl
own_first Put = refl
own_first Take = refl

-- words that begin with the first word of a form have that form, with the function that they name
pub own_word : (form : LineForm) (words : List (List ℕ)) → form_of (word_of form ∷ words) ≡ with_function form words
unfolding form_of
own_word Read words = refl
own_word Write words = refl
own_word BlockRead words = refl
own_word BlockWrite words = refl
own_word BlockFill words = refl
own_word (Modify function) words = modify_named words
own_word LocalRead words = refl
own_word LocalWrite words = refl
own_word (LocalModify function) words = local_modify_named words
own_word Await words = refl
own_word Lock words = refl
own_word Unlock words = refl
own_word Put words = refl
own_word Take words = refl

-- the form of words is the one that their first word names, with the function that they name
pub named :
    (word : List ℕ) (words : List (List ℕ)) (form : LineForm) → form_named word ≡ Some form
    → form_of (word ∷ words) ≡ with_function form words
unfolding form_named
named word words form found =
    let passes = find_passes (λ form. matches_fixed true (places form) (word ∷ [])) forms form found in
    rw (first_is (word_of form) (places form) word (own_first form) passes) (own_word form words)

-- a fixed word adds no operand
by_more :
    (more : List Field) (word : List ℕ) (words : List (List ℕ)) → operands_of (Name ∷ more) (word ∷ words) ≡ operands_of more words
unfolding operands_of with_field
by_more more word words =
    rw (same_count (length words) (length more) 1 (length (word ∷ words)) (length (Name ∷ more)) (omega arith) (omega arith)) refl

-- the operands of a form, without its first word
by_first :
    (form : LineForm) (word : List ℕ) (words : List (List ℕ))
    → operands_of (fields_of form) (word ∷ words) ≡ operands_of (drop 1 (fields_of form)) words
by_first Read word words = by_more _ word words
by_first Write word words = by_more _ word words
by_first BlockRead word words = by_more _ word words
by_first BlockWrite word words = by_more _ word words
by_first BlockFill word words = by_more _ word words
by_first (Modify function) word words = by_more _ word words
by_first LocalRead word words = by_more _ word words
by_first LocalWrite word words = by_more _ word words
by_first (LocalModify function) word words = by_more _ word words
by_first Await word words = by_more _ word words
by_first Lock word words = by_more _ word words
by_first Unlock word words = by_more _ word words
by_first Put word words = by_more _ word words
by_first Take word words = by_more _ word words

-- a line whose first word names a form is read as a line of that form
pub line_is_named :
    (word : List ℕ) (words : List (List ℕ)) (form : LineForm) → form_named word ≡ Some form
    → line_of_words (word ∷ words) ≡ line_named form words
unfolding line_of_words line_named line_by
line_is_named word words form found =
    elim (cases_Result (with_function form words)) [
      | inl (fault, none) ↦ rw (named word words form found, none) refl
      | inr (own, is) ↦ rw (named word words form found, is, by_first own word words) refl
    ]

-- a line whose first word names no form is refused as an unknown word
pub line_is_unnamed : (word : List ℕ) (words : List (List ℕ)) → form_named word ≡ None → line_of_words (word ∷ words) ≡ Err UnknownWord
unfolding line_of_words
line_is_unnamed word words none = rw (unnamed word words none) refl
