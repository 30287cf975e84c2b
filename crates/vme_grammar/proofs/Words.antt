-- Words of digits: they contain no space, so each is one word of a line.
use Rattle.std.proofs.Common.{◌≡◌, ℕ, ◌+◌, ◌*◌, ◌<◌, Bool, false, true, List, [], ◌∷◌, ◌++◌, length, filter, Option, None, Some, refl, ap, ◌∙◌, arith, inl, inr}
use Rattle.std.specs.Prelude.{◌==◌, if◌then◌else◌, codes}
use Rattle.std.specs.List.{All}
use Rattle.std.specs.Str.{bytes_eq}
use Rattle.std.proofs.lemmas.Bool.{cases_Bool, cases_eq, lt-ltb, eqb-true, ne_eqb}
use Rattle.std.proofs.lemmas.List.Elements.{All-cons}
use Rattle.std.proofs.lemmas.List.Splits.{slice_split_at, slice_split_none}
use Rattle.std.proofs.lemmas.Slice.Eq.{bytes_eq-Decides}
use Rattle.vme_grammar.proofs.Cases.{cases_Option}
use Rattle.vme_lexer.specs.Words.{words, is_nonempty}
use Rattle.vme_lexer.specs.Numbers.{hex_digit, hex_from, hex_number, hex_pairs, hex_bytes, exact_bytes, local_bytes, small_number, local_number, decimal_digit, decimal_from, decimal_number}

-- a nonempty word without a space
pub record IsWord (word : List ℕ) : Type 0 where
  pub unspaced : All (λ b. (b == 32) ≡ false) word
  pub some : 0 < length word

-- the words of a word are that word alone
pub only_word : (word : List ℕ) → IsWord word → words word ≡ word ∷ []
only_word word is = ap (filter is_nonempty) (slice_split_none (λ b. b == 32) word is.unspaced) ∙ rw (lt-ltb 0 (length word) is.some) refl

-- a word before a space is the first word of the text
pub first_word : (word rest : List ℕ) → IsWord word → words (word ++ 32 ∷ rest) ≡ word ∷ words rest
first_word word rest is =
    ap (filter is_nonempty) (slice_split_at (λ b. b == 32) word 32 rest is.unspaced refl) ∙ rw (lt-ltb 0 (length word) is.some) refl

-- bytes without a space
abbrev Unspaced : List ℕ → Type 0
Unspaced word = All (λ b. (b == 32) ≡ false) word

-- bytes without a space and one more such byte contain no space
one_more : (c : ℕ) (cs : List ℕ) → (c == 32) ≡ false → Unspaced cs → Unspaced (c ∷ cs)
one_more c cs first more = All-cons (λ b. (b == 32) ≡ false) c cs first more

-- the empty list contains no space
none_spaced : Unspaced []
none_spaced = λ k d less. absurd (omega arith)

-- a hexadecimal digit is not a space
hex_digit_is_no_space : (c d : ℕ) → hex_digit c ≡ Some d → (c == 32) ≡ false
hex_digit_is_no_space c d digit =
    elim (cases_eq c 32) [
      | inl space ↦ absurd (let bad : hex_digit 32 ≡ Some d = rw space at digit in cc)
      | inr other ↦ ne_eqb c 32 other
    ]

-- a decimal digit is not a space
decimal_digit_is_no_space : (c d : ℕ) → decimal_digit c ≡ Some d → (c == 32) ≡ false
decimal_digit_is_no_space c d digit =
    elim (cases_eq c 32) [
      | inl space ↦ absurd (let bad : decimal_digit 32 ≡ Some d = rw space at digit in cc)
      | inr other ↦ ne_eqb c 32 other
    ]

-- hexadecimal digits that spell a number contain no space
hex_from_unspaced : (n m : ℕ) (word : List ℕ) → hex_from n word ≡ Some m → Unspaced word
hex_from_unspaced n m [] read = none_spaced
hex_from_unspaced n m (c ∷ cs) read =
    elim (cases_Option (hex_digit c)) [
      | inl none ↦ absurd (let bad = rw none at read in cc)
      | inr (d, digit) ↦ one_more c cs (hex_digit_is_no_space c d digit) (hex_from_unspaced (16 * n + d) m cs (rw digit at read))
    ]

-- decimal digits that spell a number contain no space
decimal_from_unspaced : (n m : ℕ) (word : List ℕ) → decimal_from n word ≡ Some m → Unspaced word
decimal_from_unspaced n m [] read = none_spaced
decimal_from_unspaced n m (c ∷ cs) read =
    elim (cases_Option (decimal_digit c)) [
      | inl none ↦ absurd (let bad = rw none at read in cc)
      | inr (d, digit) ↦ one_more c cs (decimal_digit_is_no_space c d digit) (decimal_from_unspaced (10 * n + d) m cs (rw digit at read))
    ]

-- pairs of hexadecimal digits that spell bytes contain no space
hex_pairs_unspaced : (bytes word : List ℕ) → hex_pairs word ≡ Some bytes → Unspaced word
hex_pairs_unspaced bytes [] read = none_spaced
hex_pairs_unspaced bytes (c ∷ []) read = absurd (cc)
hex_pairs_unspaced bytes (c ∷ d ∷ cs) read =
    elim (cases_Option (hex_digit c)) [
      | inl none ↦ absurd (let bad = rw none at read in cc)
      | inr (high, first) ↦ elim (cases_Option (hex_digit d)) [
        | inl none ↦ absurd (let bad = rw (first, none) at read in cc)
        | inr (low, second) ↦ elim (cases_Option (hex_pairs cs)) [
          | inl none ↦ absurd (let bad = rw (first, second, none) at read in cc)
          | inr (more, rest) ↦
              one_more c (d ∷ cs) (hex_digit_is_no_space c high first)
              (one_more d cs (hex_digit_is_no_space d low second) (hex_pairs_unspaced more cs rest))
        ]
      ]
    ]

-- if a conditional with an absent alternative is present, its test holds
cond_is : {A : Type 0} (b : Bool) (value : Option A) (x : A) → (if b then value else None) ≡ Some x → (b ≡ true) × (value ≡ Some x)
cond_is true value x is = (refl, is)
cond_is false value x is = absurd (cc)

-- a spelled hexadecimal number is one word
pub hex_is_word : (len n : ℕ) (word : List ℕ) → 0 < len → hex_number len word ≡ Some n → IsWord word
unfolding hex_number
hex_is_word len n word some read =
    let both = cond_is (length word == len) (hex_from 0 word) n read in
    record { unspaced = hex_from_unspaced 0 n word both.1; some = omega (arith, eqb-true (length word) len both.0) }

-- spelled bytes are one word
pub bytes_is_word : (most : ℕ) (bytes word : List ℕ) → hex_bytes most word ≡ Some bytes → IsWord word
unfolding hex_bytes
bytes_is_word most bytes [] read = absurd (cc)
bytes_is_word most bytes (c ∷ cs) read =
    let both = cond_is _ (hex_pairs (c ∷ cs)) bytes read in
    record { unspaced = hex_pairs_unspaced bytes (c ∷ cs) both.1; some = omega arith }

-- spelled bytes of an exact number are one word
pub exact_is_word : (len : ℕ) (bytes word : List ℕ) → exact_bytes len word ≡ Some bytes → IsWord word
unfolding exact_bytes
exact_is_word len bytes word read = bytes_is_word 8 bytes word (cond_is _ (hex_bytes 8 word) bytes read).1

-- spelled bytes for the local port are one word
pub local_bytes_is_word : (bytes word : List ℕ) → local_bytes word ≡ Some bytes → IsWord word
unfolding local_bytes
local_bytes_is_word bytes word read =
    elim (cases_Option (hex_bytes 8 word)) [
      | inl none ↦ absurd (let bad = rw none at read in cc)
      | inr (all, spelled) ↦ bytes_is_word 8 all word spelled
    ]

-- a spelled decimal number is one word
pub decimal_is_word : (most n : ℕ) (word : List ℕ) → decimal_number most word ≡ Some n → IsWord word
unfolding decimal_number
decimal_is_word most n [] read = absurd (cc)
decimal_is_word most n (c ∷ cs) read =
    let both = cond_is _ (decimal_from 0 (c ∷ cs)) n read in
    record { unspaced = decimal_from_unspaced 0 n (c ∷ cs) both.1; some = omega arith }

-- a digit from 1 to 8 is one word
pub small_is_word : (n : ℕ) (word : List ℕ) → small_number word ≡ Some n → IsWord word
unfolding small_number
small_is_word n [] read = absurd (cc)
small_is_word n (c ∷ []) read =
    elim (cases_eq c 32) [
      | inl space ↦ absurd (let bad = rw space at read in cc)
      | inr other ↦ record { unspaced = one_more c [] (ne_eqb c 32 other) none_spaced; some = omega arith }
    ]
small_is_word n (c ∷ d ∷ cs) read = absurd (let long : (length (c ∷ d ∷ cs) == 1) ≡ false = ne_eqb _ _ (λ e. omega (arith, e)) in let bad = rw long at read in cc)

-- a byte that is not a space is one word
digit_is_word : (c : ℕ) → (c == 32) ≡ false → IsWord (c ∷ [])
digit_is_word c other = record { unspaced = one_more c [] other none_spaced; some = omega arith }

-- a digit 1, 2 or 4 is one word
pub local_is_word : (n : ℕ) (word : List ℕ) → local_number word ≡ Some n → IsWord word
unfolding local_number
local_is_word n word read =
    elim (cases_Bool (bytes_eq word (codes "1"))) [
      | inl one ↦ rw ((bytes_eq-Decides word (codes "1")).0 one) (digit_is_word 49 refl)
      | inr no_one ↦ elim (cases_Bool (bytes_eq word (codes "2"))) [
        | inl two ↦ rw ((bytes_eq-Decides word (codes "2")).0 two) (digit_is_word 50 refl)
        | inr no_two ↦ elim (cases_Bool (bytes_eq word (codes "4"))) [
          | inl four ↦ rw ((bytes_eq-Decides word (codes "4")).0 four) (digit_is_word 52 refl)
          | inr no_four ↦ absurd (let bad = rw (no_one, no_two, no_four) at read in cc)
        ]
      ]
    ]
