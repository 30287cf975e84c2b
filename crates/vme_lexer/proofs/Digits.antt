-- Digits read one after another.
use Rattle.std.proofs.Common.{◌≡◌, ℕ, zero, suc, ◌+◌, ◌*◌, ◌^◌, ◌%◌, ◌<◌, ◌≤◌, Bool, true, false, ◌&&◌, nat_eq, List, [], ◌∷◌, ◌++◌, length, get_or, drop, Option, None, Some, option_map, refl, sym, ap, ◌∙◌, append_assoc, arith, inl, inr, ◌⊎◌}
use Rattle.std.specs.Prelude.{MatchOption, nat_lt, if◌then◌else◌}
use Rattle.std.proofs.lemmas.Bool.{cases_eq, cases_lt, eqb-true, ltb-true}
use Rattle.std.proofs.Math.Nat.{pow-succ', pow-le-pow_right}
use Rattle.vme_cycle.proofs.lemmas.Numbers.{below_power}
use Rattle.vme_lexer.specs.Numbers.{hex_digit, hex_from, hex_pairs, hex_bytes}

-- what a byte counts as: the value of its digit, or 2 ^ 32 if it is no digit
abbrev pub Counts : Option ℕ → ℕ → Type 0
Counts digit count = MatchOption digit (count ≡ 2 ^ 32) (λ d. (count ≡ d) × (d < 16))

-- `Counts` as a test
abbrev pub is_count : Option ℕ → ℕ → Bool
is_count None count = nat_eq count 4294967296
is_count (Some d) count = nat_eq count d && nat_lt d 16

-- if a conjunction holds, both its parts hold
both_true : (x y : Bool) → (x && y) ≡ true → (x ≡ true) × (y ≡ true)
both_true true true both = (refl, refl)
both_true true false both = cc
both_true false true both = cc
both_true false false both = cc

-- a table counts each byte below n correctly
unfoldable pub counts_below : List ℕ → ℕ → Bool
counts_below table zero = true
counts_below table (suc n) = is_count (hex_digit n) (get_or table n 0) && counts_below table n

-- no byte counts as more than 2 ^ 32
pub most_count : (digit : Option ℕ) (count : ℕ) → Counts digit count → count ≤ 2 ^ 32
most_count None count counts = omega (arith, counts)
most_count (Some d) count counts = omega (arith, counts.0, counts.1)

-- if `is_count` returns true, `Counts` holds
count_of : (digit : Option ℕ) (count : ℕ) → is_count digit count ≡ true → Counts digit count
count_of None count is = eqb-true count 4294967296 is
count_of (Some d) count is = let both = both_true (nat_eq count d) (nat_lt d 16) is in (eqb-true count d both.0, ltb-true d 16 both.1)

-- a correct table counts each byte
pub counts_at : (table : List ℕ) (n c : ℕ) → counts_below table n ≡ true → c < n → Counts (hex_digit c) (get_or table c 0)
unfolding counts_below
counts_at table zero c all less = absurd (omega arith)
counts_at table (suc n) c all less =
    let both = both_true (is_count (hex_digit n) (get_or table n 0)) (counts_below table n) all in
    elim (cases_eq c n) [ inl same ↦ rw same (count_of (hex_digit n) (get_or table n 0) both.0) | inr other ↦ counts_at table n c both.1 (omega arith) ]

-- the number after k bytes of a word: below 2 ^ 32 it is the one that they spell; otherwise the word spells no number
pub record IsRead (n k : ℕ) (rest word : List ℕ) : Type 0 where
  pub read : n < 2 ^ 32 → hex_from n rest ≡ hex_from 0 word
  pub small : n < 2 ^ 32 → n < 16 ^ k
  pub unread : 2 ^ 32 ≤ n → hex_from 0 word ≡ None
  pub bound : n + 2 ^ 32 ≤ 2 ^ 32 * 16 ^ k

-- 16 to the next power is sixteen times as much
sixteenfold : (k : ℕ) → 16 ^ (k + 1) ≡ 16 * 16 ^ k
sixteenfold k = ap (λ j. 16 ^ j) (omega arith) ∙ pow-succ' 16 k

-- one more byte keeps `IsRead`, by the digit that the byte is
read_by :
    (n k c count : ℕ) (rest word : List ℕ) (digit : Option ℕ) → k < 8 → hex_digit c ≡ digit → Counts digit count → IsRead n k (c ∷ rest) word
    → IsRead (16 * n + count) (k + 1) rest word
read_by n k c count rest word None few none counts so = record {
  read = λ less. absurd (omega (arith, less, counts));
  small = λ less. absurd (omega (arith, less, counts));
  unread = λ more. elim (cases_lt n (2 ^ 32)) [ inl less ↦ sym (so.read less) ∙ rw none refl | inr le ↦ so.unread le ];
  bound = let more : 16 ^ (k + 1) ≡ 16 * 16 ^ k = sixteenfold k in omega (arith, counts, so.bound, more);
}
read_by n k c count rest word (Some d) few some counts so =
    let more : 16 ^ (k + 1) ≡ 16 * 16 ^ k = sixteenfold k in
    let step : hex_from n (c ∷ rest) ≡ hex_from (16 * n + d) rest = rw some refl in record {
      read = λ less. ap (λ m. hex_from (16 * n + m) rest) counts.0 ∙ sym step ∙ so.read (omega (arith, less));
      small = λ less. let low = so.small (omega (arith, less)) in omega (arith, counts.0, counts.1, low, more);
      unread = λ much. elim (cases_lt n (2 ^ 32)) [
        | inl less ↦ absurd (let low = below_power 16 n k 7 (omega arith) (so.small less) (omega (arith, few)) in omega (arith, counts.0, counts.1, low, much))
        | inr le ↦ so.unread le
      ];
      bound = omega (arith, counts.0, counts.1, so.bound, more);
    }

-- one more digit does not overflow
pub digit_fits : (n k count : ℕ) (digit : Option ℕ) → k < 8 → Counts digit count → n + 2 ^ 32 ≤ 2 ^ 32 * 16 ^ k → 16 * n + count < 2 ^ 64
digit_fits n k count digit few counts bound =
    let high : 16 ^ k ≤ 16 ^ 7 = pow-le-pow_right {n = 16} (omega arith) {i = k} {j = 7} (omega (arith, few)) in
    let low : count ≤ 2 ^ 32 = most_count digit count counts in
    omega (arith, high, bound, low)

-- one more byte keeps `IsRead`
pub read_more :
    (n k c count : ℕ) (rest word : List ℕ) → k < 8 → Counts (hex_digit c) count → IsRead n k (c ∷ rest) word → IsRead (16 * n + count) (k + 1) rest word
read_more n k c count rest word few counts so = read_by n k c count rest word (hex_digit c) few refl counts so

-- the bytes of a prefix, followed by those that were read
abbrev pub with_prefix : List ℕ → Option (List ℕ) → Option (List ℕ)
with_prefix prefix bytes = option_map (λ bs. prefix ++ bs) bytes

-- a prefix of two lists is the second as a prefix and then the first
with_prefix-append : (prefix bytes : List ℕ) (read : Option (List ℕ)) → with_prefix (prefix ++ bytes) read ≡ with_prefix prefix (with_prefix bytes read)
with_prefix-append prefix bytes None = refl
with_prefix-append prefix bytes (Some bs) = ap Some (append_assoc prefix bytes bs)

-- two digits at the start of the rest spell one more byte
pub hex_pairs-more :
    (bytes new rest tail : List ℕ) (high low : ℕ) → 2 ≤ length rest → hex_digit (get_or rest 0 0) ≡ Some high → hex_digit (get_or rest 1 0) ≡ Some low
    → new ≡ bytes ++ (16 * high + low) ∷ [] → tail ≡ drop 2 rest → with_prefix new (hex_pairs tail) ≡ with_prefix bytes (hex_pairs rest)
hex_pairs-more bytes new [] tail high low long first second pushed cut = absurd (omega arith)
hex_pairs-more bytes new (c ∷ []) tail high low long first second pushed cut = absurd (omega arith)
hex_pairs-more bytes new (c ∷ d ∷ cs) tail high low long first second pushed cut =
    ap (λ b. with_prefix b (hex_pairs tail)) pushed
    ∙ ap (λ t. with_prefix (bytes ++ (16 * high + low) ∷ []) (hex_pairs t)) cut
    ∙ with_prefix-append bytes ((16 * high + low) ∷ []) (hex_pairs cs)
    ∙ rw (first, second) refl

-- the sum of the pairs so far: below 2 ^ 32 the word spells `bytes` and then what the rest spells; otherwise the word
-- spells no bytes
pub record IsSpelled (bytes : List ℕ) (sum : ℕ) (rest word : List ℕ) : Type 0 where
  pub spelled : sum < 2 ^ 32 → with_prefix bytes (hex_pairs rest) ≡ hex_pairs word
  pub small : sum < 2 ^ 32 → sum ≤ 255 * length bytes
  pub unspelled : 2 ^ 32 ≤ sum → hex_pairs word ≡ None
  pub bound : sum ≤ 17 * 2 ^ 32 * length bytes

-- if one of the first two bytes is no digit, the list spells no bytes
unpaired :
    (rest : List ℕ) (first second : Option ℕ) → 2 ≤ length rest → hex_digit (get_or rest 0 0) ≡ first → hex_digit (get_or rest 1 0) ≡ second
    → (first ≡ None) ⊎ (second ≡ None) → hex_pairs rest ≡ None
unpaired [] first second long one two none = absurd (omega arith)
unpaired (c ∷ []) first second long one two none = absurd (omega arith)
unpaired (c ∷ d ∷ cs) None second long one two none = rw one refl
unpaired (c ∷ d ∷ cs) (Some a) None long one two none = rw (one, two) refl
unpaired (c ∷ d ∷ cs) (Some a) (Some b) long one two (inl none) = cc
unpaired (c ∷ d ∷ cs) (Some a) (Some b) long one two (inr none) = cc

-- a pair that spells no byte keeps `IsSpelled`
spelled_none :
    (bytes new : List ℕ) (sum pair : ℕ) (rest tail word : List ℕ) → 2 ^ 32 ≤ pair → pair ≤ 17 * 2 ^ 32 → hex_pairs rest ≡ None → length new ≡ length bytes + 1
    → IsSpelled bytes sum rest word → IsSpelled new (sum + pair) tail word
spelled_none bytes new sum pair rest tail word much most none longer so = record {
  spelled = λ less. absurd (omega (arith, less, much));
  small = λ less. absurd (omega (arith, less, much));
  unspelled = λ more. elim (cases_lt sum (2 ^ 32)) [ inl less ↦ sym (so.spelled less) ∙ ap (with_prefix bytes) none | inr le ↦ so.unspelled le ];
  bound = omega (arith, so.bound, most, longer);
}

-- one more pair keeps `IsSpelled`, by the digits that its bytes are
spelled_by :
    (bytes new : List ℕ) (sum high low : ℕ) (rest tail word : List ℕ) (first second : Option ℕ) → length bytes < 256 → 2 ≤ length rest
    → hex_digit (get_or rest 0 0) ≡ first → hex_digit (get_or rest 1 0) ≡ second → Counts first high → Counts second low
    → new ≡ bytes ++ ((16 * high + low) % 256) ∷ [] → tail ≡ drop 2 rest
    → length new ≡ length bytes + 1 → IsSpelled bytes sum rest word → IsSpelled new (sum + (16 * high + low)) tail word
spelled_by bytes new sum high low rest tail word None second few long one two high_is low_is pushed cut longer so =
    let most = most_count second low low_is in
    spelled_none bytes new sum (16 * high + low) rest tail word (omega (arith, high_is)) (omega (arith, high_is, most)) (unpaired rest None second long one two (inl refl)) longer so
spelled_by bytes new sum high low rest tail word (Some a) None few long one two high_is low_is pushed cut longer so =
    spelled_none bytes new sum (16 * high + low) rest tail word (omega (arith, low_is)) (omega (arith, high_is.0, high_is.1, low_is))
    (unpaired rest (Some a) None long one two (inr refl)) longer so
spelled_by bytes new sum high low rest tail word (Some a) (Some b) few long one two high_is low_is pushed cut longer so =
    let pair : (16 * high + low) % 256 ≡ 16 * a + b = omega (arith, high_is.0, high_is.1, low_is.0, low_is.1) in record {
      spelled = λ less.
          hex_pairs-more bytes new rest tail a b long one two (pushed ∙ ap (λ n. bytes ++ n ∷ []) pair) cut ∙ so.spelled (omega (arith, less));
      small = λ less. let before = so.small (omega (arith, less)) in omega (arith, before, longer, high_is.0, high_is.1, low_is.0, low_is.1);
      unspelled = λ more. elim (cases_lt sum (2 ^ 32)) [
        | inl less ↦ absurd (let before = so.small less in omega (arith, before, few, more, high_is.0, high_is.1, low_is.0, low_is.1))
        | inr le ↦ so.unspelled le
      ];
      bound = omega (arith, so.bound, longer, high_is.0, high_is.1, low_is.0, low_is.1);
    }

-- one more pair keeps `IsSpelled`
pub spelled_more :
    (bytes new : List ℕ) (sum high low : ℕ) (rest tail word : List ℕ) → length bytes < 256 → 2 ≤ length rest → Counts (hex_digit (get_or rest 0 0)) high
    → Counts (hex_digit (get_or rest 1 0)) low → new ≡ bytes ++ ((16 * high + low) % 256) ∷ [] → tail ≡ drop 2 rest → length new ≡ length bytes + 1
    → IsSpelled bytes sum rest word → IsSpelled new (sum + (16 * high + low)) tail word
spelled_more bytes new sum high low rest tail word few long high_is low_is pushed cut longer so =
    spelled_by bytes new sum high low rest tail word _ _ few long refl refl high_is low_is pushed cut longer so

-- a word spells no bytes if it has an odd number of digits, or the sum of its pairs is at least 2 ^ 32
pub unspelled_word :
    (bytes : List ℕ) (sum : ℕ) (rest word : List ℕ) → length rest < 2 → (length rest ≡ 0 → 2 ^ 32 ≤ sum) → IsSpelled bytes sum rest word
    → hex_pairs word ≡ None
unspelled_word bytes sum [] word short none so = so.unspelled (none refl)
unspelled_word bytes sum (c ∷ []) word short none so =
    elim (cases_lt sum (2 ^ 32)) [ inl less ↦ sym (so.spelled less) | inr le ↦ so.unspelled le ]
unspelled_word bytes sum (c ∷ d ∷ cs) word short none so = absurd (omega arith)

-- a conditional between no bytes and no bytes gives no bytes
either_none : (b : Bool) (bytes : Option (List ℕ)) → bytes ≡ None → (if b then bytes else None) ≡ None
either_none true bytes none = none
either_none false bytes none = refl

-- a word whose pairs spell no bytes spells no bytes, whatever the limit
pub unspelled_bytes : (most : ℕ) (word : List ℕ) → hex_pairs word ≡ None → hex_bytes most word ≡ None
unfolding hex_bytes
unspelled_bytes most word none = either_none _ (hex_pairs word) none
