-- The bits of a value whose first level goes on to the left.
use Rattle.std.proofs.Common.{◌≡◌, ℕ, suc, ◌+◌, ◌-◌, ◌*◌, ◌%◌, ◌^◌, ◌<◌, ◌≤◌, min, List, [], ◌∷◌, length, ap, sym, ◌∙◌, ◌⊎◌, inl, inr, arith}
use Rattle.std.proofs.Math.Nat.{pow-suc}
use Rattle.std.proofs.lemmas.Nat.{pow-add}
use Rattle.vme_vcd_reader.specs.declared.bits.Bits.{Bits}
use Rattle.vme_vcd_reader.specs.declared.bits.Level.{Level}
use Rattle.vme_vcd_reader.specs.declared.bits.Level.TheVariants.{Low, High, Free, Undefined}
use Rattle.vme_vcd_reader.specs.Levels.{IsValue, put, with_level, with_levels, left_of, value_of}

-- bits with ones at the left of those below p, a power of two
abbrev pad : ℕ → ℕ → ℕ
pad bits p = (bits + 0xffff_ffff_ffff_ffff * p) % 2 ^ 64

put_pad : (f p bit : ℕ) → put (pad f p) bit ≡ pad (put f bit) (2 * p)
put_pad f p bit = omega arith

-- the same for the bits that are not driven, and for the undefined ones
abbrev free_pad : Bits → ℕ → Bits
free_pad b p = record { ones = b.ones; free = pad b.free p; undefined = b.undefined }

abbrev undefined_pad : Bits → ℕ → Bits
undefined_pad b p = record { ones = b.ones; free = b.free; undefined = pad b.undefined p }

free_step : (b : Bits) (p : ℕ) (level : Level) → with_level (free_pad b p) level ≡ free_pad (with_level b level) (2 * p)
free_step b p Low = ap (λ n. record { ones = put b.ones 0; free = n; undefined = put b.undefined 0 }) (put_pad b.free p 0)
free_step b p High = ap (λ n. record { ones = put b.ones 1; free = n; undefined = put b.undefined 0 }) (put_pad b.free p 0)
free_step b p Free = ap (λ n. record { ones = put b.ones 0; free = n; undefined = put b.undefined 0 }) (put_pad b.free p 1)
free_step b p Undefined = ap (λ n. record { ones = put b.ones 0; free = n; undefined = put b.undefined 1 }) (put_pad b.free p 0)

undefined_step : (b : Bits) (p : ℕ) (level : Level) → with_level (undefined_pad b p) level ≡ undefined_pad (with_level b level) (2 * p)
undefined_step b p Low = ap (λ n. record { ones = put b.ones 0; free = put b.free 0; undefined = n }) (put_pad b.undefined p 0)
undefined_step b p High = ap (λ n. record { ones = put b.ones 1; free = put b.free 0; undefined = n }) (put_pad b.undefined p 0)
undefined_step b p Free = ap (λ n. record { ones = put b.ones 0; free = put b.free 1; undefined = n }) (put_pad b.undefined p 0)
undefined_step b p Undefined = ap (λ n. record { ones = put b.ones 0; free = put b.free 0; undefined = n }) (put_pad b.undefined p 1)

power_step : (p : ℕ) {A : Type 0} (levels : List A) → 2 * p * 2 ^ length levels ≡ p * 2 ^ suc (length levels)
power_step p levels = rw (pow-suc 2 (length levels)) (omega arith)

free_all : (levels : List Level) (b : Bits) (p : ℕ) → with_levels (free_pad b p) levels ≡ free_pad (with_levels b levels) (p * 2 ^ length levels)
free_all [] b p = ap (free_pad b) (omega arith)
free_all (level ∷ levels) b p =
    ap (λ c. with_levels c levels) (free_step b p level) ∙ free_all levels (with_level b level) (2 * p)
    ∙ ap (free_pad (with_levels (with_level b level) levels)) (power_step p levels)

undefined_all : (levels : List Level) (b : Bits) (p : ℕ) → with_levels (undefined_pad b p) levels ≡ undefined_pad (with_levels b levels) (p * 2 ^ length levels)
undefined_all [] b p = ap (undefined_pad b) (omega arith)
undefined_all (level ∷ levels) b p =
    ap (λ c. with_levels c levels) (undefined_step b p level) ∙ undefined_all levels (with_level b level) (2 * p)
    ∙ ap (undefined_pad (with_levels (with_level b level) levels)) (power_step p levels)

-- the digits that are left of a short value, as they are computed
short_pad : (f n digits left : ℕ) → digits ≡ min (suc n) 4294967295 → digits < 64 → left ≡ (0xffff_ffff_ffff_ffff * 2 ^ (digits % 64)) % 2 ^ 64
    → (f + left) % 2 ^ 64 ≡ pad f (1 * 2 ^ suc n)
short_pad f n digits left is short at =
    let same : digits % 64 ≡ suc n = omega arith in
    let rest : left ≡ (0xffff_ffff_ffff_ffff * 2 ^ suc n) % 2 ^ 64 = at ∙ ap (λ k. (0xffff_ffff_ffff_ffff * 2 ^ k) % 2 ^ 64) same in
    omega arith

-- those of a long one
long_pad : (f n digits : ℕ) → f < 2 ^ 64 → digits ≡ min (suc n) 4294967295 → 64 ≤ digits → f ≡ pad f (1 * 2 ^ suc n)
long_pad f n digits below is long =
    let more : suc n ≡ 64 + (suc n - 64) = omega arith in
    let power : 2 ^ suc n ≡ 2 ^ 64 * 2 ^ (suc n - 64) = ap (λ k. 2 ^ k) more ∙ pow-add 2 64 (suc n - 64) in
    omega arith

-- the bits are 64 at most
levels_below : (levels : List Level) (b : Bits) → b.free < 2 ^ 64 → b.undefined < 2 ^ 64
    → ((with_levels b levels).free < 2 ^ 64) × ((with_levels b levels).undefined < 2 ^ 64)
levels_below [] b free undefined = (free, undefined)
levels_below (Low ∷ levels) b free undefined = levels_below levels (with_level b Low) (omega arith) (omega arith)
levels_below (High ∷ levels) b free undefined = levels_below levels (with_level b High) (omega arith) (omega arith)
levels_below (Free ∷ levels) b free undefined = levels_below levels (with_level b Free) (omega arith) (omega arith)
levels_below (Undefined ∷ levels) b free undefined = levels_below levels (with_level b Undefined) (omega arith) (omega arith)

-- a value whose first level is not driven
free_value : (first : Level) → first ≡ Free → (b : Bits) (levels : List Level) (digits left : ℕ) → b ≡ with_levels (left_of Low) (first ∷ levels)
    → digits ≡ min (suc (length levels)) 4294967295 → digits < 64 → left ≡ (0xffff_ffff_ffff_ffff * 2 ^ (digits % 64)) % 2 ^ 64
    → record { ones = b.ones; free = (b.free + left) % 2 ^ 64; undefined = b.undefined } ≡ value_of (first ∷ levels)
free_value Low same b levels digits left is count short at = absurd (cc)
free_value High same b levels digits left is count short at = absurd (cc)
free_value Undefined same b levels digits left is count short at = absurd (cc)
free_value Free same b levels digits left is count short at =
    ap (λ n. record { ones = b.ones; free = n; undefined = b.undefined }) (short_pad b.free (length levels) digits left count short at)
    ∙ ap (λ c. free_pad c (1 * 2 ^ suc (length levels))) is ∙ sym (free_all (Free ∷ levels) (left_of Low) 1)

-- one whose first level is undefined
undefined_value : (first : Level) → first ≡ Undefined → (b : Bits) (levels : List Level) (digits left : ℕ) → b ≡ with_levels (left_of Low) (first ∷ levels)
    → digits ≡ min (suc (length levels)) 4294967295 → digits < 64 → left ≡ (0xffff_ffff_ffff_ffff * 2 ^ (digits % 64)) % 2 ^ 64
    → record { ones = b.ones; free = b.free; undefined = (b.undefined + left) % 2 ^ 64 } ≡ value_of (first ∷ levels)
undefined_value Low same b levels digits left is count short at = absurd (cc)
undefined_value High same b levels digits left is count short at = absurd (cc)
undefined_value Free same b levels digits left is count short at = absurd (cc)
undefined_value Undefined same b levels digits left is count short at =
    ap (λ n. record { ones = b.ones; free = b.free; undefined = n }) (short_pad b.undefined (length levels) digits left count short at)
    ∙ ap (λ c. undefined_pad c (1 * 2 ^ suc (length levels))) is ∙ sym (undefined_all (Undefined ∷ levels) (left_of Low) 1)

-- a value of 64 digits or more
long_value : (b : Bits) (first : Level) (levels : List Level) (digits : ℕ) → b ≡ with_levels (left_of Low) (first ∷ levels)
    → digits ≡ min (suc (length levels)) 4294967295 → 64 ≤ digits → b ≡ value_of (first ∷ levels)
long_value b Low levels digits is count long = is
long_value b High levels digits is count long = is
long_value b Free levels digits is count long =
    let all = with_levels (left_of Low) (Free ∷ levels) in
    let below : all.free < 2 ^ 64 = (levels_below (Free ∷ levels) (left_of Low) (omega arith) (omega arith)).0 in
    is ∙ ap (λ n. record { ones = all.ones; free = n; undefined = all.undefined }) (long_pad all.free (length levels) digits below count long)
    ∙ sym (free_all (Free ∷ levels) (left_of Low) 1)
long_value b Undefined levels digits is count long =
    let all = with_levels (left_of Low) (Undefined ∷ levels) in
    let below : all.undefined < 2 ^ 64 = (levels_below (Undefined ∷ levels) (left_of Low) (omega arith) (omega arith)).1 in
    is ∙ ap (λ n. record { ones = all.ones; free = all.free; undefined = n }) (long_pad all.undefined (length levels) digits below count long)
    ∙ sym (undefined_all (Undefined ∷ levels) (left_of Low) 1)

-- a value as it is kept, whose first level is not driven; undefined; or one of 64 digits or more; or 0 or 1
pub free_is : (levels : List Level) (b : Bits) (first : Level) (digits left : ℕ) → first ≡ Free → IsValue levels b first digits
    → digits < 64 → left ≡ (0xffff_ffff_ffff_ffff * 2 ^ (digits % 64)) % 2 ^ 64
    → record { ones = b.ones; free = (b.free + left) % 2 ^ 64; undefined = b.undefined } ≡ value_of levels
free_is [] b first digits left same is short at = absurd (cc (is.1))
free_is (level ∷ levels) b first digits left same is short at =
    free_value level (sym is.1 ∙ same) b levels digits left is.0 is.2 short at

pub undefined_is : (levels : List Level) (b : Bits) (first : Level) (digits left : ℕ) → first ≡ Undefined → IsValue levels b first digits
    → digits < 64 → left ≡ (0xffff_ffff_ffff_ffff * 2 ^ (digits % 64)) % 2 ^ 64
    → record { ones = b.ones; free = b.free; undefined = (b.undefined + left) % 2 ^ 64 } ≡ value_of levels
undefined_is [] b first digits left same is short at = absurd (cc (is.1))
undefined_is (level ∷ levels) b first digits left same is short at =
    undefined_value level (sym is.1 ∙ same) b levels digits left is.0 is.2 short at

pub long_is : (levels : List Level) (b : Bits) (first : Level) (digits : ℕ) → IsValue levels b first digits → 64 ≤ digits → b ≡ value_of levels
long_is [] b first digits is long = absurd (omega (arith, is.2))
long_is (level ∷ levels) b first digits is long = long_value b level levels digits is.0 is.2 long

plain_value : (first : Level) (b : Bits) (levels : List Level) → (first ≡ Low) ⊎ (first ≡ High)
    → b ≡ with_levels (left_of Low) (first ∷ levels) → b ≡ value_of (first ∷ levels)
plain_value Low b levels plain is = is
plain_value High b levels plain is = is
plain_value Free b levels (inl e) is = absurd (cc)
plain_value Free b levels (inr e) is = absurd (cc)
plain_value Undefined b levels (inl e) is = absurd (cc)
plain_value Undefined b levels (inr e) is = absurd (cc)

pub low_is : (levels : List Level) (b : Bits) (first : Level) (digits : ℕ) → first ≡ Low → IsValue levels b first digits → b ≡ value_of levels
low_is [] b first digits same is = is.0
low_is (level ∷ levels) b first digits same is = plain_value level b levels (inl (sym is.1 ∙ same)) is.0

pub high_is : (levels : List Level) (b : Bits) (first : Level) (digits : ℕ) → first ≡ High → IsValue levels b first digits → b ≡ value_of levels
high_is [] b first digits same is = is.0
high_is (level ∷ levels) b first digits same is = plain_value level b levels (inr (sym is.1 ∙ same)) is.0
