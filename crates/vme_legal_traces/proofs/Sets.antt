-- Sets of slots as bits.
use Rattle.std.proofs.Common.{◌≡◌, ℕ, zero, suc, ◌-◌, ◌*◌, ◌^◌, ◌<◌, ◌≤◌, max, Bool, true, if◌then◌else◌, refl, ap, ◌∙◌, arith, inl, inr}
use Rattle.std.specs.Prelude.{bit_and}
use Rattle.std.proofs.lemmas.Bool.{cases_Bool, cases_lt}
use Rattle.std.proofs.lemmas.Nat.{pow_pos, or_lt, and_comm}
use Rattle.std.proofs.lemmas.Nat.Bits.{bit_at_and, bit_at_or, bit_at-pow_same, bit_at-lt, and_pow}
use Rattle.std.proofs.Math.Pow.{pow-lt}
use Rattle.std.specs.Int.{bit_at}
use Rattle.vme_script.specs.Configurations.{Configuration}
use Rattle.vme_line_task.specs.Scripts.{slot_at}
use Rattle.vme_legal_traces.specs.Samples.{slots_where}

-- a bit that is set in one of two
max_left : (x y : ℕ) → x ≡ 1 → y < 2 → max x y ≡ 1
max_left x y is less = omega (arith, is, less)

-- the same in the other
max_right : (x y : ℕ) → y ≡ 1 → x < 2 → max x y ≡ 1
max_right x y is less = omega (arith, is, less)

module _ (config : Configuration) where
  -- tests that agree have the same slots
  pub slots_same : (test other : ℕ → Bool) (n : ℕ) → ((b : ℕ) → b < n → test b ≡ other b) → slots_where config test n ≡ slots_where config other n
  slots_same test other zero same = refl
  slots_same test other (suc n) same = rw (same n (omega arith), slots_same test other n (λ b less. same b (omega (arith, less)))) refl

  module _ (test : ℕ → Bool) where
    -- the slot of a board that passes a test is in the set
    pub slot_set : (n b : ℕ) → b < n → test b ≡ true → bit_at (slots_where config test n) (slot_at config b - 1) ≡ 1
    slot_set zero b less is = absurd (omega (arith, less))
    slot_set (suc n) b less is =
        let k = slot_at config b - 1 in
        bit_at_or (slots_where config test n) (if test n then 2 ^ (slot_at config n - 1) else 0) k
        ∙ elim (cases_lt b n) [
          | inl soon ↦
              max_left (bit_at (slots_where config test n) k) (bit_at (if test n then 2 ^ (slot_at config n - 1) else 0) k) (slot_set n b soon is)
              (bit_at-lt (if test n then 2 ^ (slot_at config n - 1) else 0) k)
          | inr past ↦
              let same : n ≡ b = omega (arith, less, past) in
              let here : (if test n then 2 ^ (slot_at config n - 1) else 0) ≡ 2 ^ k
              = rw (ap test same ∙ is) (ap (λ (m : ℕ). 2 ^ (slot_at config m - 1)) same) in
              max_right (bit_at (slots_where config test n) k) (bit_at (if test n then 2 ^ (slot_at config n - 1) else 0) k)
              (ap (λ (set : ℕ). bit_at set k) here ∙ bit_at-pow_same k) (bit_at-lt (slots_where config test n) k)
        ]

    -- a set of slots up to one is below the next power of two
    pub slots_below : (n top : ℕ) → ((b : ℕ) → b < n → test b ≡ true → (1 ≤ slot_at config b) × (slot_at config b ≤ top)) → slots_where config test n < 2 ^ top
    slots_below zero top low = pow_pos top
    slots_below (suc n) top low =
        or_lt top (slots_where config test n) (if test n then 2 ^ (slot_at config n - 1) else 0)
        (slots_below n top (λ b less is. low b (omega (arith, less)) is))
        (elim (cases_Bool (test n)) [
          | inl is ↦ let within = low n (omega arith) is in rw is (pow-lt (omega (arith, within.0, within.1)))
          | inr none ↦ rw none (pow_pos top)
        ])

-- a slot that is in two sets
pub set_in_both : (k a b : ℕ) → bit_at a k ≡ 1 → bit_at b k ≡ 1 → bit_and (2 ^ k) (bit_and a b) ≡ 2 ^ k
set_in_both k a b in_a in_b =
    let power : ℕ = 2 ^ k in
    let one : bit_at (bit_and a b) k ≡ 1 = bit_at_and a b k ∙ rw (in_a, in_b) refl in
    let product : bit_at (bit_and a b) k * power ≡ 1 * power = ap (λ (n : ℕ). n * power) one in
    let single : 1 * power ≡ power = omega arith in
    and_comm power (bit_and a b) ∙ and_pow (bit_and a b) k ∙ product ∙ single
