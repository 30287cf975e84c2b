-- The rule of grants, of two samples.
use Rattle.std.proofs.Common.{◌≡◌, ◌⊎◌, ℕ, suc, ◌+◌, ◌*◌, ◌/◌, ◌^◌, ◌<◌, ◌==◌, Bool, true, false, not, ◌&&◌, ◌||◌, refl, ap, ◌∙◌, arith, inl, inr}
use Rattle.std.specs.Prelude.{nat_le, bit_and, bit_or, bit_xor}
use Rattle.std.specs.Int.{bit_at}
use Rattle.std.specs.Int.Bits.{and_zero_l, and_zero_r, xor_zero_l, and_self, xor_self, or_self}
use Rattle.std.proofs.lemmas.Bool.{eq-eqb, lt-leb}
use Rattle.std.proofs.Math.Nat.{pow-suc}
use Rattle.vme_protocol.specs.declared.sample.Sample.{Sample}
use Rattle.vme_protocol.specs.Arbitration.{breaks_grants}
use Rattle.vme_legal_traces.specs.Kept.{strict_scope}
use Rattle.vme_legal_traces.proofs.Sets.{set_in_both}

-- the drivers of BBSY* of the second of two samples are those of the first, or none
abbrev pub KeepsDrivers : Sample → Sample → Type 0
KeepsDrivers a s = (s.drivers ≡ a.drivers) ⊎ (s.drivers ≡ 0)

-- no grant begins but while BBSY* is high
abbrev pub KeepsGrants : Sample → Sample → Type 0
KeepsGrants a s = (s.grants ≡ a.grants) ⊎ ((s.grants ≡ 0) ⊎ (s.busy ≡ true))

-- a conjunction whose second part does not hold
and_false : (a b : Bool) → b ≡ false → (a && b) ≡ false
and_false true b h = h
and_false false b h = refl

-- a conjunction whose first part does not hold
false_and : (a b : Bool) → a ≡ false → (a && b) ≡ false
false_and false b h = refl
false_and true b h = absurd cc

-- three tests that fail
three_fail : (a b c : Bool) → a ≡ false → b ≡ false → c ≡ false → (true && (a || b || c)) ≡ false
three_fail false false c h k l = l
three_fail false true c h k l = absurd cc
three_fail true b c h k l = absurd cc

-- no slot begins
no_begin : (a s : Sample) → KeepsDrivers a s → bit_and s.drivers (bit_xor a.drivers s.drivers) ≡ 0
no_begin a s (inl same) =
    ap (λ (d : ℕ). bit_and d (bit_xor a.drivers d)) same ∙ ap (bit_and a.drivers) (xor_self a.drivers) ∙ and_zero_r a.drivers
no_begin a s (inr none) = ap (λ (d : ℕ). bit_and d (bit_xor a.drivers d)) none ∙ and_zero_l (bit_xor a.drivers 0)

-- no grant begins while BBSY* is low
grants_keep : (a s : Sample) → KeepsGrants a s → (not (bit_and s.grants (bit_xor a.grants s.grants) == 0) && not s.busy) ≡ false
grants_keep a s (inl same) =
    let none : bit_and s.grants (bit_xor a.grants s.grants) ≡ 0
    = ap (λ (g : ℕ). bit_and g (bit_xor a.grants g)) same ∙ ap (bit_and a.grants) (xor_self a.grants) ∙ and_zero_r a.grants in
    false_and (not (bit_and s.grants (bit_xor a.grants s.grants) == 0)) (not s.busy) (ap (λ (n : ℕ). not (n == 0)) none)
grants_keep a s (inr (inl gone)) =
    let none : bit_and s.grants (bit_xor a.grants s.grants) ≡ 0
    = ap (λ (g : ℕ). bit_and g (bit_xor a.grants g)) gone ∙ and_zero_l (bit_xor a.grants 0) in
    false_and (not (bit_and s.grants (bit_xor a.grants s.grants) == 0)) (not s.busy) (ap (λ (n : ℕ). not (n == 0)) none)
grants_keep a s (inr (inr high)) = and_false (not (bit_and s.grants (bit_xor a.grants s.grants) == 0)) (not s.busy) (ap not high)

-- two samples of which no slot begins to drive BBSY* keep the rule
pub quiet_pair : (timeout : ℕ) (a s : Sample) → KeepsDrivers a s → KeepsGrants a s → breaks_grants (strict_scope timeout) a s ≡ false
unfolding breaks_grants
quiet_pair timeout a s drivers grants =
    let none = no_begin a s drivers in
    three_fail _ _ _
    (ap (λ (d : ℕ). not (bit_and d (bit_and a.requests a.grants) == d)) none ∙ ap (λ (n : ℕ). not (n == 0)) (and_zero_l (bit_and a.requests a.grants)))
    (false_and _ (nat_le (bit_and s.drivers (bit_xor a.drivers s.drivers)) (bit_or a.grants s.grants / 2)) (ap (λ (n : ℕ). not (n == 0)) none))
    (grants_keep a s grants)

-- two samples of which one slot begins to drive BBSY*, which has a request and a grant that ends there, keep it
pub taken_pair : (timeout k : ℕ) (a s : Sample) → a.drivers ≡ 0 → s.drivers ≡ 2 ^ k → bit_at a.requests k ≡ 1 → bit_at a.grants k ≡ 1
    → s.grants ≡ a.grants → a.grants < 2 ^ (k + 1) → breaks_grants (strict_scope timeout) a s ≡ false
unfolding breaks_grants
taken_pair timeout k a s free taken request grant same within =
    let power : ℕ = 2 ^ k in
    let begins : bit_and s.drivers (bit_xor a.drivers s.drivers) ≡ power
    = ap (λ (d : ℕ). bit_and s.drivers (bit_xor d s.drivers)) free ∙ ap (bit_and s.drivers) (xor_zero_l s.drivers) ∙ and_self s.drivers ∙ taken in
    let set : bit_and power (bit_and a.requests a.grants) ≡ power = set_in_both k a.requests a.grants request grant in
    let all : bit_or a.grants s.grants ≡ a.grants = ap (bit_or a.grants) same ∙ or_self a.grants in
    let more : k + 1 ≡ suc k = omega arith in
    let double : 2 ^ (k + 1) ≡ power * 2 = ap (λ (j : ℕ). 2 ^ j) more ∙ pow-suc 2 k in
    let half : bit_or a.grants s.grants / 2 < power = omega (arith, all, within, double) in
    three_fail _ _ _
    (ap (λ (d : ℕ). not (bit_and d (bit_and a.requests a.grants) == d)) begins
    ∙ ap not (eq-eqb (bit_and power (bit_and a.requests a.grants)) power set))
    (and_false (not (bit_and s.drivers (bit_xor a.drivers s.drivers) == 0)) _
    (ap (λ (d : ℕ). nat_le d (bit_or a.grants s.grants / 2)) begins ∙ lt-leb power (bit_or a.grants s.grants / 2) half))
    (grants_keep a s (inl same))
