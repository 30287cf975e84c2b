-- The binary digits of a number.
use Rattle.std.proofs.Common.{◌≡◌, ℕ, suc, ◌+◌, ◌-◌, ◌/◌, ◌%◌, ◌^◌, ◌<◌, ◌≤◌, ◌∷◌, sym, ap, ◌∙◌, arith}
use Rattle.std.proofs.Math.Nat.{div-eq_of_lt}
use Rattle.std.proofs.Math.Pow.{pow_mono}
use Rattle.vme_trace.specs.Changes.{binary}

-- the next of the digits that are left
pub binary_next : (width k n : ℕ) → k < width
    → binary (width - k) n ≡ (48 + n / 2 ^ (width - 1 - k) % 2) ∷ binary (width - (k + 1)) n
binary_next width k n within =
    let more : width - k ≡ suc (width - (k + 1)) = omega (arith, within) in
    let same : width - (k + 1) ≡ width - 1 - k = omega (arith, within) in
    ap (λ w. binary w n) more ∙ ap (λ w. (48 + n / 2 ^ w % 2) ∷ binary (width - (k + 1)) n) same

-- a number of 32 bits has no digit 1 beyond them
pub no_digit : (n place : ℕ) → n < 2 ^ 32 → 32 ≤ place → 48 ≡ 48 + n / 2 ^ place % 2
no_digit n place small past =
    let all : 2 ^ 32 ≤ 2 ^ place = pow_mono past in
    let none : n / 2 ^ place ≡ 0 = div-eq_of_lt (omega (arith, small, all)) in
    sym (ap (λ q. 48 + q % 2) none)
