-- Numbers and the bytes that spell them.
use Rattle.std.proofs.Common.{◌≡◌, ℕ, ◌+◌, ◌-◌, ◌/◌, ◌%◌, ◌^◌, ◌<◌, ◌≤◌, suc, List, ◌∷◌, ap, ◌∙◌, arith}
use Rattle.std.proofs.Math.Nat.{pow-le-pow_right}
use Rattle.vme_cycle.specs.Functions.{bytes_onto}

-- a number of i digits is below each higher power of the base
pub below_power : (base n i most : ℕ) → 0 < base → n < base ^ i → i ≤ most → n < base ^ most
below_power base n i most some small few =
    let high : base ^ i ≤ base ^ most = pow-le-pow_right {n = base} some {i = i} {j = most} few in
    omega (arith, high, small)

-- if the last byte of the remaining number is put before the bytes so far, all bytes of the number stay the same
pub byte_more :
    (len place rest : ℕ) (bytes new all : List ℕ) → place < len → bytes_onto (len - place) rest bytes ≡ all → new ≡ (rest % 256) ∷ bytes
    → bytes_onto (len - (place + 1)) (rest / 256) new ≡ all
byte_more len place rest bytes new all less whole put =
    let left : len - place ≡ suc (len - (place + 1)) = omega (arith, less) in
    ap (bytes_onto (len - (place + 1)) (rest / 256)) put ∙ rw left at whole
