use Rattle.std.proofs.Common.{◌≡◌, ◌≤◌, ◌*◌, ◌^◌, ◌%◌, ℕ, arith, ◌∙◌}
use Rattle.std.proofs.Math.Pow.{pow_mono}
use Rattle.std.proofs.Math.Nat.{mod-eq_of_lt}
use Rattle.std.proofs.lemmas.Nat.{pow_pos}
use Rattle.vme_vcd_reader.proofs.variable.lines_between.Goals as goal

-- a power of two below 2^64
shifted : (n : ℕ) → n ≤ 32 → 1 * 2 ^ n % 18446744073709551616 ≡ 2 ^ n
shifted n few =
    let most : 2 ^ n ≤ 2 ^ 32 = pow_mono few in
    mod-eq_of_lt (omega (arith, most)) ∙ omega arith

pub overflow_sub-result : goal.overflow_sub-result
overflow_sub-result c =
    let order : 2 ^ c.args.first ≤ 2 ^ c.args.end = pow_mono c.requires.order in
    omega (arith, order, shifted c.args.first (omega (arith, c.requires.order, c.requires.most)), shifted c.args.end c.requires.most)

pub overflow_cast-result : goal.overflow_cast-result
overflow_cast-result c =
    let most : 2 ^ c.args.end ≤ 2 ^ 32 = pow_mono c.requires.most in
    omega (arith, most, pow_pos c.args.first, shifted c.args.first (omega (arith, c.requires.order, c.requires.most)), shifted c.args.end c.requires.most)

pub returns : goal.returns
returns c = omega (arith, shifted c.args.first (omega (arith, c.requires.order, c.requires.most)), shifted c.args.end c.requires.most)
