use Rattle.std.proofs.Common.{◌≡◌, ◌<◌, length, ◌∙◌, arith, inl, inr, eq-eqb, ne_eqb}
use Rattle.std.proofs.lemmas.Bool.{cases_lt}
use Rattle.vme_serve.proofs.Reading.{kept_byte, full_line}
use Rattle.vme_serve.proofs.input.keep.Goals as goal

pub returns-then-not-is_full : goal.returns-then-not-is_full
returns-then-not-is_full c =
    let old = c.args.line.now.items in
    let less : length old < 85 = elim (cases_lt (length old) 85) [
      | inl less ↦ less
      | inr more ↦
          let full = eq-eqb (length old) 85 (omega (arith, more, c.is_full.ensures.fits)) in
          absurd (cc (full, c.is_full.ensures.value, c.if-not-is_full.true))
    ] in
    c.push.ensures.items ∙ kept_byte 85 old c.args.byte less

pub returns-else-not-is_full : goal.returns-else-not-is_full
returns-else-not-is_full c =
    let old = c.args.line.now.items in
    let full : length old ≡ 85 = elim (cases_lt (length old) 85) [
      | inl less ↦
          let other = ne_eqb (length old) 85 (λ same. omega (arith, same, less)) in
          absurd (cc (other, c.is_full.ensures.value, c.if-not-is_full.false))
      | inr more ↦ omega (arith, more, c.is_full.ensures.fits)
    ] in
    full_line 85 old c.args.byte full
