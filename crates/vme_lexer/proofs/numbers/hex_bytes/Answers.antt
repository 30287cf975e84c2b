-- One more pair of digits keeps `IsSpelled`, and a word that is rejected at the end spells no bytes.
use Rattle.std.proofs.Common.{◌≡◌, ◌≤◌, ◌^◌, ◌==◌, ◌∙◌, sym, ap, true, false, inl, inr, arith, length, length-drop}
use Rattle.std.proofs.lemmas.List.{take_rest}
use Rattle.vme_lexer.proofs.Digits.{spelled_more, unspelled_word, unspelled_bytes}
use Rattle.vme_lexer.proofs.numbers.hex_bytes.Goals as goal

pub loop-rest-preserved : goal.loop-rest-preserved
loop-rest-preserved g c =
    let rest = c.loop-rest.rest.now in
    record {
      bytes = spelled_more c.loop-rest.bytes.items c.push.new.self.items c.loop-rest.sum c.hex_digit.result c.hex_digit-in-len2-up.result rest _ c.args.word.now
          (omega arith) c.in-len2-up.len_at_least c.hex_digit.ensures.digit c.hex_digit-in-len2-up.ensures.digit c.push.ensures.items (take_rest rest 2)
          (omega (arith, c.push.ensures.len)) c.loop-rest.invariant.bytes;
      bound = omega (arith, c.push.ensures.len, ap length (take_rest rest 2), length-drop 2 rest, c.loop-rest.invariant.bound, c.in-len2-up.len_at_least);
    }

pub returns-else-is_empty-2 : goal.returns-else-is_empty-2
returns-else-is_empty-2 g c =
    let wrong : length c.loop-rest.rest.now ≡ 0 → 2 ^ 32 ≤ c.loop-rest.sum =
    λ empty. elim c.else-is_empty-2.either [
      | inl both ↦ both.1
      | inr some ↦ absurd (let bad : false ≡ true = sym some ∙ c.is_empty-2.ensures ∙ ap (λ n. n == 0) empty in cc)
    ] in
    sym (unspelled_bytes g.row.MOST c.args.word.now
    (unspelled_word _ c.loop-rest.sum c.loop-rest.rest.now c.args.word.now c.in_default.len_below wrong c.loop-rest.invariant.bytes))
