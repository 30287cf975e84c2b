use Rattle.std.proofs.Common.{◌≡◌, true, ap, get_or, sym, ◌∙◌, rules, arith}
use Rattle.std.proofs.lemmas.Bool.{not-false}
use Rattle.vme_known.specs.Judging.{may_find}
use Rattle.vme_answers.proofs.Finding.{come_at}
use Rattle.vme_answers.proofs.bytes.may_find_all.Goals as goal

pub loop-byte-preserved : goal.loop-byte-preserved
loop-byte-preserved c =
    let may : c.may_find.result ≡ true = search (rules, not-false) in
    record {
      place = omega (arith, c.loop-byte.invariant.place);
      answer = c.loop-byte.invariant.answer
          ∙ come_at c.args.known.now c.loop-byte.place c.args.bytes.now c.loop-byte.byte-index c.loop-byte-test.true
          (ap (λ known. may_find known (get_or c.args.bytes.now c.loop-byte.byte-index 0)) c.get.ensures ∙ sym c.may_find.ensures ∙ may);
    }
