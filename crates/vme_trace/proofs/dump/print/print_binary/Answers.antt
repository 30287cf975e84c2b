use Rattle.std.proofs.Common.{◌+◌, ◌-◌, ◌/◌, ◌%◌, ◌^◌, ◌++◌, ◌∷◌, [], sym, ap, ◌∙◌, append_assoc}
use Rattle.vme_trace.specs.Changes.{binary}
use Rattle.vme_trace.proofs.Digits.{binary_next}
use Rattle.vme_trace.proofs.dump.print.print_binary.Goals as goal

pub loop-k-preserved : goal.loop-k-preserved
loop-k-preserved c =
    let rest = binary (c.args.width - (c.loop-k.k + 1)) c.args.number in
    let next = binary_next c.args.width c.loop-k.k c.args.number c.loop-k-test.true in
    ap (λ text. text ++ rest) (c.in_ok-push.ensures.items ∙ ap (λ d. c.loop-k.text.items ++ d ∷ []) c.digit.ensures)
    ∙ append_assoc c.loop-k.text.items ((48 + c.args.number / 2 ^ (c.args.width - 1 - c.loop-k.k) % 2) ∷ []) rest
    ∙ ap (λ left. c.loop-k.text.items ++ left) (sym next) ∙ c.loop-k.invariant
