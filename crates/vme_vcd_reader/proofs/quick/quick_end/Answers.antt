use Rattle.std.proofs.Common.{◌-◌, drop, length, refl, take, arith}
use Rattle.vme_vcd_reader.proofs.LineEnds.{one_end, two_end, three_end}
use Rattle.vme_vcd_reader.proofs.quick.quick_end.Goals as goal

pub returns-then-two-eq10-clause-name : goal.returns-then-two-eq10-clause-name
returns-then-two-eq10-clause-name c =
    one_end c.named.result c.args.text.now c.with_character-first.result (omega arith) (omega arith) c.with_character-first.ensures
    (record { some = c.named.ensures.some; number = c.named.ensures.number; rest_is = c.named.ensures.rest })

pub returns-then-three-eq10-clause-name : goal.returns-then-three-eq10-clause-name
returns-then-three-eq10-clause-name c =
    let text = c.args.text.now in
    let tail = take (length text - 2) (drop 2 text) in
    let q = c.named-then-three-eq10 in
    two_end q.result text tail c.with_character-first.result c.with_character-second.result (omega arith) refl (omega arith) (omega arith)
    c.with_character-first.ensures c.with_character-second.ensures
    (record { some = q.ensures.some; number = q.ensures.number; rest_is = q.ensures.rest })

pub returns-then-four-eq10-clause-name : goal.returns-then-four-eq10-clause-name
returns-then-four-eq10-clause-name c =
    let text = c.args.text.now in
    let tail = take (length text - 2) (drop 2 text) in
    let last = take (length tail - 1) (drop 1 tail) in
    let q = c.named-then-four-eq10 in
    three_end q.result text tail last c.with_character-first.result c.with_character-second.result c.with_character-third.result (omega arith) refl
    (omega arith) refl (omega arith) (omega arith) c.with_character-first.ensures c.with_character-second.ensures c.with_character-third.ensures
    (record { some = q.ensures.some; number = q.ensures.number; rest_is = q.ensures.rest })
