use Rattle.std.proofs.Common.{◌+◌, ◌^◌, ◌<◌, ◌∙◌, arith}
use Rattle.vme_port.specs.Passes.{seen_by, made_by}
use Rattle.vme_port.proofs.Attempts.{out, put_none, put_one, rests_lost, shared_lost, rests_full, adds_none, is_full, made_fits, rests_one, adds_one}
use Rattle.vme_port.proofs.port.Port.attempt.Goals as goal

pub invariant_of-pass : goal.invariant_of-pass
invariant_of-pass g c =
    let rest = c.pass.invariant in
    rests_lost _ _ _ _ _ _ _ rest (c.if-not-take.ensures.outcome rest.only rest.alone)

pub returns-then-not-take-clause-busy : goal.returns-then-not-take-clause-busy
returns-then-not-take-clause-busy g c =
    let rest = c.pass.invariant in
    let lost = c.if-not-take.ensures.outcome rest.only rest.alone in
    rw (← c.pass.view_is) (λ i. record {
      port = c.if-not-take.ensures.port i;
      who = c.pass.inside.who;
      made = c.pass.inside.made;
      seen = seen_by (lost.same i).0.accounts;
      mine = made_by (lost.same i).0.accounts;
    })

pub returns-then-not-take-clause-shared : goal.returns-then-not-take-clause-shared
returns-then-not-take-clause-shared g c =
    let rest = c.pass.invariant in
    shared_lost _ _ _ _ _ _ _ rest (c.if-not-take.ensures.outcome rest.only rest.alone)

pub perform_counted-requires-clause-out : goal.perform_counted-requires-clause-out
perform_counted-requires-clause-out g c =
    let rest = c.pass.invariant in
    out _ _ _ rest.only _ (c.if-not-take.ensures.outcome rest.only rest.alone)

pub put_unchanged-requires-clause-out : goal.put_unchanged-requires-clause-out
put_unchanged-requires-clause-out g c =
    let rest = c.pass.invariant in
    put_none _ _ _ rest.only _ (c.if-not-take.ensures.outcome rest.only rest.alone) _ c.in_default.ensures.done

pub invariant_of-pass-in_default : goal.invariant_of-pass-in_default
invariant_of-pass-in_default g c =
    let rest = c.pass.invariant in
    rests_full _ _ _ _ _ _ _ rest (c.if-not-take.ensures.outcome rest.only rest.alone) _ _ c.in_default.ensures.done c.put_unchanged.ensures.outcome

pub returns-in_default-clause-adds : goal.returns-in_default-clause-adds
returns-in_default-clause-adds g c =
    let rest = c.pass.invariant in
    let port = c.put_unchanged.ensures.port ∙ c.in_default.ensures.port ∙ c.if-not-take.ensures.port in
    rw (← c.pass.view_is) (adds_none _ _ _ _ _ _ _ rest (c.if-not-take.ensures.outcome rest.only rest.alone) _ _ c.in_default.ensures.done c.put_unchanged.ensures.outcome _ _ port)

pub returns-in_default-clause-full : goal.returns-in_default-clause-full
returns-in_default-clause-full g c =
    let rest = c.pass.invariant in
    is_full _ _ _ _ _ _ _ rest (c.if-not-take.ensures.outcome rest.only rest.alone) _ _ c.in_default.ensures.done c.put_unchanged.ensures.outcome

pub put_entry-requires-clause-out : goal.put_entry-requires-clause-out
put_entry-requires-clause-out g c =
    let rest = c.pass.invariant in
    put_one _ _ _ rest.only _ (c.if-not-take.ensures.outcome rest.only rest.alone) _ _ _ _ rest.named c.in-Some.ensures.done

pub overflow_add-pass : goal.overflow_add-pass
overflow_add-pass g c =
    let rest = c.pass.invariant in
    let fits : c.pass.inside.made + 1 < 2 ^ 64 = made_fits _ _ _ _ _ _ _ rest (c.if-not-take.ensures.outcome rest.only rest.alone) _ _ _ c.in-Some.ensures.done in
    omega arith

pub invariant_of-pass-2 : goal.invariant_of-pass-2
invariant_of-pass-2 g c =
    let rest = c.pass.invariant in
    rests_one _ _ _ _ _ _ _ rest (c.if-not-take.ensures.outcome rest.only rest.alone) _ _ _ _ c.in-Some.ensures.done c.put_entry.ensures.outcome

pub returns-clause-adds : goal.returns-clause-adds
returns-clause-adds g c =
    let rest = c.pass.invariant in
    let port = c.put_entry.ensures.port ∙ c.in-Some.ensures.port ∙ c.if-not-take.ensures.port in
    rw (← c.pass.view_is) (adds_one _ _ _ _ _ _ _ rest (c.if-not-take.ensures.outcome rest.only rest.alone) _ _ _ _ c.in-Some.ensures.done c.put_entry.ensures.outcome _ _ port)
