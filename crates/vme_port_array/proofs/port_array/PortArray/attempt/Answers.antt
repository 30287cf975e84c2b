use Rattle.std.proofs.Common.{◌∙◌, length}
use Rattle.vme_port.specs.Passes.{seen_by, made_by}
use Rattle.vme_port_array.proofs.Indexes.{start_of}
use Rattle.vme_port_array.proofs.Attempts.{out, put_none, put_one, rests_lost, shared_lost, rests_full, adds_none, is_full, rests_one, adds_one, counted_one}
use Rattle.vme_port_array.proofs.port_array.PortArray.attempt.Goals as goal

pub invariant_of-pass : goal.invariant_of-pass
invariant_of-pass g c =
    let rest = c.pass.invariant in
    rests_lost _ _ _ c.args.index _ _ _ rest (c.if-not-take.ensures.outcome rest.only rest.alone)

pub returns-then-not-take-clause-busy : goal.returns-then-not-take-clause-busy
returns-then-not-take-clause-busy g c =
    let rest = c.pass.invariant in
    let lost = c.if-not-take.ensures.outcome rest.only rest.alone in
    rw (← c.pass.view_is) (λ i. record {
      port = c.if-not-take.ensures.array i;
      who = c.pass.inside.who;
      made = length (made_by (lost.same i).0.accounts);
      seen = seen_by (lost.same i).0.accounts;
      mine = made_by (lost.same i).0.accounts;
    })

pub returns-then-not-take-clause-shared : goal.returns-then-not-take-clause-shared
returns-then-not-take-clause-shared g c =
    let rest = c.pass.invariant in
    shared_lost _ _ _ c.args.index _ _ _ rest (c.if-not-take.ensures.outcome rest.only rest.alone)

pub perform_counted-requires-clause-out : goal.perform_counted-requires-clause-out
perform_counted-requires-clause-out g c =
    let rest = c.pass.invariant in
    out _ _ _ _ rest.only _ (c.if-not-take.ensures.outcome rest.only rest.alone)

pub put_unchanged-requires-clause-out : goal.put_unchanged-requires-clause-out
put_unchanged-requires-clause-out g c =
    let rest = c.pass.invariant in
    let start = start_of c.args.self.now c.args.index c.requires.index in
    put_none _ _ _ _ start.0 start.1 rest.only _ (c.if-not-take.ensures.outcome rest.only rest.alone) _ c.in_default.ensures.done

pub invariant_of-pass-in_default : goal.invariant_of-pass-in_default
invariant_of-pass-in_default g c =
    let rest = c.pass.invariant in
    let start = start_of c.args.self.now c.args.index c.requires.index in
    rests_full _ _ _ _ _ _ _ rest (c.if-not-take.ensures.outcome rest.only rest.alone) _ _ c.in_default.ensures.done c.put_unchanged.ensures.outcome start.0 start.1

pub returns-in_default-clause-adds : goal.returns-in_default-clause-adds
returns-in_default-clause-adds g c =
    let rest = c.pass.invariant in
    let start = start_of c.args.self.now c.args.index c.requires.index in
    let same = c.put_unchanged.ensures.array ∙ c.in_default.ensures.array ∙ c.if-not-take.ensures.array in
    rw (← c.pass.view_is) (adds_none _ _ _ _ _ _ _ rest (c.if-not-take.ensures.outcome rest.only rest.alone) _ _ c.in_default.ensures.done c.put_unchanged.ensures.outcome start.0 start.1 _ _ same)

pub returns-in_default-clause-full : goal.returns-in_default-clause-full
returns-in_default-clause-full g c =
    let rest = c.pass.invariant in
    let start = start_of c.args.self.now c.args.index c.requires.index in
    is_full _ _ _ _ _ _ _ rest (c.if-not-take.ensures.outcome rest.only rest.alone) _ _ c.in_default.ensures.done c.put_unchanged.ensures.outcome start.0 start.1

pub put_entry-requires-clause-out : goal.put_entry-requires-clause-out
put_entry-requires-clause-out g c =
    let rest = c.pass.invariant in
    let start = start_of c.args.self.now c.args.index c.requires.index in
    put_one _ _ _ _ start.0 start.1 rest.only _ (c.if-not-take.ensures.outcome rest.only rest.alone) _ _ _ _ rest.named c.in-Some.ensures.done

pub invariant_of-pass-2 : goal.invariant_of-pass-2
invariant_of-pass-2 g c =
    let rest = c.pass.invariant in
    rests_one _ _ _ _ _ _ _ rest (c.if-not-take.ensures.outcome rest.only rest.alone) _ _ _ _ c.in-Some.ensures.done c.put_entry.ensures.outcome

pub returns-clause-counted : goal.returns-clause-counted
returns-clause-counted g c =
    let rest = c.pass.invariant in
    let start = start_of c.args.self.now c.args.index c.requires.index in
    counted_one _ _ _ _ _ _ _ rest (c.if-not-take.ensures.outcome rest.only rest.alone) _ _ _ _ c.in-Some.ensures.done c.put_entry.ensures.outcome start.0 start.1

pub returns-clause-adds : goal.returns-clause-adds
returns-clause-adds g c =
    let rest = c.pass.invariant in
    let same = c.put_entry.ensures.array ∙ c.in-Some.ensures.array ∙ c.if-not-take.ensures.array in
    rw (← c.pass.view_is) (adds_one _ _ _ _ _ _ _ rest (c.if-not-take.ensures.outcome rest.only rest.alone) _ _ _ _ c.in-Some.ensures.done c.put_entry.ensures.outcome _ _ same)
