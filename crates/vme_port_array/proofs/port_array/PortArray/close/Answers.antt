use Rattle.std.proofs.Common.{◌≡◌, ◌∙◌, ◌<◌, ℕ, false, arith, ap, sym, length, slice_index_or, set}
use mathlib.Core.Option.{some}
use lib.ListN.{get_elem?}
use Rattle.vme_port_array.proofs.lemmas.Lists.{found_within}
use Rattle.vme_port_array.proofs.Settles.{last}
use Rattle.vme_port_array.proofs.lemmas.Lists.{taken_more, emptied_more, filled_still}
use Rattle.vme_port_array.proofs.port_array.PortArray.close.Goals as goal

pub loop-index-preserved : goal.loop-index-preserved
loop-index-preserved g c =
    let was = c.loop-index.invariant in
    let p = c.loop-index.index in
    let fs = c.loop-index.closed.slots.filled in
    let slots = c.close_with-closed.result.slots.items in
    let homes = c.loop-index.homes.items in
    let x = c.take.result in
    let filled : c.take.new.self.slots.filled ≡ set fs p false = c.take.ensures.others.1 in
    let len : c.take.new.self.slots.len ≡ c.loop-index.closed.slots.len = c.take.ensures.others.2 in
    let there : get_elem? slots p ≡ some x = ap (λ l. get_elem? l p) (sym was.2) ∙ c.take.ensures.value in
    let less : p < length fs = omega (arith, c.loop-index.closed.slots.ok.1, c.loop-index-test.true, was.3, c.close_with-closed.ensures.counts.1, c.args.self.slots) in
    let long : length homes ≡ p = omega (arith, was.4, c.loop-index.homes.ok.0) in (
      λ k least below. ap (λ l. slice_index_or l k false) filled ∙ filled_still fs p c.loop-index.closed.slots.len was.0 k least (omega (arith, len)),
      λ k below. ap (λ l. slice_index_or l k false) filled ∙ emptied_more fs p less was.1 k below,
      c.take.ensures.others.0 ∙ was.2,
      len ∙ was.3,
      omega (arith, c.push_reserved.ensures.len, was.4),
      omega (arith, c.push_reserved.ensures.capacity, was.5),
      λ k below. ap (λ l. get_elem? l k) c.push_reserved.ensures.items ∙ taken_more homes slots p x long there was.6 k below,
    )

pub returns : goal.returns
returns g c =
    let was = c.loop-index.invariant in
    let slots = c.close_with-closed.result.slots.items in
    let objects : ℕ = c.args.self.objects in
    let count : length slots ≡ objects = omega (arith, c.close_with-closed.result.slots.ok.0, c.close_with-closed.ensures.counts.1, c.args.self.slots) in
    let all : length c.loop-index.homes.items ≡ objects = omega (arith, was.4, c.loop-index.homes.ok.0, c.loop-index-test.false, c.loop-index.auto.index-end) in
    rw (c.args.self.all) (last _ _ _ _ _ _ slots _ c.close_with-closed.ensures.values.2
    (λ i home at. was.6 i (let within = found_within slots i home at in omega (arith, was.4, c.loop-index.homes.ok.0)) ∙ at)
    (all ∙ sym c.args.self.count) c.requires.idle (rw (← c.args.self.all) c.requires.all))
