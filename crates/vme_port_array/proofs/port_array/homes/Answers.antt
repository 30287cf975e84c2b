use Rattle.std.proofs.Common.{◌≡◌, ◌+◌, ◌∙◌, ◌++◌, ◌∷◌, [], List, sym, subst, arith, length, ap, length-append}
use Rattle.std.specs.Vec.Iter.{into_iter_items}
use Rattle.vme_port.specs.declared.home.Home.{Home}
use Rattle.vme_port_array.proofs.Opens.{HaveHomes, homes_more, homes_all}
use Rattle.vme_port_array.proofs.lemmas.Lists.{no_more}
use Rattle.vme_port_array.proofs.port_array.homes.Goals as goal

pub loop-object-preserved : goal.loop-object-preserved
loop-object-preserved g c =
    let was = c.loop-object.invariant in
    let step = c.in-Some.ensures.steps in
    let pushed = c.push_reserved.ensures.items in
    let one : length (c.loop-object.homes.items ++ c.unused.result ∷ []) ≡ length c.loop-object.homes.items + 1 = length-append c.loop-object.homes.items (c.unused.result ∷ []) in
    let long : length (into_iter_items c.loop-object.object-iterator) ≡ length (into_iter_items c.next.new.self) + 1 = ap length step.0 ∙ omega arith in
    let now : length c.push_reserved.new.self.items ≡ length c.loop-object.homes.items + 1 = ap length pushed ∙ one in (
      subst (λ (l : List (Home g.row.O.Denot)). HaveHomes c.args.objects.items (into_iter_items c.next.new.self) l) (sym pushed)
          (homes_more _ _ _ _ _ _ was.0 step.0 c.unused.ensures.object c.unused.ensures.count),
      omega (arith, was.1, was.2, now, long, c.push_reserved.ensures.capacity, step.1),
      omega (arith, was.2, long, step.1),
      tt,
      tt,
    )

pub returns : goal.returns
returns g c =
    let was = c.loop-object.invariant in
    homes_all _ _ _ was.0 (no_more _ (sym was.2 ∙ c.in-None.ensures.steps.0))
