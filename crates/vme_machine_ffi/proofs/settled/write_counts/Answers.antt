use Rattle.std.proofs.Common.{rules, arith, ◌≡◌, ◌∙◌, ◌<◌, ◌++◌, ◌∷◌, [], min, length, take, slice_index_or, ap, sym}
use Rattle.std.proofs.lemmas.Grind.{common_steps}
use Rattle.std.proofs.lemmas.List.{take_more, take_more_set, get_or-map, drop-set-lt}
use Rattle.vme_machine_ffi.specs.Closings.{counts_of}
use Rattle.vme_machine_ffi.proofs.Written.{ended}
use Rattle.vme_machine_ffi.proofs.settled.write_counts.Goals as goal

pub loop-i-preserved : goal.loop-i-preserved
loop-i-preserved c =
    let was = c.loop-i.invariant in
    let homes = c.args.homes.now in
    let counts = counts_of homes in
    let i = c.loop-i.i in
    let steps = c.loop-i.steps in
    let home = slice_index_or homes i c.index-homes-i.result in
    let in_steps : i < length steps = first_of (search rules, grind (arith, common_steps)) in
    let in_homes : i < length homes = first_of (search rules, grind (arith, common_steps)) in
    let in_counts : i < length counts = first_of (search rules, grind (arith, common_steps)) in
    record {
      taken = take_more_set steps i home.count in_steps ∙ ap (λ l. l ++ home.count ∷ []) was.taken
          ∙ ap (λ x. take i counts ++ x ∷ []) (sym (get_or-map (λ home. home.count) homes i c.index-homes-i.result 0 in_homes)) ∙ sym (take_more counts i 0 in_counts);
      kept = λ n after. drop-set-lt n steps i home.count (omega (arith, after)) ∙ was.kept n (omega (arith, after));
      same = first_of (search rules, grind (arith, common_steps));
    }

pub returns : goal.returns
returns c =
    let was = c.loop-i.invariant in
    let counts = counts_of c.args.homes.now in
    let at : c.loop-i.i ≡ min (length counts) (length c.args.steps.now) = first_of (search rules, grind (arith, common_steps)) in
    ended counts c.args.steps.now c.loop-i.steps c.loop-i.i at was.taken (was.kept c.loop-i.i (omega arith)) was.same
