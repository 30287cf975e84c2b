use Rattle.std.proofs.Common.{rules, arith, ◌≡◌, ◌∙◌, ◌<◌, ◌++◌, ◌∷◌, [], min, length, take, ap, sym}
use Rattle.std.proofs.lemmas.Grind.{common_steps}
use Rattle.std.proofs.lemmas.List.{take_more, take_more_set, drop-set-lt}
use Rattle.vme_machine_ffi.specs.Closings.{bytes_of}
use Rattle.vme_machine_ffi.proofs.Written.{ended}
use Rattle.vme_machine_ffi.proofs.settled.write_bytes.Goals as goal

pub loop-i-preserved : goal.loop-i-preserved
loop-i-preserved c =
    let was = c.loop-i.invariant in
    let all = bytes_of c.args.homes.now in
    let i = c.loop-i.i in
    let bytes = c.loop-i.bytes in
    let some = c.in-Some.ensures.some in
    let in_bytes : i < length bytes = first_of (search rules, grind (arith, common_steps)) in
    record {
      taken = take_more_set bytes i c.in-Some.byte in_bytes ∙ ap (λ l. l ++ c.in-Some.byte ∷ []) was.taken
          ∙ ap (λ x. take i all ++ x ∷ []) (sym some.1) ∙ sym (take_more all i 0 some.0);
      kept = λ n after. drop-set-lt n bytes i c.in-Some.byte (omega (arith, after)) ∙ was.kept n (omega (arith, after));
      same = first_of (search rules, grind (arith, common_steps));
      within = omega (arith, some.0);
    }

pub returns : goal.returns
returns c =
    let was = c.loop-i.invariant in
    let all = bytes_of c.args.homes.now in
    let at : c.loop-i.i ≡ min (length all) (length c.args.bytes.now) = first_of (search rules, grind (arith, common_steps)) in
    ended all c.args.bytes.now c.loop-i.bytes c.loop-i.i at was.taken (was.kept c.loop-i.i (omega arith)) was.same

pub returns-in_default : goal.returns-in_default
returns-in_default c =
    let was = c.loop-i.invariant in
    let all = bytes_of c.args.homes.now in
    let at : c.loop-i.i ≡ min (length all) (length c.args.bytes.now) = first_of (search rules, grind (arith, common_steps)) in
    ended all c.args.bytes.now c.loop-i.bytes c.loop-i.i at was.taken (was.kept c.loop-i.i (omega arith)) was.same
