use Rattle.std.proofs.Common.{rules, arith, ◌<◌, length}
use Rattle.std.proofs.lemmas.Grind.{common_steps}
use Rattle.std.proofs.lemmas.List.{get_or-append_right}
use Rattle.vme_machine_ffi.proofs.Written.{bytes_more}
use Rattle.vme_machine_ffi.proofs.settled.byte_of.Goals as goal

pub loop-i-preserved : goal.loop-i-preserved
loop-i-preserved c =
    let was = c.loop-i.invariant in
    let homes = c.args.homes.now in
    let in_homes : c.loop-i.i < length homes = first_of (search rules, grind (arith, common_steps)) in
    let split = bytes_more homes c.loop-i.i c.index-homes-i.result in_homes in
    record {
      rest = first_of (search rules, grind (arith, common_steps, split));
      byte = first_of (search rules, grind (arith, common_steps, split, get_or-append_right));
    }
