-- A list without a refusal has at most as many entries as a table can have.
use Rattle.std.proofs.Common.{refl, arith}
use Rattle.vme_decode.proofs.Aligned.{few_entries}
use Rattle.vme_decode.proofs.map.AddressMap.new.Goals as goal

pub of-requires : goal.of-requires
of-requires c = omega (arith, few_entries c.args.entries.now (c.in_ok-check.ensures.lawful.0 refl))
