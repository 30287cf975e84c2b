-- The flags of the eight lanes.
use Rattle.std.proofs.Common.{None, rules}
use Rattle.vme_lanes.specs.Words.{flag_of}
use Rattle.vme_lanes.proofs.lemmas.Words.{mapped_8}
use Rattle.vme_lanes.proofs.lines.flags_of.Goals as goal

pub returns : goal.returns
returns c = rw (c.flag.ensures, c.flag-2.ensures, c.flag-3.ensures, c.flag-4.ensures, c.flag-5.ensures, c.flag-6.ensures, c.flag-7.ensures, c.flag-8.ensures) (mapped_8 flag_of None c.args.lanes (search rules))
