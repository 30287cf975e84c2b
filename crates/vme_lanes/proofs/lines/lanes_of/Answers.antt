-- The lanes of eight flags and eight bytes.
use Rattle.std.proofs.Common.{rules}
use Rattle.vme_lanes.proofs.lemmas.Words.{flagged_8}
use Rattle.vme_lanes.proofs.lines.lanes_of.Goals as goal

pub returns : goal.returns
returns c = rw (c.lane.ensures, c.lane-2.ensures, c.lane-3.ensures, c.lane-4.ensures, c.lane-5.ensures, c.lane-6.ensures, c.lane-7.ensures, c.lane-8.ensures) (flagged_8 c.args.flags c.args.bytes (search rules) (search rules))
