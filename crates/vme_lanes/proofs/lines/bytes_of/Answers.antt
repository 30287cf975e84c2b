-- The bytes of the eight lanes.
use Rattle.std.proofs.Common.{None, rules}
use Rattle.vme_lanes.specs.Words.{byte_of}
use Rattle.vme_lanes.proofs.lemmas.Words.{mapped_8}
use Rattle.vme_lanes.proofs.lines.bytes_of.Goals as goal

pub returns : goal.returns
returns c = rw (c.byte.ensures, c.byte-2.ensures, c.byte-3.ensures, c.byte-4.ensures, c.byte-5.ensures, c.byte-6.ensures, c.byte-7.ensures, c.byte-8.ensures) (mapped_8 byte_of None c.args.lanes (search rules))
