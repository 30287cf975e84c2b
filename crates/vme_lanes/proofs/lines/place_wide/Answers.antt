-- The eight bytes on all lanes.
use Rattle.std.proofs.Common.{Some, ◌∙◌}
use Rattle.vme_lanes.proofs.lemmas.Words.{mapped_8}
use Rattle.vme_lanes.proofs.lines.place_wide.Goals as goal

pub returns : goal.returns
returns c = c.of.ensures ∙ mapped_8 Some 0 c.args.bytes.now c.requires
