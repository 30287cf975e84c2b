-- What `proofs/Parts.antt` proves of any number of parts holds of those of an access.
use Rattle.vme_split.specs.Parts.{width_bytes}
use Rattle.vme_split.proofs.Parts.{cover, all_aligned, wide, whole}
use Rattle.vme_split.proofs.laws.parts_are_the_bytes.Goals as goal

pub returns-clause-bytes : goal.returns-clause-bytes
returns-clause-bytes c width at n few = cover 4 (width_bytes width) at n few

pub returns-clause-aligned : goal.returns-clause-aligned
returns-clause-aligned c width at n = all_aligned 4 (width_bytes width) at n (wide width)

pub returns-clause-whole : goal.returns-clause-whole
returns-clause-whole c width at n few local once = whole (width_bytes width) at n few local once
