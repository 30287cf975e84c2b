use Rattle.std.proofs.Common.{arith}
use Rattle.std.proofs.lemmas.Bool.Decides.{nat_tests}
use Rattle.vme_vcd_reader.proofs.table.Table.first.Goals as goal

pub returns-in-None : goal.returns-in-None
returns-in-None c = λ linked. absurd (grind (arith, nat_tests, linked.all))
