use Rattle.vme_port_array.proofs.Comparisons.{placed_behind, seen_behind}
use Rattle.vme_port_array.proofs.behind.calls_come_behind.Goals as goal

pub returns-clause-placed : goal.returns-clause-placed
returns-clause-placed g c = placed_behind g.O.Object.step

pub returns-clause-seen : goal.returns-clause-seen
returns-clause-seen g c = λ es p q q' share made. seen_behind p q share es q' made
