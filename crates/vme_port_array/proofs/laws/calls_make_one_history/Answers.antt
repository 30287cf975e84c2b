use Rattle.vme_port.proofs.lemmas.SharedHistory.{entries_counted, maker_of, part_of_unused}
use Rattle.vme_port_array.proofs.lemmas.OneHistory.{shared, placed, one_place}
use Rattle.vme_port_array.proofs.laws.calls_make_one_history.Goals as goal

pub returns-clause-placed : goal.returns-clause-placed
returns-clause-placed g c = λ starts homes k passes outcome. placed g.O.Object.step starts k passes homes outcome

pub returns-clause-one_place : goal.returns-clause-one_place
returns-clause-one_place g c = one_place g.O.Object.step

pub returns-clause-no_others : goal.returns-clause-no_others
returns-clause-no_others g c = λ starts homes k passes outcome. maker_of k outcome.history passes (shared g.O.Object.step starts k passes homes outcome)

pub returns-clause-as_many : goal.returns-clause-as_many
returns-clause-as_many g c = λ starts homes k passes outcome. entries_counted k outcome.history passes (shared g.O.Object.step starts k passes homes outcome)

pub returns-clause-parts : goal.returns-clause-parts
returns-clause-parts g c = λ starts homes k passes outcome port who es p q unused made there.
    part_of_unused k outcome.history passes (shared g.O.Object.step starts k passes homes outcome) es p q there made port who unused
