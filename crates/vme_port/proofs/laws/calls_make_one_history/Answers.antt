use Rattle.vme_port.proofs.lemmas.OneHistory.{placed, one_place, maker_of, entries_counted, part_of_unused}
use Rattle.vme_port.proofs.laws.calls_make_one_history.Goals as goal

pub returns-clause-placed : goal.returns-clause-placed
returns-clause-placed g c = λ start object k n passes outcome. placed g.O.Object.step start k passes object n outcome

pub returns-clause-one_place : goal.returns-clause-one_place
returns-clause-one_place g c = one_place g.O.Object.step

pub returns-clause-no_others : goal.returns-clause-no_others
returns-clause-no_others g c = λ start object k n passes outcome. maker_of g.O.Object.step start k passes object n outcome

pub returns-clause-as_many : goal.returns-clause-as_many
returns-clause-as_many g c = λ start object k n passes outcome. entries_counted g.O.Object.step start k passes object n outcome

pub returns-clause-parts : goal.returns-clause-parts
returns-clause-parts g c = λ start object k n passes outcome port who es p q unused made there.
    part_of_unused g.O.Object.step start k passes object n outcome es p q there made port who unused
