use Rattle.vme_decode.proofs.lemmas.Selection.{selected_facts, facts_selected}
use Rattle.vme_decode.proofs.laws.selected_is_the_one.Goals as goal

pub returns : goal.returns
returns c = λ entries s place offset lawful.
    (selected_facts entries s place offset, facts_selected entries s place offset lawful)
