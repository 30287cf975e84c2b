use Rattle.vme_decode.proofs.lemmas.Selection.{selection_by, place_responds, responds_place, place_remainder}
use Rattle.vme_decode.proofs.laws.selection_goes_by_the_address.Goals as goal

pub returns-clause-first_byte : goal.returns-clause-first_byte
returns-clause-first_byte c = selection_by

pub returns-clause-one : goal.returns-clause-one
returns-clause-one c = λ entries code addr place offset lawful.
    (place_responds entries code addr place offset, responds_place entries code addr place offset lawful)

pub returns-clause-remainder : goal.returns-clause-remainder
returns-clause-remainder c = place_remainder
