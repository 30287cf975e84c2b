-- Where findings are, and the refusals that they stand for.
use Rattle.std.specs.Prelude.{ℕ, List, [], ◌∷◌, ◌++◌, Option, Some, None}
use Rattle.vme_positions.specs.declared.place.Key.{Key}
use Rattle.vme_positions.specs.declared.place.Place.{Place}
use Rattle.vme_positions.specs.declared.place.Place.TheVariants.{Value}
use Rattle.vme_positions.specs.declared.place.TableName.{TableName}
use Rattle.vme_script.specs.declared.fault.ConfigFault.{ConfigFault}
use Rattle.vme_faults.specs.declared.finding.Finding.{Finding}
use Rattle.vme_faults.specs.Causes.{refusal_of}

-- the place of a finding, and the refusal that its cause stands for
abbrev pub sited : Finding → Place × Option ConfigFault
sited finding = (finding.place, refusal_of finding.cause)

-- the refusal of a value, at the value of its key in a table
abbrev pub at_value : TableName → ℕ → Key → Option ConfigFault → List (Place × Option ConfigFault)
at_value table index key None = []
at_value table index key (Some fault) = (Value table index key, Some fault) ∷ []

-- the refusals of the values of a table, each at its key
abbrev pub at_values : TableName → ℕ → List (Key × Option ConfigFault) → List (Place × Option ConfigFault)
at_values table index [] = []
at_values table index (refusal ∷ more) = at_value table index refusal.0 refusal.1 ++ at_values table index more
