-- Lists of refusals in the order of the checks.
use Rattle.std.specs.Prelude.{Bool, true, false, List, [], ◌∷◌, Option, Some, None}

-- a refusal where a test holds
abbrev pub where_true : {F : Type 0} → Bool → F → Option F
where_true true fault = Some fault
where_true false fault = None

-- the first refusal of a list, if any
abbrev pub first_of : {F : Type 0} → List (Option F) → Option F
first_of [] = None
first_of (Some fault ∷ more) = Some fault
first_of (None ∷ more) = first_of more
