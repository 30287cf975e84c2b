-- A map of lines: the variables that are wanted of a dump, and how one more is added.
use Rattle.std.specs.Prelude.{◌≡◌, ℕ, ◌+◌, nat_le, Bool, List, ◌++◌, length, Result, Ok, Err, if◌then◌else◌, ⊤}
use Rattle.vme_line_map.specs.declared.group.Group.{Group}
use Rattle.vme_line_map.specs.declared.map.Place.{Place}
use Rattle.vme_line_map.specs.declared.map.Wanted.{Wanted}
use Rattle.vme_line_map.specs.declared.fault.LinesProblem.{LinesProblem}
use Rattle.vme_line_map.specs.declared.fault.LinesProblem.TheVariants.{TooMany}

-- a variable: the end of its path, its lines, which bits they are, and whether they are high where it is 0
pub record Variable : Type 0 where
  pub name : List ℕ
  pub group : Group
  pub place : Place
  pub is_inverted : Bool

-- a map: its variables in order, and whether somebody named them
pub record Map : Type 0 where
  pub variables : List Variable
  pub is_named : Bool

-- the variable that a `Wanted` shows
abbrev pub shown : Wanted → Variable
shown w = record { name = w.name.now; group = w.group; place = w.place; is_inverted = w.is_inverted }

-- the greatest number of variables of a map
abbrev pub most_wanted : ℕ
most_wanted = 500

-- a map with these variables at its end
abbrev pub with_variables : Map → List Variable → Map
with_variables map more = record { variables = map.variables ++ more; is_named = map.is_named }

-- a map with these variables at its end, if they fit
abbrev pub added : Map → List Variable → Result Map LinesProblem
added map more =
    if nat_le (length map.variables + length more) most_wanted then Ok (with_variables map more) else Err TooMany

-- the call returns the expected problem, or leaves the expected map; after a failed allocation nothing is stated
abbrev pub Leaves : {F : Type 0} → Result (Result (Unit {0}) LinesProblem) F → Map → Result Map LinesProblem → Type 0
Leaves (Ok (Ok _)) new expected = expected ≡ Ok new
Leaves (Ok (Err problem)) new expected = expected ≡ Err problem
Leaves (Err _) new expected = ⊤
