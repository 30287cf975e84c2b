-- The lines of a range, step by step.
use Rattle.std.proofs.Common.{◌≡◌, ℕ, ◌<◌, ◌≤◌, true, false, List, Option, Some, None, Result, Ok, Err, codes, min, max, if◌then◌else◌, refl, arith}
use Rattle.std.specs.Bool.{nat_lt}
use Rattle.std.specs.Option.{ok_or}
use Rattle.std.proofs.lemmas.Bool.Decides.{nat_tests}
use Rattle.vme_line_map.specs.Groups.{lines}
use Rattle.vme_line_map.specs.Texts.{cut, number}
use Rattle.vme_line_map.specs.Patterns.{range_in, ◌>>=◌}
use Rattle.vme_line_map.specs.declared.group.Group.{Group}
use Rattle.vme_line_map.specs.declared.fault.LinesProblem.{LinesProblem}
use Rattle.vme_line_map.specs.declared.fault.LinesProblem.TheVariants.{BadRange, TooManyBits}

-- the lines between two that may be no numbers
abbrev pub range_between : Group → Option ℕ → Option ℕ → Result (ℕ × ℕ) LinesProblem
range_between group first last = do
  one ← ok_or first BadRange
  other ← ok_or last BadRange
  if nat_lt (max one other) (lines group) then Ok (min one other, max one other) else Err TooManyBits

-- a range that is not cut
pub range_in-none : (group : Group) (range : List ℕ) → cut (codes "..") range ≡ None → range_in group range ≡ Err BadRange
range_in-none group range e = rw e refl

-- a range between two texts
pub range_in-cut :
    (group : Group) (range one other : List ℕ) (a b : Option ℕ) → cut (codes "..") range ≡ Some (one, other) → a ≡ number 8 one → b ≡ number 8 other
    → range_in group range ≡ range_between group a b
range_in-cut group range one other a b e f g = rw (e, f, g) refl

-- no second number
pub range_between-one : (group : Group) (one : Option ℕ) → range_between group one None ≡ Err BadRange
range_between-one group None = refl
range_between-one group (Some one) = refl

-- lines that the group has not, or has
pub range_between-over : (group : Group) (one other : ℕ) → lines group ≤ max one other → range_between group (Some one) (Some other) ≡ Err TooManyBits
range_between-over group one other over =
    let no : nat_lt (max one other) (lines group) ≡ false = grind (arith, nat_tests) in
    rw no refl

pub range_between-all : (group : Group) (one other : ℕ) → max one other < lines group → range_between group (Some one) (Some other) ≡ Ok (min one other, max one other)
range_between-all group one other fits =
    let yes : nat_lt (max one other) (lines group) ≡ true = grind (arith, nat_tests) in
    rw yes refl
