-- The variables of a name, step by step.
use Rattle.std.proofs.Common.{◌≡◌, ℕ, ◌<◌, ◌≤◌, true, List, Option, codes, length, ap, arith}
use Rattle.std.specs.Bool.{nat_lt, nat_le}
use Rattle.std.specs.Option.{option_map_or}
use Rattle.std.proofs.lemmas.Bool.Decides.{nat_tests}
use Rattle.vme_line_map.specs.Texts.{cut}
use Rattle.vme_line_map.specs.Patterns.{of_name, one_variable, each_line}
use Rattle.vme_line_map.specs.declared.pattern.Named.{Named}

-- a name of 1 to 255 bytes, cut at `{`
pub of_name-cut :
    (named : Named) (name : List ℕ) (o : Option (List ℕ × List ℕ)) → 0 < length name → length name ≤ 255 → cut (codes "{") name ≡ o
    → of_name named name ≡ option_map_or (λ parts. each_line named parts.0 parts.1) o (one_variable named name)
of_name-cut named name o some few e =
    let low : nat_lt 0 (length name) ≡ true = grind (arith, nat_tests) in
    let high : nat_le (length name) 255 ≡ true = grind (arith, nat_tests) in
    rw (low, high) (ap (λ p. option_map_or (λ parts. each_line named parts.0 parts.1) p (one_variable named name)) e)
