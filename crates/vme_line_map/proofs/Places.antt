-- The place that a name says, step by step.
use Rattle.std.proofs.Common.{◌≡◌, ℕ, List, Option, Some, None, Bor, Result, Err, codes, unwrap_or, refl, sym, ap, ◌∙◌}
use Rattle.std.specs.Option.{option_map, ok_or}
use Rattle.vme_line_map.specs.Texts.{cut, number}
use Rattle.vme_line_map.specs.Patterns.{ends, bits_in, bits_of, ◌>>=◌}
use Rattle.vme_line_map.specs.declared.group.Group.{Group}
use Rattle.vme_line_map.specs.declared.map.Place.{Place}
use Rattle.vme_line_map.specs.declared.fault.LinesProblem.{LinesProblem}
use Rattle.vme_line_map.specs.declared.fault.LinesProblem.TheVariants.{BadBits}
use Rattle.vme_line_map.proofs.TextCuts.{texts}

-- the bits between two indices that may be no numbers
abbrev pub bits_at : Group → ℕ → Option ℕ → Option ℕ → Result Place LinesProblem
bits_at group first from to = do
  one ← ok_or from BadBits
  other ← ok_or to BadBits
  bits_of group first one other

-- the texts of a pair, or of another
pub unwrap_or-texts : (r : Option (Bor (List ℕ) × Bor (List ℕ))) (x : Bor (List ℕ) × Bor (List ℕ)) → unwrap_or (option_map texts r) (texts x) ≡ texts (unwrap_or r x)
unwrap_or-texts None x = refl
unwrap_or-texts (Some y) x = refl

-- the two indices
pub ends-is :
    (indices : Bor (List ℕ)) (r : Option (Bor (List ℕ) × Bor (List ℕ))) (pair : Bor (List ℕ) × Bor (List ℕ))
    → cut (codes ":") indices.now ≡ option_map texts r → pair ≡ unwrap_or r (indices, indices) → ends indices.now ≡ texts pair
ends-is indices r pair parts is =
    ap (λ o. unwrap_or o (indices.now, indices.now)) parts ∙ unwrap_or-texts r (indices, indices) ∙ ap texts (sym is)

-- bits at two indices
pub bits_in-ends :
    (group : Group) (first : ℕ) (indices : List ℕ) (pair : Bor (List ℕ) × Bor (List ℕ)) (one other : Option ℕ)
    → ends indices ≡ texts pair → one ≡ number 16 pair.0.now → other ≡ number 16 pair.1.now → bits_in group first indices ≡ bits_at group first one other
bits_in-ends group first indices pair one other parts e f = rw (parts, e, f) refl

-- without a second index
pub bits_at-one : (group : Group) (first : ℕ) (one : Option ℕ) → bits_at group first one None ≡ Err BadBits
bits_at-one group first None = refl
bits_at-one group first (Some one) = refl
