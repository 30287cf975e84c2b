-- The bytes of a reader with a byte model.
use Rattle.std.proofs.Common.{◌≡◌, ℕ, List, Option, Some, None, IfSome, subst, sym}

-- a property of the bytes that were read is one of the bytes of the byte model, if there is one
pub of_input : (P : List ℕ → Type 0) (model : Option (List ℕ)) (input : List ℕ) → IfSome model (λ bytes. bytes ≡ input) → P input
    → IfSome model P
of_input P None input same holds = tt
of_input P (Some bytes) input same holds = subst P (sym same) holds
