-- Accesses to the bytes of a board whose memory at the start is not known, and the memories that explain them.
use Rattle.std.specs.Prelude.{◌≡◌, ℕ, Bool, true, false, ◌==◌, ◌&&◌, List, [], ◌∷◌, length, Option, Some, None, slice_get, slice_set, IsTrue}
use Rattle.vme_known.specs.declared.access.Access.{Access}
use Rattle.vme_known.specs.declared.access.Access.TheVariants.{Finds, Stores}
use Rattle.vme_known.specs.declared.byte.Byte.{Byte}
use Rattle.vme_known.specs.declared.byte.Byte.TheVariants.{Known}
use Rattle.vme_known.specs.Judging.{is_open}

-- whether a byte is there and has this value
abbrev pub has_byte : Option ℕ → ℕ → Bool
has_byte None byte = false
has_byte (Some found) byte = found == byte

-- whether a memory gives each found byte, one access after another
abbrev pub explains : List ℕ → List Access → Bool
explains memory [] = true
explains memory (Finds at byte ∷ accesses) = has_byte (slice_get memory at) byte && explains memory accesses
explains memory (Stores at byte ∷ accesses) = explains (slice_set memory at byte) accesses

-- accesses with unseen stores to open bytes between them
pub data Adds (open_at : ℕ → Bool) : List Access → List Access → Type 0 where
  none : Adds open_at [] []
  seen : (access : Access) (accesses more : List Access) → Adds open_at accesses more
      → Adds open_at (access ∷ accesses) (access ∷ more)
  unseen : (at byte : ℕ) (accesses more : List Access) → open_at at ≡ true → Adds open_at accesses more
      → Adds open_at accesses (Stores at byte ∷ more)

-- a memory has each known byte
pub record HasKnown (bytes : List Byte) (memory : List ℕ) : Type 0 where
  pub size : length memory ≡ length bytes
  pub each : (at byte : ℕ) → slice_get bytes at ≡ Some (Known byte) → slice_get memory at ≡ Some byte

-- accesses are a history of a board of which this is known at the start: with some unseen stores to its open bytes, some
-- memory that has the known bytes explains them
pub record IsHistory (bytes : List Byte) (accesses : List Access) : Type 0 where
  pub memory : List ℕ
  pub has_known : HasKnown bytes memory
  pub more : List Access
  pub adds : Adds (λ at. is_open (slice_get bytes at)) accesses more
  pub explained : IsTrue (explains memory more)
