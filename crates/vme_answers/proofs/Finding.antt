-- Bytes that a read finds at places one after another.
use Rattle.std.proofs.Common.{◌≡◌, ℕ, zero, suc, ◌+◌, ◌<◌, Bool, true, false, ◌&&◌, if◌then◌else◌, List, [], ◌∷◌, length, get_or, drop, drop-cons, add-one, refl, ap, sym, ◌∙◌, arith}
use Rattle.std.specs.Prelude.{slice_get, slice_set}
use Rattle.vme_known.specs.declared.access.Access.TheVariants.{Finds, Stores}
use Rattle.vme_known.specs.declared.byte.Byte.{Byte}
use Rattle.vme_known.specs.declared.byte.Byte.TheVariants.{Known}
use Rattle.vme_known.specs.Judging.{is_open, known_after, may_all_come, may_find}
use Rattle.vme_answers.specs.Bytes.{all_after, finds, stores}

-- a later element is as it was before one was set
set_before : {A : Type 0} (xs : List A) (i j : ℕ) (x : A) → i < j → slice_get (slice_set xs i x) j ≡ slice_get xs j
set_before [] i j x less = refl
set_before (w ∷ xs) i zero x less = absurd (omega (arith, less))
set_before (w ∷ xs) zero (suc j) x less = refl
set_before (w ∷ xs) (suc i) (suc j) x less = set_before xs i j x (omega (arith, less))

-- what is known of a later byte does not depend on a byte that is found
found_before : (known : List Byte) (at j byte : ℕ) → at < j → slice_get (known_after known (Finds at byte)) j ≡ slice_get known j
found_before known at j byte less = by (is_open (slice_get known at))
  where
    by : (test : Bool) → slice_get (if test then known else slice_set known at (Known byte)) j ≡ slice_get known j
    by true = refl
    by false = set_before known at j (Known byte) less

-- whether later bytes may be found does not depend on it either
come_after : (known : List Byte) (at j byte : ℕ) (bytes : List ℕ) → at < j
    → may_all_come (known_after known (Finds at byte)) (finds j bytes) ≡ may_all_come known (finds j bytes)
come_after known at j byte [] less = refl
come_after known at j byte (b ∷ bytes) less =
    let over : at < j + 1 = omega (arith, less) in
    let next : j < j + 1 = omega arith in
    let now : List Byte = known_after known (Finds at byte) in
    ap (λ found. may_find found b && may_all_come (known_after now (Finds j b)) (finds (j + 1) bytes)) (found_before known at j byte less)
    ∙ ap (λ rest. may_find (slice_get known j) b && rest)
    (come_after now j (j + 1) b bytes next ∙ come_after known at (j + 1) byte bytes over ∙ sym (come_after known j (j + 1) b bytes next))

-- bytes may be found one after another if the first may be, and then the others
pub come_next : (known : List Byte) (at byte : ℕ) (bytes : List ℕ) → may_find (slice_get known at) byte ≡ true
    → may_all_come known (finds at (byte ∷ bytes)) ≡ may_all_come known (finds (at + 1) bytes)
come_next known at byte bytes may =
    ap (λ test. test && may_all_come (known_after known (Finds at byte)) (finds (at + 1) bytes)) may
    ∙ come_after known at (at + 1) byte bytes (omega arith)

-- bytes that are left may be found if the first may be, and then the others
pub come_at : (known : List Byte) (at : ℕ) (bytes : List ℕ) (i : ℕ) → i < length bytes → may_find (slice_get known at) (get_or bytes i 0) ≡ true
    → may_all_come known (finds at (drop i bytes)) ≡ may_all_come known (finds (at + 1) (drop (i + 1) bytes))
come_at known at bytes i less may =
    let next : drop i bytes ≡ get_or bytes i 0 ∷ drop (i + 1) bytes = rw add-one (drop-cons bytes i 0 less) in
    ap (λ left. may_all_come known (finds at left)) next ∙ come_next known at (get_or bytes i 0) (drop (i + 1) bytes) may

-- what is known after bytes are found is what is known after they are stored
pub found_stored : (known : List Byte) (at : ℕ) (bytes : List ℕ) → all_after known (stores at bytes) ≡ all_after known (finds at bytes)
found_stored known at [] = refl
found_stored known at (b ∷ bytes) = found_stored (known_after known (Finds at b)) (at + 1) bytes
