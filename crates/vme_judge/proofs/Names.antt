-- The name of a variable that a dump lacks.
use Rattle.std.proofs.Common.{◌≡◌, ℕ, Bool, true, false, List, refl}
use Rattle.std.proofs.lemmas.Str.{is_utf8-from_IsUtf8, IsUtf8-from_is_utf8}
use Rattle.std.specs.Prelude.{IsUtf8, codes, if◌then◌else◌}
use Rattle.std.specs.Str.{is_utf8}
use Rattle.vme_judge.specs.RejectionTexts.{variable_name}

-- a name that is text is shown as it is
pub named_as_is : (bytes : List ℕ) → IsUtf8 bytes → variable_name bytes ≡ bytes
named_as_is bytes text = rw (is_utf8-from_IsUtf8 bytes text) refl

-- another one is not shown
pub named_by_mark : (bytes : List ℕ) → (IsUtf8 bytes → ⊥) → variable_name bytes ≡ codes "?"
named_by_mark bytes other = by_test (is_utf8 bytes) refl
  where
    by_test : (test : Bool) → is_utf8 bytes ≡ test → (if test then bytes else codes "?") ≡ codes "?"
    by_test true is = absurd (other (IsUtf8-from_is_utf8 bytes is))
    by_test false is = refl
