-- Tests in another order.
use Rattle.std.proofs.Common.{◌≡◌, Bool, true, false, ◌&&◌, refl}

-- five tests and the same tests in another order have one value
pub five_tests : (a w m l d : Bool) → ((((a && w) && m) && l) && d) ≡ (m && (a && (l && (w && d))))
five_tests true true true l d = refl
five_tests true true false l d = refl
five_tests true false true true d = refl
five_tests true false true false d = refl
five_tests true false false l d = refl
five_tests false w true l d = refl
five_tests false w false l d = refl
