-- The worst of several statuses.
use Rattle.std.proofs.Common.{◌≡◌, refl}
use Rattle.vme_shared.specs.declared.status.Status.{Status}
use Rattle.vme_shared.specs.declared.status.Status.TheVariants.{Clean, Marked}
use Rattle.vme_shared.specs.Statuses.{worse_of}

-- the worst of three statuses does not depend on their grouping
pub worse_assoc : (a b c : Status) → worse_of (worse_of a b) c ≡ worse_of a (worse_of b c)
worse_assoc Clean b c = refl
worse_assoc Marked b c = refl

-- the worse of a status and Clean is that status
pub worse_clean : (a : Status) → worse_of a Clean ≡ a
worse_clean Clean = refl
worse_clean Marked = refl
