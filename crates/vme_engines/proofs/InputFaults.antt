-- What holds of the bytes that were read, for a reader with a byte model.
use Rattle.std.proofs.Common.{◌≡◌, ◌≤◌, ℕ, List, length, Option, Some, None, IfSome, Result, Ok, Err, IfErr, subst, sym}
use Rattle.vme_engines.specs.declared.fault.ProgramFault.{ProgramFault}
use Rattle.vme_engines.specs.declared.fault.ProgramFault.TheVariants.{Read, TooLong, Write, Memory, Thread, Spent, Config}
use Rattle.vme_engines.specs.Faults.{IsConfigFault, ReadsWithin}

-- what holds of the bytes that were read holds of those of the byte model, if there is one
pub reported_holds : (P : List ℕ → Type 0) → (reported : Option (List ℕ)) → (input : List ℕ)
    → IfSome reported (λ bytes. bytes ≡ input) → P input → IfSome reported P
reported_holds P None input same holds = tt
reported_holds P (Some bytes) input same holds = subst P (sym same) holds

-- the limit is kept if the input has no more bytes than it, and each fault is one that comes after reading
pub config_within : {T : Type 0} (limit : ℕ) (old new : Option (List ℕ)) (end : Result T ProgramFault) → IfErr end IsConfigFault
    → IfSome old (λ input. length input ≤ limit) → ReadsWithin limit old new end
config_within limit old new (Ok x) faults within = within
config_within limit old new (Err Memory) faults within = tt
config_within limit old new (Err (Config fault)) faults within = within
config_within limit old new (Err Read) faults within = absurd faults
config_within limit old new (Err TooLong) faults within = absurd faults
config_within limit old new (Err Write) faults within = absurd faults
config_within limit old new (Err Thread) faults within = absurd faults
config_within limit old new (Err Spent) faults within = absurd faults
