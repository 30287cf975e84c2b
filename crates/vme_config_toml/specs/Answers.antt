-- What a function that reads values returns.
use Rattle.std.specs.Prelude.{◌≡◌, ◌≢◌, Option, Some, None, Result, Ok, Err}
use Rattle.vme_config_toml.specs.declared.fault.DocumentFault.{DocumentFault}
use Rattle.vme_config_toml.specs.declared.fault.DocumentFault.TheVariants.{BadKey, OutOfMemory}

-- the result is the expected value, or BadKey if there is none; after a failed allocation nothing is stated
abbrev pub Reads : {T A : Type 0} → (T → A) → Result T DocumentFault → Option A → Type 0
Reads view (Ok x) expected = expected ≡ Some (view x)
Reads view (Err fault) expected = fault ≢ OutOfMemory → (expected ≡ None) × (fault ≡ BadKey)
