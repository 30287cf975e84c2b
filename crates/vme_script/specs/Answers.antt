-- Refusals in order, and what a function that may run out of memory returns.
use Rattle.std.specs.Prelude.{◌≡◌, ◌≢◌, Bool, true, false, Result, Ok, Err}
use Rattle.vme_config_toml.specs.declared.fault.DocumentFault.{DocumentFault}
use Rattle.vme_config_toml.specs.declared.fault.DocumentFault.TheVariants.{NotToml, BadKey, OutOfMemory}
use Rattle.vme_script.specs.declared.fault.ConfigFault.{ConfigFault}
use Rattle.vme_script.specs.declared.fault.ConfigFault.TheVariants as config

infixl 10 ◌>>=◌
-- one check after another: the first refusal is the result
abbrev pub ◌>>=◌ : {A B : Type 0} → Result A ConfigFault → (A → Result B ConfigFault) → Result B ConfigFault
(Ok x) >>= f = f x
(Err fault) >>= f = Err fault

-- the given refusal, if the test holds
abbrev pub refuse : Bool → ConfigFault → Result (Unit {0}) ConfigFault
refuse true fault = Err fault
refuse false fault = Ok tt

-- the result is the expected one; after a failed allocation nothing is stated
abbrev pub Gives : {T A : Type 0} → (T → A) → Result T ConfigFault → Result A ConfigFault → Type 0
Gives view (Ok x) expected = expected ≡ Ok (view x)
Gives view (Err fault) expected = fault ≢ config.OutOfMemory → expected ≡ Err fault

-- the fault of a configuration for a fault of its document: the one with the same name
abbrev pub as_config_fault : DocumentFault → ConfigFault
as_config_fault NotToml = config.NotToml
as_config_fault BadKey = config.BadKey
as_config_fault OutOfMemory = config.OutOfMemory
