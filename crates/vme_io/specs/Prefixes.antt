-- Byte models that grow by a prefix of some bytes.
use Rattle.std.specs.Prelude.{◌≡◌, ℕ, List, ◌++◌, Option, Result, Ok, Err}
use Rattle.std.specs.Io.KnownBytes.{Appends}

-- a byte model grew by a prefix of some bytes: a device failed before all of them were written
pub record AppendsPrefix (old new : Option (List ℕ)) (bytes : List ℕ) : Type 0 where
  pub prefix : List ℕ
  pub rest : List ℕ
  pub split : bytes ≡ prefix ++ rest
  pub appends : Appends old new prefix

-- `text` was gathered after `before`: a prefix of both together was written to the sink, and `after` is the rest
pub record Gathers (old new : Option (List ℕ)) (before after text : List ℕ) : Type 0 where
  pub prefix : List ℕ
  pub appends : Appends old new prefix
  pub split : before ++ text ≡ prefix ++ after

-- `text` was gathered after `before`, or an error came after a prefix of both together was written
abbrev pub GathersOrStops : {T E : Type 0} → Result T E → (old new : Option (List ℕ)) → (before after text : List ℕ) → Type 0
GathersOrStops (Ok x) old new before after text = Gathers old new before after text
GathersOrStops (Err e) old new before after text = AppendsPrefix old new (before ++ text)
