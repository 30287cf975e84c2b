-- A session: the answers to the lines of an input.
use Rattle.std.specs.Prelude.{ℕ, ◌≡◌, ◌<◌, ◌≤◌, Bool, true, false, List, [], ◌∷◌, ◌++◌, length, Option, Some, None, Result, Err}
use Rattle.std.specs.Str.Lines.{lines}
use Rattle.vme_script.specs.Configurations.{Configuration}
use Rattle.vme_serve.specs.declared.fault.SessionFault.{SessionFault}
use Rattle.vme_serve.specs.declared.fault.SessionFault.TheVariants.{Read, Write}
use Rattle.vme_serve.specs.Services.{ServiceView, opening_service, answer}

-- the answers to lines, one after another, each by the service that the line before left
abbrev pub answers : ServiceView → List (List ℕ) → List ℕ
answers service [] = []
answers service (line ∷ more) = (answer service line).text ++ answers (answer service line).service more

-- the text of a session with these bytes as input
abbrev pub session_text : Configuration → List ℕ → List ℕ
session_text config input = answers (opening_service config) (lines input)

-- what is kept of a line: all of it, or, if it has more than 83 bytes, some text of more than 83 bytes
pub record IsKeptOf (line kept : List ℕ) : Type 0 where
  pub whole : length line ≤ 83 → kept ≡ line
  pub long : 83 < length line → 83 < length kept

-- the first line was taken from the bytes that are left: what was kept of it, and the bytes after it; or there was no
-- line
abbrev pub TakesLine : Option (List ℕ) → Option (List ℕ) → List ℕ → Bool → Type 0
TakesLine None new kept there = Unit {0}
TakesLine (Some input) None kept there = ⊥
TakesLine (Some input) (Some rest) kept true =
    (line : List ℕ) × (lines input ≡ line ∷ lines rest) × IsKeptOf line kept
TakesLine (Some input) (Some rest) kept false = (input ≡ []) × (rest ≡ [])

-- whether a session ended with a failure of the reader
abbrev pub is_read_end : {T : Type 0} → Result T SessionFault → Bool
is_read_end (Err Read) = true
is_read_end end = false

-- whether a session ended with a failure of the writer
abbrev pub is_write_end : {T : Type 0} → Result T SessionFault → Bool
is_write_end (Err Write) = true
is_write_end end = false
