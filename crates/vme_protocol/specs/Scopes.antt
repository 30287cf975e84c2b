-- Which rules are judged.
use Rattle.std.specs.Prelude.{ℕ, Bool, true, false, ◌==◌, ◌/◌, ◌%◌, ◌^◌}
use Rattle.vme_protocol.specs.declared.scope.Mode.{Mode}
use Rattle.vme_protocol.specs.declared.scope.Mode.TheVariants.{Bus, Model}
use Rattle.vme_protocol.specs.declared.scope.Scope.{Scope}

-- whether the rules of the model are judged too
abbrev pub in_model : Mode → Bool
in_model Bus = false
in_model Model = true

-- the rules of this project's model are judged too
abbrev pub is_strict : Scope → Bool
is_strict scope = in_model scope.mode

-- whether cycles with a code are not judged: its bit is set
unfoldable pub is_ignored : Scope → ℕ → Bool
is_ignored scope am = (scope.ignored / 2 ^ (am % 64)) % 2 == 1
