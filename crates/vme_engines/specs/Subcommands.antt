-- The forms of the command line as subcommands of a parser.
use Rattle.std.specs.Prelude.{true, false, if◌then◌else◌, List, [], ◌∷◌, codes, Option, Some, None, option_map, option_and_then}
use Rattle.std.specs.Str.{bytes_eq}
use Rattle.clap.specs.Words.{App, Row, Rule, Shape, first_of, new_rule}
use Rattle.clap.specs.Simple.{new_shape}
use Rattle.vme_engines.specs.CommandLines.{Word, Asked, Cycles, Step, Run}

-- the parser's rule for FILE: a required argument
abbrev pub file_rule : Rule
file_rule = record (new_rule (codes "FILE")) { required = true }

-- a subcommand that requires FILE
abbrev pub file_shape : Word → Shape
file_shape name = record (new_shape name) { rules = file_rule ∷ [] }

-- the command line of the program: one of three subcommands is required
abbrev pub command_line : App
command_line = record {
  top = record (new_shape (codes "vme")) { is_leaf = false; subcommand_required = true };
  subs = new_shape (codes "cycles") ∷ file_shape (codes "step") ∷ file_shape (codes "run") ∷ [];
}

-- the name of a subcommand, and the path that its FILE has
abbrev pub entry_in : Word × List Row → Word × Option Word
entry_in p = (p.0, first_of (codes "FILE") p.1)

-- what a subcommand asks for, by its name and the path that its FILE has
abbrev pub asked_at : Word × Option Word → Option Asked
asked_at e =
    if bytes_eq e.0 (codes "cycles") then Some Cycles
    else (if bytes_eq e.0 (codes "step") then option_map Step e.1
    else (if bytes_eq e.0 (codes "run") then option_map Run e.1 else None))

-- what the subcommand that a parse entered asks for
abbrev pub asked_by_entered : Option (Word × List Row) → Option Asked
asked_by_entered entered = option_and_then (λ p. asked_at (entry_in p)) entered
