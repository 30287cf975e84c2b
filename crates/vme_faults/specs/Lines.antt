-- All refusals of the lines of a script, and how they relate to the one with which the script is refused.
use Rattle.std.specs.Prelude.{◌≡◌, ℕ, ◌+◌, List, [], ◌∷◌, ◌++◌, Option, Some, None, Result, Ok, Err}
use Rattle.vme_grammar.specs.declared.line.Line.{Line}
use Rattle.vme_grammar.specs.declared.fault.LineFault.{LineFault}
use Rattle.vme_script.specs.declared.context.ScriptContext.{ScriptContext}
use Rattle.vme_script.specs.Contexts.{boxes_of, line_within}
use Rattle.vme_script.specs.declared.mailbox_numbers.MailboxNumbers.TheVariants.{Declared}
use Rattle.vme_script.specs.declared.fault.ScriptRefusal.{ScriptRefusal}
use Rattle.vme_script.specs.declared.fault.ScriptRefusal.TheVariants.{BadLine}
use Rattle.vme_faults.specs.declared.script.FaultyLine.{FaultyLine}
use Rattle.vme_faults.specs.Causes.{line_fault, script_refusal}

-- the refusal of a line that was read, if it is refused
abbrev pub fault_of : Result (Option Line) LineFault → Option LineFault
fault_of (Ok line) = None
fault_of (Err fault) = Some fault

-- the refusal of a script by a line with this number, if the line is refused
abbrev pub refusal_at : ℕ → Option LineFault → List ScriptRefusal
refusal_at number None = []
refusal_at number (Some fault) = BadLine number fault ∷ []

-- the refusals of lines in a context, numbered from the given number on
abbrev pub line_refusals : ScriptContext → ℕ → List (List ℕ) → List ScriptRefusal
line_refusals rules number [] = []
line_refusals rules number (line ∷ more) =
    refusal_at number (fault_of (line_within rules line)) ++ line_refusals rules (number + 1) more

-- the refusal of a script by one of its faulty lines
abbrev pub refusal_for : FaultyLine → ScriptRefusal
refusal_for faulty = script_refusal faulty.number (line_fault faulty.cause)

-- a result agrees with a list of refusals: a success has no refusals, and a refusal is the first of them
abbrev pub IsFirstOf : {A F : Type 0} → Result A F → List F → Type 0
IsFirstOf (Ok x) refusals = refusals ≡ []
IsFirstOf {F = F} (Err refusal) refusals = (more : List F) × (refusals ≡ refusal ∷ more)

-- a context declares this many mailboxes, if the number is known
abbrev pub Declares : Option ℕ → ScriptContext → Type 0
Declares None rules = Unit {0}
Declares (Some count) rules = boxes_of rules ≡ Declared count
