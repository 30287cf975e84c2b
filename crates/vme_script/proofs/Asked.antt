-- The result of a line in a context, by the result of parsing it.
use Rattle.std.proofs.Common.{◌≡◌, ℕ, List, None, Some, Ok, Err, refl}
use Rattle.vme_grammar.specs.declared.line.Line.{Line}
use Rattle.vme_grammar.specs.declared.fault.LineFault.{LineFault}
use Rattle.vme_grammar.specs.Grammar.{line_of}
use Rattle.vme_script.specs.declared.context.ScriptContext.{ScriptContext}
use Rattle.vme_script.specs.Contexts.{refusal_of, line_within}

-- a line that is refused by itself is refused in each context
pub refused : (rules : ScriptContext) (text : List ℕ) (fault : LineFault) → line_of text ≡ Err fault → line_within rules text ≡ Err fault
unfolding line_within
refused rules text fault read = rw read refl

-- a line that requests nothing by itself requests nothing in each context
pub empty : (rules : ScriptContext) (text : List ℕ) → line_of text ≡ Ok None → line_within rules text ≡ Ok None
unfolding line_within
empty rules text read = rw read refl

-- a parsed line that its context refuses has the refusal of the context
pub forbidden :
    (rules : ScriptContext) (text : List ℕ) (line : Line) (fault : LineFault) → line_of text ≡ Ok (Some line) → refusal_of rules line ≡ Some fault
    → line_within rules text ≡ Err fault
unfolding line_within
forbidden rules text line fault read refusal = rw (read, refusal) refl

-- a parsed line that its context allows is the result
pub allowed :
    (rules : ScriptContext) (text : List ℕ) (line : Line) → line_of text ≡ Ok (Some line) → refusal_of rules line ≡ None
    → line_within rules text ≡ Ok (Some line)
unfolding line_within
allowed rules text line read refusal = rw (read, refusal) refl
