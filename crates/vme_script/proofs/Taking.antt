-- Lines processed one by one give the script.
use Rattle.std.proofs.Common.{◌≡◌, ℕ, ◌+◌, List, [], ◌∷◌, ◌++◌, Option, None, Some, Result, Ok, Err, refl, sym, ap, ◌∙◌, append_assoc}
use Rattle.std.proofs.lemmas.List.{append-nil}
use Rattle.vme_grammar.specs.declared.line.Line.{Line}
use Rattle.vme_grammar.specs.declared.fault.LineFault.{LineFault}
use Rattle.vme_grammar.specs.Grammar.{line_of}
use Rattle.vme_script.specs.declared.context.ScriptContext.{ScriptContext}
use Rattle.vme_script.specs.Contexts.{refusal_of}
use Rattle.vme_script.proofs.Asked.{empty, forbidden, allowed}
use Rattle.vme_script.specs.declared.fault.ScriptRefusal.{ScriptRefusal}
use Rattle.vme_script.specs.declared.fault.ScriptRefusal.TheVariants.{BadLine}
use Rattle.vme_script.specs.declared.script.ScriptLine.{ScriptLine}
use Rattle.vme_script.specs.Scripts.{numbered, with_line, lines_from, IsProcessed}

-- a line that was parsed and appended is processed, with the refusal of its context
pub kept :
    (rules : ScriptContext) (number : ℕ) (text : List ℕ) (line : Line) (before after : List ScriptLine) (refusal : Option LineFault)
    → line_of text ≡ Ok (Some line) → after ≡ before ++ record { number = number; line = line } ∷ [] → refusal ≡ refusal_of rules line
    → IsProcessed rules number text before after refusal
kept rules number text line before after None read added is = (Some line, allowed rules text line read (sym is), added)
kept rules number text line before after (Some fault) read added is = forbidden rules text line fault read (sym is)

-- a line that requests nothing is processed without an entry
pub passed_over :
    (rules : ScriptContext) (number : ℕ) (text : List ℕ) (before after : List ScriptLine) → line_of text ≡ Ok None → after ≡ before
    → IsProcessed rules number text before after None
passed_over rules number text before after read same = (None, empty rules text read, same ∙ sym (append-nil before))

-- two lists of lines before others are the second list before them, with the first list before that
with_line-append :
    (first second : List ScriptLine) (others : Result (List ScriptLine) ScriptRefusal)
    → with_line (first ++ second) others ≡ with_line first (with_line second others)
with_line-append first second (Ok others) = ap Ok (append_assoc first second others)
with_line-append first second (Err refusal) = refl

-- after a processed line, the entries so far and those of the remaining lines give the script
pub taken :
    (rules : ScriptContext) (number : ℕ) (text : List ℕ) (more : List (List ℕ)) (before after : List ScriptLine) (refusal : Option LineFault)
    → refusal ≡ None → IsProcessed rules number text before after refusal
    → with_line after (lines_from rules (number + 1) more) ≡ with_line before (lines_from rules number (text ∷ more))
taken rules number text more before after None none (asked, read, added) =
    rw (read, added) (with_line-append before (numbered number asked) (lines_from rules (number + 1) more))
taken rules number text more before after (Some fault) none is = absurd (cc)

-- a line that is refused gives the script's refusal
pub untaken :
    (rules : ScriptContext) (number : ℕ) (text : List ℕ) (more : List (List ℕ)) (before after : List ScriptLine) (fault : LineFault)
    → IsProcessed rules number text before after (Some fault)
    → with_line before (lines_from rules number (text ∷ more)) ≡ Err (BadLine number fault)
untaken rules number text more before after fault is = rw is refl
