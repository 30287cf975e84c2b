-- The first of all refusals of lines is the one with which the script is refused.
use Rattle.std.proofs.Common.{◌≡◌, ℕ, ◌+◌, false, List, [], ◌∷◌, ◌++◌, Option, Some, None, Result, Ok, Err, refl, sym}
use Rattle.vme_grammar.specs.declared.line.Line.{Line}
use Rattle.vme_grammar.specs.declared.fault.LineFault.{LineFault}
use Rattle.vme_script.specs.declared.context.ScriptContext.{ScriptContext}
use Rattle.vme_grammar.specs.declared.fault.LineFault.TheVariants.{BadNumber}
use Rattle.vme_script.specs.declared.mailbox_numbers.MailboxNumbers.TheVariants.{Declared}
use Rattle.vme_script.specs.MailboxNumbers.{may_name}
use Rattle.vme_script.specs.Contexts.{boxes_of, refusal_of, line_unless_refused, line_within}
use Rattle.vme_grammar.specs.Grammar.{line_of}
use Rattle.vme_script.specs.declared.fault.ScriptRefusal.{ScriptRefusal}
use Rattle.vme_script.specs.declared.script.ScriptLine.{ScriptLine}
use Rattle.vme_script.specs.Scripts.{asked_at, line_before, lines_from}
use Rattle.vme_faults.specs.Lines.{fault_of, refusal_at, line_refusals, IsFirstOf}

-- the refusal of a line comes before those of the lines after it
one_first :
    (number : ℕ) (read : Result (Option Line) LineFault) (others : Result (List ScriptLine) ScriptRefusal)
    (refusals : List ScriptRefusal)
    → IsFirstOf others refusals
    → IsFirstOf (line_before number (asked_at number read) others) (refusal_at number (fault_of read) ++ refusals)
one_first number (Err fault) others refusals first = (refusals, refl)
one_first number (Ok line) (Ok script) refusals first = first
one_first number (Ok line) (Err refusal) refusals first = first

-- the refusal of lines is the first of all
pub lines_first :
    (rules : ScriptContext) (number : ℕ) (text : List (List ℕ))
    → IsFirstOf (lines_from rules number text) (line_refusals rules number text)
lines_first rules number [] = refl
lines_first rules number (line ∷ more) =
    one_first number (line_within rules line) (lines_from rules (number + 1) more) (line_refusals rules (number + 1) more)
    (lines_first rules (number + 1) more)

-- a line that is refused by itself is refused in each context
refused : (rules : ScriptContext) (text : List ℕ) (fault : LineFault) → line_of text ≡ Err fault → line_within rules text ≡ Err fault
unfolding line_within
refused rules text fault read = rw read refl

-- a line that requests nothing by itself requests nothing in each context
empty : (rules : ScriptContext) (text : List ℕ) → line_of text ≡ Ok None → line_within rules text ≡ Ok None
unfolding line_within
empty rules text read = rw read refl

-- a line that is refused by itself has that refusal in each context
pub fault_refused :
    (rules : ScriptContext) (text : List ℕ) (fault : LineFault) → line_of text ≡ Err fault
    → fault_of (line_within rules text) ≡ Some fault
fault_refused rules text fault read = rw (refused rules text fault read) refl

-- a line that requests nothing has no refusal
pub fault_empty : (rules : ScriptContext) (text : List ℕ) → line_of text ≡ Ok None → fault_of (line_within rules text) ≡ None
fault_empty rules text read = rw (empty rules text read) refl

-- a line that is kept unless it has a refusal has that refusal
unless_faulted : (refusal : Option LineFault) (line : Line) → fault_of (line_unless_refused refusal line) ≡ refusal
unless_faulted None line = refl
unless_faulted (Some fault) line = refl

-- a parsed line has the refusal of its context
pub fault_asked :
    (rules : ScriptContext) (text : List ℕ) (line : Line) (refusal : Option LineFault) → line_of text ≡ Ok (Some line)
    → refusal ≡ refusal_of rules line → refusal ≡ fault_of (line_within rules text)
unfolding line_within
fault_asked rules text line refusal read is = rw (read, is) (sym (unless_faulted (refusal_of rules line) line))

-- a line that names an undeclared mailbox has that refusal in each context with this number of mailboxes
pub fault_unnamed :
    (rules : ScriptContext) (text : List ℕ) (line : Line) (count : ℕ) → line_of text ≡ Ok (Some line)
    → boxes_of rules ≡ Declared count → may_name (Declared count) line ≡ false
    → fault_of (line_within rules text) ≡ Some BadNumber
unfolding line_within
fault_unnamed rules text line count read boxes other = rw (read, boxes, other) refl
