-- A line that is refused by itself, or that names an undeclared mailbox, has that refusal in each such context.
use Rattle.std.proofs.Common.{rules, ◌≡◌, ◌∙◌, sym, false, Some, Ok, Err, Option, ℕ}
use Rattle.vme_grammar.specs.Grammar.{line_of}
use Rattle.vme_script.specs.Contexts.{boxes_of}
use Rattle.vme_script.specs.MailboxNumbers.{may_name}
use Rattle.vme_script.specs.declared.context.ScriptContext.{ScriptContext}
use Rattle.vme_script.specs.declared.mailbox_numbers.MailboxNumbers.TheVariants.{Declared}
use Rattle.vme_faults.specs.Lines.{Declares}
use Rattle.vme_faults.proofs.Heads.{fault_refused, fault_unnamed}
use Rattle.vme_faults.proofs.script.fault_alone.Goals as goal

-- the number of mailboxes of a context, if it is known
boxes_known :
    (declared : Option ℕ) (count : ℕ) (around : ScriptContext) → declared ≡ Some count → Declares declared around
    → boxes_of around ≡ Declared count
boxes_known declared count around is known = rw is at known

pub returns-then-not-may_name : goal.returns-then-not-may_name
returns-then-not-may_name c =
    let read : line_of c.args.text.now ≡ Ok (Some c.in-Ok-Some.line) = search rules in
    let count : c.args.around.now.declared ≡ Some c.in_ok-declared-in-Ok-Some.declared = search rules in
    let other : may_name (Declared c.in_ok-declared-in-Ok-Some.declared) c.in-Ok-Some.line ≡ false = search rules in
    λ around known.
    fault_unnamed around c.args.text.now c.in-Ok-Some.line c.in_ok-declared-in-Ok-Some.declared read
    (boxes_known c.args.around.now.declared c.in_ok-declared-in-Ok-Some.declared around count known) other ∙ sym c.no_mailbox.ensures

pub returns-in-Err : goal.returns-in-Err
returns-in-Err c =
    let read : line_of c.args.text.now ≡ Err c.in-Err.fault = search rules in
    λ around known. fault_refused around c.args.text.now c.in-Err.fault read ∙ sym c.cause_of.ensures
