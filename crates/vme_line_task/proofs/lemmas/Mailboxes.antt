-- The mailbox that a line of a lawful configuration names exists.
use Rattle.std.proofs.Common.{◌≡◌, ℕ, ◌-◌, ◌<◌, ◌≤◌, true, List, length, map, Some, ap, sym, subst, ◌∙◌, arith, inl, inr}
use Rattle.std.specs.Prelude.{nat_le, ◌&&◌, option_map, slice_get}
use Rattle.std.proofs.lemmas.Option.{slice_get_cases, get_or_from_slice_get, same_Some, slice_get-map, slice_get_within}
use Rattle.std.proofs.lemmas.List.{length-map}
use Rattle.std.proofs.lemmas.Bool.Decides.{nat_tests}
use Rattle.vme_shared.specs.Mailboxes.{IsMailbox}
use Rattle.vme_script.specs.declared.mailbox_numbers.MailboxNumbers.TheVariants.{Declared}
use Rattle.vme_script.specs.MailboxNumbers.{may_name}
use Rattle.vme_grammar.specs.declared.line.Line.{Line}
use Rattle.vme_grammar.specs.declared.line.Line.TheVariants as lines
use Rattle.vme_script.specs.declared.script.ScriptLine.{ScriptLine}
use Rattle.vme_script.specs.Configurations.{Configuration}
use Rattle.vme_script.specs.Lawful.{IsLawful}
use Rattle.vme_line_task.specs.Scripts.{HasMailbox, HasItsMailbox}

-- a number from 1 to the number of mailboxes is that of a mailbox
there : (config : Configuration) → IsLawful config → (box : ℕ) → 0 < box → box ≤ length config.mailboxes → HasMailbox config box
there config lawful box first last =
    elim (slice_get_cases config.mailboxes (box - 1)).1 [
      | inl found ↦ record {
        first = first;
        last = last;
        is = subst IsMailbox (sym (get_or_from_slice_get config.mailboxes (box - 1) found.0 (record { am = 0; addr = 0; slots = 0 }) found.2)) (lawful.mailboxes (box - 1) found.0 found.2).numbers;
      }
      | inr past ↦ absurd (omega (arith, past.0))
    ]

-- a number that passes the test of declared mailboxes is that of a mailbox
named : (config : Configuration) → IsLawful config → (box : ℕ) → (nat_le 1 box && nat_le box (length config.mailboxes)) ≡ true
    → HasMailbox config box
named config lawful box is =
    let first : 0 < box = grind (arith, nat_tests) in
    let last : box ≤ length config.mailboxes = grind (arith, nat_tests) in
    there config lawful box first last

-- a line that names only declared mailboxes has its mailbox
pub names_mailbox : (config : Configuration) → IsLawful config → (line : Line) → may_name (Declared (length config.mailboxes)) line ≡ true
    → HasItsMailbox config line
names_mailbox config lawful (lines.Bus request) may = tt
names_mailbox config lawful (lines.Local cmd) may = tt
names_mailbox config lawful (lines.Await am addr bytes) may = tt
names_mailbox config lawful (lines.Lock am addr) may = tt
names_mailbox config lawful (lines.Unlock am addr) may = tt
names_mailbox config lawful (lines.Put box word) may = named config lawful box may
names_mailbox config lawful (lines.Take box) may = named config lawful box may

-- the line at each place of a script has its mailbox
pub its_mailbox : (config : Configuration) → IsLawful config → (i j : ℕ) (script : List ScriptLine) (line : Line)
    → slice_get config.scripts i ≡ Some script → slice_get (map (λ one. one.line) script) j ≡ Some line → HasItsMailbox config line
its_mailbox config lawful i j script line in_scripts in_script =
    elim (slice_get_cases script j).1 [
      | inl found ↦
          let same : found.0.line ≡ line = same_Some found.0.line line
          (sym (slice_get-map (λ (one : ScriptLine). one.line) script j ∙ ap (option_map (λ (one : ScriptLine). one.line)) found.2) ∙ in_script) in
          names_mailbox config lawful line (subst (λ (l : Line). may_name (Declared (length config.mailboxes)) l ≡ true) same
          (lawful.named i j script found.0 in_scripts found.2))
      | inr past ↦
          absurd (omega (arith, past.0, slice_get_within (map (λ one. one.line) script) j line in_script, length-map script (λ one. one.line)))
    ]
