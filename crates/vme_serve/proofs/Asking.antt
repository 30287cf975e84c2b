-- What an accepted line of a session asks for.
use Rattle.std.proofs.Common.{◌≡◌, ℕ, ◌+◌, ◌<◌, List, length, drop, take, Option, Some, None, Result, Ok, Err, refl, ap, subst, arith, inl, inr}
use Rattle.std.specs.Prelude.{nat_lt, option_and_then, ◌==◌}
use Rattle.std.specs.List.{position_or_len}
use Rattle.std.proofs.lemmas.Bool.{cases_Bool, ltb-true}
use Rattle.std.proofs.lemmas.Option.{cond_some}
use Rattle.vme_lexer.specs.Numbers.{decimal_number}
use Rattle.vme_grammar.specs.declared.line.Line.{Line}
use Rattle.vme_grammar.specs.declared.fault.LineFault.{LineFault}
use Rattle.vme_grammar.specs.Grammar.{line_of}
use Rattle.vme_script.specs.declared.board.BoardConfig.{BoardConfig}
use Rattle.vme_script.specs.Boards.{entries_of}
use Rattle.vme_script.specs.Configurations.{Configuration}
use Rattle.vme_script.specs.Contexts.{boxes_of, refusal_of, line_unless_refused, asked_within, line_within}
use Rattle.vme_script.specs.Lawful.{IsLawful}
use Rattle.vme_script.specs.MailboxNumbers.{may_name}
use Rattle.vme_script.specs.Scripts.{rules_of}
use Rattle.vme_line_task.specs.Scripts.{HasItsMailbox}
use Rattle.vme_line_task.proofs.lemmas.Mailboxes.{names_mailbox}
use Rattle.vme_stepper.specs.Turns.{board_in_slot}
use Rattle.vme_serve.specs.declared.request.Asked.TheVariants as asked
use Rattle.vme_serve.specs.Requests.{slot_len, board_named, asked_in, asked_of_board, asked_after, asked_of}

-- the board of a request is there, and so is the mailbox that its line names
pub record IsServable (config : Configuration) (board : ℕ) (line : Line) : Type 0 where
  pub there : board < length config.boards
  pub mailbox : HasItsMailbox config line

-- the board in a slot is one of the boards
in_slot : (config : Configuration) (slot board : ℕ) → board_in_slot config slot ≡ Some board → board < length config.boards
in_slot config slot board is =
    let found = cond_some (nat_lt (position_or_len (λ (one : BoardConfig). one.slot == slot) config.boards) (length config.boards))
    (position_or_len (λ (one : BoardConfig). one.slot == slot) config.boards) board is in
    omega (arith, ltb-true (position_or_len (λ (one : BoardConfig). one.slot == slot) config.boards) (length config.boards) found.0, found.1)

by_slot : (config : Configuration) (slot : Option ℕ) (board : ℕ) → option_and_then (board_in_slot config) slot ≡ Some board
    → board < length config.boards
by_slot config None board is = absurd (cc is)
by_slot config (Some slot) board is = in_slot config slot board is

-- an accepted line has its mailbox
accepted : (config : Configuration) → IsLawful config → (board : ℕ) (line : Line)
    → refusal_of (rules_of (entries_of config.boards) config.mailboxes board) line ≡ None → HasItsMailbox config line
accepted config lawful board line none =
    elim (cases_Bool (may_name (boxes_of (rules_of (entries_of config.boards) config.mailboxes board)) line)) [
      | inl may ↦ names_mailbox config lawful line may
      | inr not_may ↦ absurd (let bad = simp not_may at none in cc)
    ]

no_refusal : (line found : Line) (refusal : Option LineFault) → line_unless_refused refusal found ≡ Ok (Some line) → (refusal ≡ None) × (found ≡ line)
no_refusal line found None is = (refl, cc is)
no_refusal line found (Some fault) is = absurd (cc is)

by_line : (config : Configuration) (board : ℕ) (line : Line) (read : Result (Option Line) LineFault) → IsLawful config
    → asked_within (rules_of (entries_of config.boards) config.mailboxes board) read ≡ Ok (Some line) → HasItsMailbox config line
by_line config board line (Ok None) lawful is = absurd (cc is)
by_line config board line (Ok (Some found)) lawful is =
    let both = no_refusal line found (refusal_of (rules_of (entries_of config.boards) config.mailboxes board) found) is in
    subst (HasItsMailbox config) both.1 (accepted config lawful board found both.0)
by_line config board line (Err fault) lawful is = absurd (cc is)

by_text : (config : Configuration) (board : ℕ) (line : Line) (text : List ℕ) → IsLawful config
    → line_within (rules_of (entries_of config.boards) config.mailboxes board) text ≡ Ok (Some line) → HasItsMailbox config line
unfolding line_within
by_text config board line text lawful is = by_line config board line (line_of text) lawful is

by_result : (own board : ℕ) (line : Line) (result : Result (Option Line) LineFault) → asked_in own result ≡ asked.Request board line
    → (own ≡ board) × (result ≡ Ok (Some line))
by_result own board line (Ok None) is = absurd (cc is)
by_result own board line (Ok (Some found)) is =
    let same_board : own ≡ board = cc is in
    let same_line : found ≡ line = cc is in
    (same_board, ap (λ one. Ok (Some one)) same_line)
by_result own board line (Err fault) is = absurd (cc is)

by_board : (config : Configuration) (own : Option ℕ) (board : ℕ) (line : Line) (text : List ℕ) → IsLawful config
    → ((b : ℕ) → own ≡ Some b → b < length config.boards) → asked_of_board config own text ≡ asked.Request board line → IsServable config board line
by_board config None board line text lawful there is = absurd (cc is)
by_board config (Some own) board line text lawful there is =
    let both = by_result own board line (line_within (rules_of (entries_of config.boards) config.mailboxes own) text) is in
    record {
      there = subst (λ (b : ℕ). b < length config.boards) both.0 (there own refl);
      mailbox = by_text config own line text lawful both.1;
    }

by_len : (config : Configuration) (input : List ℕ) (len : Option ℕ) (board : ℕ) (line : Line) → IsLawful config
    → asked_after config input len ≡ asked.Request board line → IsServable config board line
by_len config input None board line lawful is = absurd (cc is)
by_len config input (Some n) board line lawful is =
    by_board config (board_named config input n) board line (drop (n + 1) input) lawful
    (λ b named. by_slot config (decimal_number 2 (take n input)) b named) is

-- a request of a session can be served
pub servable : (config : Configuration) (input : List ℕ) (board : ℕ) (line : Line) → IsLawful config
    → asked_of config input ≡ asked.Request board line → IsServable config board line
unfolding asked_of
servable config input board line lawful is =
    elim (cases_Bool (nat_lt 83 (length input))) [
      | inl long ↦ absurd (let bad = simp long at is in cc)
      | inr short ↦ by_len config input (slot_len input) board line lawful (let rest = simp short at is in rest)
    ]
