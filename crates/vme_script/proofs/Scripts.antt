-- What holds for every script.
use Rattle.std.proofs.Common.{◌≡◌, ℕ, zero, suc, ◌+◌, ◌≤◌, Bool, true, false, List, [], ◌∷◌, length, Option, None, Some, Result, Ok, Err, refl, ap, subst, arith, inl, inr}
use Rattle.std.specs.Prelude.{nat_le, slice_get}
use Rattle.std.specs.Str.Lines.{lines}
use Rattle.std.specs.List.{list_all}
use Rattle.std.proofs.lemmas.Bool.{cases_Bool, le-leb, lt-ltb, le-ltb, cases_lt}
use Rattle.vme_grammar.specs.declared.line.Line.{Line}
use Rattle.vme_grammar.specs.declared.fault.LineFault.{LineFault}
use Rattle.vme_grammar.specs.Grammar.{line_of, IsOwnLine}
use Rattle.vme_grammar.proofs.lemmas.Spelling.{line_is_own}
use Rattle.vme_decode.specs.declared.entry.Entry.{Entry}
use Rattle.vme_shared.specs.declared.mailbox.Mailbox.{Mailbox}
use Rattle.vme_script.specs.declared.mailbox_numbers.MailboxNumbers.TheVariants.{Declared}
use Rattle.vme_script.specs.declared.context.ScriptContext.{ScriptContext}
use Rattle.vme_script.specs.MailboxNumbers.{may_name}
use Rattle.vme_script.specs.Contexts.{boxes_of, touches, asked_within, line_within}
use Rattle.vme_script.specs.declared.fault.ConfigFault.{ConfigFault}
use Rattle.vme_script.specs.declared.fault.ScriptRefusal.{ScriptRefusal}
use Rattle.vme_script.specs.declared.script.ScriptLine.{ScriptLine}
use Rattle.vme_script.specs.Answers.{◌>>=◌}
use Rattle.vme_config_toml.specs.Files.{BoardValues}
use Rattle.vme_script.specs.Scripts.{asked_at, line_before, lines_from, script_within, script_in, rules_of, scripts_from, scripts_of}

-- whether a script is not too long
abbrev pub is_short : List ScriptLine → Bool
is_short script = nat_le (length script) 1000

-- one line adds at most one entry
one_line :
    (number count : ℕ) (asked : Result (Option Line) ScriptRefusal) (others : Result (List ScriptLine) ScriptRefusal) (script : List ScriptLine)
    → ((rest : List ScriptLine) → others ≡ Ok rest → length rest ≤ count) → line_before number asked others ≡ Ok script → length script ≤ suc count
one_line number count (Err refusal) others script within e = cc
one_line number count (Ok line) (Err refusal) script within e = cc
one_line number count (Ok None) (Ok rest) script within e =
    let same : rest ≡ script = cc in omega (arith, within rest refl, ap length same)
one_line number count (Ok (Some line)) (Ok rest) script within e =
    let same : record { number = number; line = line } ∷ rest ≡ script = cc in omega (arith, within rest refl, ap length same)

-- a script has at most as many entries as its text has lines
lines_count :
    (rules : ScriptContext) (number : ℕ) (text : List (List ℕ)) (script : List ScriptLine) → lines_from rules number text ≡ Ok script → length script ≤ length text
lines_count rules number [] script e = let none : [] ≡ script = cc in omega (arith, ap length none)
lines_count rules number (line ∷ more) script e =
    one_line number (length more) (asked_at number (line_within rules line)) (lines_from rules (number + 1) more) script
    (λ rest f. lines_count rules (number + 1) more rest f) e

-- a script that is read is not too long
script_short :
    (rules : ScriptContext) (text : List ℕ) (script : List ScriptLine) → script_within rules text ≡ Ok script → is_short script ≡ true
unfolding script_within
script_short rules text script e =
    elim (cases_lt 1000 (length (lines text))) [
      | inl many ↦ absurd (let result_is = rw (lt-ltb 1000 (length (lines text)) many) at e in cc)
      | inr few ↦
          let read = rw (le-ltb 1000 (length (lines text)) few) at e in
          le-leb (length script) 1000 (omega (arith, lines_count rules 1 (lines text) script read, few))
    ]

-- if the results of a script and of the scripts after it give a list, neither is refused
one_script :
    (slot : ℕ) (first : Result (List ScriptLine) ScriptRefusal) (others : Result (List (List ScriptLine)) ConfigFault) (scripts : List (List ScriptLine))
    → (script_in slot first >>= (λ x. others >>= (λ xs. Ok (x ∷ xs)))) ≡ Ok scripts
    → (x : List ScriptLine) × (xs : List (List ScriptLine)) × (first ≡ Ok x) × (others ≡ Ok xs) × (x ∷ xs ≡ scripts)
one_script slot (Err refusal) others scripts e = cc
one_script slot (Ok x) (Err fault) scripts e = cc
one_script slot (Ok x) (Ok xs) scripts e = (x, xs, refl, refl, cc)

-- there is a script for each board, and no script is too long
pub scripts_known :
    (entries : List Entry) (mailboxes : List Mailbox) (place : ℕ) (boards : List BoardValues) (scripts : List (List ScriptLine))
    → scripts_from entries mailboxes place boards ≡ Ok scripts → (length scripts ≡ length boards) × (list_all is_short scripts ≡ true)
scripts_known entries mailboxes place [] scripts e =
    let none : [] ≡ scripts = cc in
    subst (λ s. (length s ≡ 0) × (list_all is_short s ≡ true)) none (refl, refl)
scripts_known entries mailboxes place (board ∷ more) scripts e =
    let rules = rules_of entries mailboxes place in
    let parts = one_script board.slot (script_within rules board.script) (scripts_from entries mailboxes (place + 1) more) scripts e in
    let others = scripts_known entries mailboxes (place + 1) more parts.1 parts.3 in
    subst (λ s. (length s ≡ suc (length more)) × (list_all is_short s ≡ true)) parts.4
    (ap suc others.0, rw (script_short rules board.script parts.0 parts.2) others.1)

-- ---- what holds for each line that is read holds for each line of each script

-- each line of a script has a property
abbrev AllOf : (Line → Type 0) → List ScriptLine → Type 0
AllOf P script = (j : ℕ) (line : ScriptLine) → slice_get script j ≡ Some line → P line.line

-- each line that is read has a property
abbrev AllRead : (Line → Type 0) → ScriptContext → Type 0
AllRead P rules = (text : List ℕ) (line : Line) → line_within rules text ≡ Ok (Some line) → P line

-- if the first line and all others have a property, all lines have it
all_first : (P : Line → Type 0) (first : ScriptLine) (others : List ScriptLine) → P first.line → AllOf P others → AllOf P (first ∷ others)
all_first P first others own rest zero line there = let same : first ≡ line = cc in subst (λ l. P l.line) same own
all_first P first others own rest (suc j) line there = rest j line there

-- if a line that is read and all lines after it have a property, all lines of the script have it
all_line :
    (P : Line → Type 0) (number : ℕ) (read : Result (Option Line) LineFault) (others : Result (List ScriptLine) ScriptRefusal)
    (script : List ScriptLine) → ((line : Line) → read ≡ Ok (Some line) → P line)
    → ((rest : List ScriptLine) → others ≡ Ok rest → AllOf P rest) → line_before number (asked_at number read) others ≡ Ok script → AllOf P script
all_line P number (Err fault) others script own rest e = cc
all_line P number (Ok line) (Err refusal) script own rest e = cc
all_line P number (Ok None) (Ok others) script own rest e =
    let same : others ≡ script = cc in subst (AllOf P) same (rest others refl)
all_line P number (Ok (Some line)) (Ok others) script own rest e =
    let same : record { number = number; line = line } ∷ others ≡ script = cc in
    subst (AllOf P) same (all_first P (record { number = number; line = line }) others (own line refl) (rest others refl))

-- if each line that is read has a property, each line of the lines of a text has it
all_lines :
    (P : Line → Type 0) (rules : ScriptContext) (number : ℕ) (text : List (List ℕ)) (script : List ScriptLine) → AllRead P rules
    → lines_from rules number text ≡ Ok script → AllOf P script
all_lines P rules number [] script own e =
    let none : [] ≡ script = cc in subst (AllOf P) none (λ j line there. cc)
all_lines P rules number (line ∷ more) script own e =
    all_line P number (line_within rules line) (lines_from rules (number + 1) more) script (own line)
    (λ rest f. all_lines P rules (number + 1) more rest own f) e

-- if each line that is read has a property, each line of the script of a text has it
all_script :
    (P : Line → Type 0) (rules : ScriptContext) (text : List ℕ) (script : List ScriptLine) → AllRead P rules
    → script_within rules text ≡ Ok script → AllOf P script
unfolding script_within
all_script P rules text script own e =
    elim (cases_lt 1000 (length (lines text))) [
      | inl many ↦ absurd (let result_is = rw (lt-ltb 1000 (length (lines text)) many) at e in cc)
      | inr few ↦ all_lines P rules 1 (lines text) script own (rw (le-ltb 1000 (length (lines text)) few) at e)
    ]

-- each line of each script has a property that depends on the index of its board
abbrev AllIn : (ℕ → Line → Type 0) → ℕ → List (List ScriptLine) → Type 0
AllIn P place scripts = (i : ℕ) (script : List ScriptLine) → slice_get scripts i ≡ Some script → AllOf (P (place + i)) script

-- if the lines of the first script and those of the others have the property of their board, all have it
all_in_first :
    (P : ℕ → Line → Type 0) (place : ℕ) (first : List ScriptLine) (others : List (List ScriptLine)) → AllOf (P place) first
    → AllIn P (place + 1) others → AllIn P place (first ∷ others)
all_in_first P place first others own rest zero script there =
    let same : first ≡ script = cc in
    let here : place ≡ place + zero = omega arith in
    subst (λ k. AllOf (P k) script) here (subst (AllOf (P place)) same own)
all_in_first P place first others own rest (suc i) script there =
    let here : (place + 1) + i ≡ place + suc i = omega arith in
    subst (λ k. AllOf (P k) script) here (rest i script there)

-- if each line that is read for a board has the property of that board, each line of its script has it
all_scripts :
    (P : ℕ → Line → Type 0) (entries : List Entry) (mailboxes : List Mailbox) (place : ℕ) (boards : List BoardValues)
    (scripts : List (List ScriptLine)) → ((k : ℕ) → AllRead (P k) (rules_of entries mailboxes k))
    → scripts_from entries mailboxes place boards ≡ Ok scripts → AllIn P place scripts
all_scripts P entries mailboxes place [] scripts own e =
    let none : [] ≡ scripts = cc in subst (AllIn P place) none (λ i script there. cc)
all_scripts P entries mailboxes place (board ∷ more) scripts own e =
    let rules = rules_of entries mailboxes place in
    let parts = one_script board.slot (script_within rules board.script) (scripts_from entries mailboxes (place + 1) more) scripts e in
    subst (AllIn P place) parts.4
    (all_in_first P place parts.0 parts.1 (all_script (P place) rules board.script parts.0 (own place) parts.2)
    (all_scripts P entries mailboxes (place + 1) more parts.1 own parts.3))

-- a line that is read in a context is allowed by it
read_within :
    (rules : ScriptContext) (read : Result (Option Line) LineFault) (line : Line) → asked_within rules read ≡ Ok (Some line)
    → (read ≡ Ok (Some line)) × (may_name (boxes_of rules) line ≡ true) × (touches rules line ≡ false)
read_within rules (Ok None) line e = cc
read_within rules (Err fault) line e = cc
read_within rules (Ok (Some own)) line e =
    elim (cases_Bool (may_name (boxes_of rules) own)) [
      | inr not_there ↦ absurd (let result_is = rw not_there at e in cc)
      | inl may ↦ elim (cases_Bool (touches rules own)) [
        | inl bytes ↦ absurd (let result_is = rw (may, bytes) at e in cc)
        | inr free ↦
            let same : own ≡ line = cc (rw (may, free) at e) in
            (rw same refl, rw (← same) may, rw (← same) free)
      ]
    ]

-- a line that is read commands the local port to do no bus cycle
line_own : (rules : ScriptContext) → AllRead IsOwnLine rules
unfolding line_within
line_own rules text line e = line_is_own text line (read_within rules (line_of text) line e).0

-- a line that is read names only mailboxes that it may name
line_may : (rules : ScriptContext) → AllRead (λ line. may_name (boxes_of rules) line ≡ true) rules
unfolding line_within
line_may rules text line e = (read_within rules (line_of text) line e).1

-- a line that is read accesses no byte of a declared mailbox
line_free : (rules : ScriptContext) → AllRead (λ line. touches rules line ≡ false) rules
unfolding line_within
line_free rules text line e = (read_within rules (line_of text) line e).2

-- the facts about each line of the scripts of a file
pub record EachLine (entries : List Entry) (mailboxes : List Mailbox) (i : ℕ) (line : Line) : Type 0 where
  pub own : IsOwnLine line
  pub named : may_name (Declared (length mailboxes)) line ≡ true
  pub free : touches (rules_of entries mailboxes i) line ≡ false

-- the facts hold for each line that is read in the context of a board
each_read : (entries : List Entry) (mailboxes : List Mailbox) (k : ℕ) → AllRead (EachLine entries mailboxes k) (rules_of entries mailboxes k)
each_read entries mailboxes k text line e =
    let rules = rules_of entries mailboxes k in
    record { own = line_own rules text line e; named = line_may rules text line e; free = line_free rules text line e }

-- no line of a script commands the local port to do a bus cycle, names an undeclared mailbox, or accesses bytes of a
-- declared one
pub each_line :
    (entries : List Entry) (mailboxes : List Mailbox) (boards : List BoardValues) (scripts : List (List ScriptLine))
    → scripts_of entries mailboxes boards ≡ Ok scripts → (i j : ℕ) (script : List ScriptLine) (line : ScriptLine)
    → slice_get scripts i ≡ Some script → slice_get script j ≡ Some line → EachLine entries mailboxes i line.line
each_line entries mailboxes boards scripts e i j script line here there =
    let same : 0 + i ≡ i = omega arith in
    subst (λ k. EachLine entries mailboxes k line.line) same
    (all_scripts (EachLine entries mailboxes) entries mailboxes 0 boards scripts (each_read entries mailboxes) e i script here j line there)
