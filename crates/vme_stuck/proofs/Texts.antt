-- The text of what processors wait for, board by board.
use Rattle.std.proofs.Common.{◌≡◌, ℕ, suc, ◌+◌, ◌<◌, ◌≤◌, List, [], ◌∷◌, ◌++◌, length, drop, map, Option, Some, None, ◌⊎◌, refl, ap, sym, ◌∙◌, append_assoc, arith, inl, inr}
use Rattle.std.specs.Prelude.{slice_get, option_map}
use Rattle.std.specs.List.{flat_map}
use Rattle.std.proofs.lemmas.List.{append-nil, drop_more, drop_all, length-map}
use Rattle.std.proofs.lemmas.Option.{slice_get_within, slice_get_cases, slice_get_past, get_or_from_slice_get, slice_get-map, same_Some}
use Rattle.vme_grammar.specs.declared.line.Line.{Line}
use Rattle.vme_script.specs.declared.script.ScriptLine.{ScriptLine}
use Rattle.vme_shared.specs.declared.reply.LineReply.{LineReply}
use Rattle.vme_states.specs.BareStates.{BareScript, BareState}
use Rattle.vme_states.specs.UnlimitedTries.{lines_ended_of}
use Rattle.vme_stuck.specs.Waits.{numbered_wait, next_wait, waits_text}

-- the elements from an index on begin with the element there
first_left : {A : Type 0} (xs : List A) (i : ℕ) (x : A) → slice_get xs i ≡ Some x → drop i xs ≡ x ∷ drop (i + 1) xs
first_left xs i x found =
    drop_more xs i x (slice_get_within xs i x found) ∙ ap (λ y. y ∷ drop (i + 1) xs) (get_or_from_slice_get xs i x x found)

-- a text with one part more is whole with what is left
one_more : (before after own rest all whole : List ℕ) → after ≡ before ++ own → all ≡ own ++ rest → before ++ all ≡ whole → after ++ rest ≡ whole
one_more before after own rest all whole added is so_far =
    ap (λ (t : List ℕ). t ++ rest) added ∙ append_assoc before own rest ∙ ap (λ (t : List ℕ). before ++ t) (sym is) ∙ so_far

-- the line of a processor that is next, by the number of lines that have ended
ended_is : (state : BareState) (board line : ℕ) (c : BareScript) → Some line ≡ lines_ended_of state board → slice_get state.script_states board ≡ Some c → line ≡ length c.ended
ended_is state board line c is found =
    same_Some line (length c.ended) (is ∙ ap (option_map (λ (s : BareScript). length s.ended)) found)

-- a processor that exists has such a number
pub has_ended : (state : BareState) (board : ℕ) (c : BareScript) → None ≡ lines_ended_of state board → slice_get state.script_states board ≡ Some c → ⊥
has_ended state board c is found =
    let none : None ≡ Some (length c.ended) = is ∙ ap (option_map (λ (s : BareScript). length s.ended)) found in absurd (cc none)

-- the text of a line with its number is that of the line that is next
pub wait_there : (state : BareState) (board slot line number : ℕ) (script : List ScriptLine) (own : Line) (c : BareScript) → Some line ≡ lines_ended_of state board
    → slice_get (map (λ l. l.number) script) line ≡ Some number → slice_get (map (λ l. l.line) script) line ≡ Some own
    → slice_get state.script_states board ≡ Some c → numbered_wait slot number own ≡ next_wait slot (slice_get script (length c.ended))
wait_there state board slot line number script own c is at_number at_line found =
    elim (slice_get_cases script line).1 [
      | inl at ↦
          let num : number ≡ at.0.number =
          same_Some number at.0.number (sym at_number ∙ slice_get-map (λ (l : ScriptLine). l.number) script line ∙ ap (option_map (λ (l : ScriptLine). l.number)) at.2) in
          let one : own ≡ at.0.line =
          same_Some own at.0.line (sym at_line ∙ slice_get-map (λ (l : ScriptLine). l.line) script line ∙ ap (option_map (λ (l : ScriptLine). l.line)) at.2) in
          let next : slice_get script (length c.ended) ≡ Some at.0 = ap (slice_get script) (sym (ended_is state board line c is found)) ∙ at.2 in
          ap (λ (n : ℕ). numbered_wait slot n own) num ∙ ap (numbered_wait slot at.0.number) one ∙ sym (ap (next_wait slot) next)
      | inr past ↦
          let none : Some number ≡ None = sym at_number ∙ slice_get-map (λ (l : ScriptLine). l.number) script line ∙ ap (option_map (λ (l : ScriptLine). l.number)) past.1 in
          absurd (cc none)
    ]

-- a processor whose lines have all ended waits for nothing
pub wait_none : (state : BareState) (board slot line : ℕ) (script : List ScriptLine) (c : BareScript) (text : List ℕ) → Some line ≡ lines_ended_of state board
    → length script ≤ line → slice_get state.script_states board ≡ Some c → text ≡ text ++ next_wait slot (slice_get script (length c.ended))
wait_none state board slot line script c text is past found =
    let none : slice_get script (length c.ended) ≡ None = ap (slice_get script) (sym (ended_is state board line c is found)) ∙ slice_get_past script line past in
    sym (append-nil text) ∙ ap (λ (o : Option ScriptLine). text ++ next_wait slot o) (sym none)

-- the text of the scripts from a board on begins with that of its own script
waits_next : (slots : List ℕ) (scripts : List (List ScriptLine)) (answers : List (List LineReply)) (i slot : ℕ) (script : List ScriptLine) (ended : List LineReply)
    → slice_get slots i ≡ Some slot → slice_get scripts i ≡ Some script → slice_get answers i ≡ Some ended
    → waits_text (drop i slots) (drop i scripts) (drop i answers)
    ≡ next_wait slot (slice_get script (length ended)) ++ waits_text (drop (i + 1) slots) (drop (i + 1) scripts) (drop (i + 1) answers)
waits_next slots scripts answers i slot script ended at_slot at_script at_ended =
    rw (first_left slots i slot at_slot, first_left scripts i script at_script, first_left answers i ended at_ended) refl

-- without answers there is no text
no_answers : (slots : List ℕ) (scripts : List (List ScriptLine)) → waits_text slots scripts [] ≡ []
no_answers [] scripts = refl
no_answers (slot ∷ slots) [] = refl
no_answers (slot ∷ slots) (script ∷ scripts) = refl

-- past the last board, or the last board with answers, there is no text
waits_over : (slots : List ℕ) (scripts : List (List ScriptLine)) (answers : List (List LineReply)) (i : ℕ)
    → (length slots ≤ i) ⊎ (length answers ≤ i) → waits_text (drop i slots) (drop i scripts) (drop i answers) ≡ []
waits_over slots scripts answers i (inl past) = rw (drop_all i slots past) refl
waits_over slots scripts answers i (inr past) =
    ap (λ (left : List (List LineReply)). waits_text (drop i slots) (drop i scripts) left) (drop_all i answers past)
    ∙ no_answers (drop i slots) (drop i scripts)

-- the replies of scripts
abbrev ended_of : List BareScript → List (List LineReply)
ended_of states = map (λ (s : BareScript). s.ended) states

-- the text of one script more
pub waits_step : (slots : List ℕ) (scripts : List (List ScriptLine)) (states : List BareScript) (i slot : ℕ) (script : List ScriptLine) (before after whole : List ℕ)
    → i < length states → slice_get slots i ≡ Some slot → slice_get scripts i ≡ Some script
    → ((c : BareScript) → slice_get states i ≡ Some c → after ≡ before ++ next_wait slot (slice_get script (length c.ended)))
    → before ++ waits_text (drop i slots) (drop i scripts) (drop i (map (λ (s : BareScript). s.ended) states)) ≡ whole
    → after ++ waits_text (drop (i + 1) slots) (drop (i + 1) scripts) (drop (i + 1) (map (λ (s : BareScript). s.ended) states)) ≡ whole
waits_step slots scripts states i slot script before after whole less at_slot at_script added so_far =
    elim (slice_get_cases states i).1 [
      | inl at ↦
          let ended : slice_get (ended_of states) i ≡ Some at.0.ended =
          slice_get-map (λ (s : BareScript). s.ended) states i ∙ ap (option_map (λ (s : BareScript). s.ended)) at.2 in
          one_more before after (next_wait slot (slice_get script (length at.0.ended)))
          (waits_text (drop (i + 1) slots) (drop (i + 1) scripts) (drop (i + 1) (ended_of states)))
          (waits_text (drop i slots) (drop i scripts) (drop i (ended_of states))) whole (added at.0 at.2)
          (waits_next slots scripts (ended_of states) i slot script at.0.ended at_slot at_script ended) so_far
      | inr past ↦ let none = past.0 in absurd (omega (arith, none, less))
    ]

-- an index past the scripts is past their replies
past_ended : (slots : List ℕ) (states : List BareScript) (i : ℕ) → (length slots ≤ i) ⊎ (length states ≤ i) → (length slots ≤ i) ⊎ (length (ended_of states) ≤ i)
past_ended slots states i (inl past) = inl past
past_ended slots states i (inr past) = let count = length-map states (λ (s : BareScript). s.ended) in inr (omega (arith, count, past))

-- past the last script, or the last one with a state, the text is whole
pub waits_done : (slots : List ℕ) (scripts : List (List ScriptLine)) (states : List BareScript) (i : ℕ) (text whole : List ℕ)
    → (length slots ≤ i) ⊎ (length states ≤ i)
    → text ++ waits_text (drop i slots) (drop i scripts) (drop i (map (λ (s : BareScript). s.ended) states)) ≡ whole → text ≡ whole
waits_done slots scripts states i text whole past so_far =
    sym (append-nil text)
    ∙ ap (λ (t : List ℕ). text ++ t) (sym (waits_over slots scripts (ended_of states) i (past_ended slots states i past))) ∙ so_far
