-- The text of an outcome, board by board and line by line.
use Rattle.std.proofs.Common.{◌≡◌, ℕ, zero, suc, ◌+◌, ◌-◌, ◌*◌, ◌/◌, ◌%◌, ◌<◌, ◌≤◌, true, All, List, [], ◌∷◌, ◌++◌, length, take, drop, get_or, slice_range, map, Option, Some, None, ◌⊎◌, subst, refl, ap, sym, ◌∙◌, arith, inl, inr}
use Rattle.std.specs.Prelude.{◌==◌, slice_get, option_map, unwrap_or}
use Rattle.std.specs.List.{flat_map, range_with_len}
use Rattle.std.proofs.lemmas.Bool.{cases_lt}
use Rattle.std.proofs.lemmas.List.{append-nil, drop_more, drop_all, get_or-drop, get_or-take, length-drop, length-map, length-take}
use Rattle.std.proofs.lemmas.List.Sums.{list_all-from_AllPass}
use Rattle.std.proofs.lemmas.Option.{slice_get_within, slice_get_cases, get_or_from_slice_get, slice_get-map, same_Some}
use Rattle.vme_memory.specs.Boards.{Board}
use Rattle.vme_report.specs.Texts.{replies_text, is_blank, dump_row, row_text, row_count, memory_text}
use Rattle.vme_script.specs.ReplyTexts.{line_text}
use Rattle.vme_script.specs.declared.script.ScriptLine.{ScriptLine}
use Rattle.vme_shared.specs.declared.reply.LineReply.{LineReply}
use Rattle.vme_shared.specs.declared.reply.LineReply.TheVariants.{Unfinished}
use Rattle.vme_states.specs.BareStates.{BareScript}
use Rattle.vme_stepper.specs.Reports.{numbered_replies}
use Rattle.vme_outcome_listing.specs.Texts.{scripts_text, memories_text}
use Rattle.vme_outcome_listing.proofs.Outputs.{one_more}

-- the elements from an index on begin with the element there
pub first_left : {A : Type 0} (xs : List A) (i : ℕ) (x : A) → slice_get xs i ≡ Some x → drop i xs ≡ x ∷ drop (i + 1) xs
first_left xs i x found =
    drop_more xs i x (slice_get_within xs i x found) ∙ ap (λ y. y ∷ drop (i + 1) xs) (get_or_from_slice_get xs i x x found)

-- the text of the scripts from a board on begins with that of its own script
pub scripts_next : (slots : List ℕ) (scripts : List (List ScriptLine)) (answers : List (List LineReply)) (i slot : ℕ) (script : List ScriptLine) (ended : List LineReply)
    → slice_get slots i ≡ Some slot → slice_get scripts i ≡ Some script → slice_get answers i ≡ Some ended
    → scripts_text (drop i slots) (drop i scripts) (drop i answers)
    ≡ replies_text slot (numbered_replies script ended) ++ scripts_text (drop (i + 1) slots) (drop (i + 1) scripts) (drop (i + 1) answers)
scripts_next slots scripts answers i slot script ended at_slot at_script at_ended =
    rw (first_left slots i slot at_slot, first_left scripts i script at_script, first_left answers i ended at_ended) refl

-- without answers there is no text
no_answers : (slots : List ℕ) (scripts : List (List ScriptLine)) → scripts_text slots scripts [] ≡ []
no_answers [] scripts = refl
no_answers (slot ∷ slots) [] = refl
no_answers (slot ∷ slots) (script ∷ scripts) = refl

-- past the last board, or the last board with answers, there is no text
pub scripts_over : (slots : List ℕ) (scripts : List (List ScriptLine)) (answers : List (List LineReply)) (i : ℕ)
    → (length slots ≤ i) ⊎ (length answers ≤ i) → scripts_text (drop i slots) (drop i scripts) (drop i answers) ≡ []
scripts_over slots scripts answers i (inl past) = rw (drop_all i slots past) refl
scripts_over slots scripts answers i (inr past) =
    ap (λ (left : List (List LineReply)). scripts_text (drop i slots) (drop i scripts) left) (drop_all i answers past)
    ∙ no_answers (drop i slots) (drop i scripts)

-- the text of the memories from a board on begins with that of its own memory
pub memories_next : (slots : List ℕ) (memories : List (List ℕ)) (i slot : ℕ) (bytes : List ℕ)
    → slice_get slots i ≡ Some slot → slice_get memories i ≡ Some bytes
    → memories_text (drop i slots) (drop i memories) ≡ memory_text slot bytes ++ memories_text (drop (i + 1) slots) (drop (i + 1) memories)
memories_next slots memories i slot bytes at_slot at_bytes =
    rw (first_left slots i slot at_slot, first_left memories i bytes at_bytes) refl

-- without memories there is no text
no_memories : (slots : List ℕ) → memories_text slots [] ≡ []
no_memories [] = refl
no_memories (slot ∷ slots) = refl

-- past the last board, or the last memory, there is no text
pub memories_over : (slots : List ℕ) (memories : List (List ℕ)) (i : ℕ)
    → (length slots ≤ i) ⊎ (length memories ≤ i) → memories_text (drop i slots) (drop i memories) ≡ []
memories_over slots memories i (inl past) = rw (drop_all i slots past) refl
memories_over slots memories i (inr past) =
    ap (memories_text (drop i slots)) (drop_all i memories past) ∙ no_memories (drop i slots)

-- the numbered replies to the lines from a line on, when that line has its reply or not
numbered_at : (script : List ScriptLine) (ended : List LineReply) (j : ℕ) (line : ScriptLine) → slice_get script j ≡ Some line
    → numbered_replies (drop j script) (drop j ended)
    ≡ (line.number, unwrap_or (slice_get ended j) Unfinished) ∷ numbered_replies (drop (j + 1) script) (drop (j + 1) ended)
numbered_at script ended j line found =
    elim (slice_get_cases ended j).1 [
      | inl at ↦ rw (first_left script j line found, first_left ended j at.0 at.2, at.2) refl
      | inr past ↦
          let less : length ended ≤ j + 1 = omega (arith, past.0) in
          rw (first_left script j line found, drop_all j ended past.0, drop_all (j + 1) ended less, past.1) refl
    ]

-- the text of the replies from a line on begins with that of its own reply
pub replies_next : (slot : ℕ) (script : List ScriptLine) (ended : List LineReply) (j number : ℕ)
    → slice_get (map (λ line. line.number) script) j ≡ Some number
    → replies_text slot (numbered_replies (drop j script) (drop j ended))
    ≡ line_text slot number (unwrap_or (slice_get ended j) Unfinished)
    ++ replies_text slot (numbered_replies (drop (j + 1) script) (drop (j + 1) ended))
replies_next slot script ended j number found =
    elim (slice_get_cases script j).1 [
      | inl at ↦
          let own : at.0.number ≡ number =
          same_Some at.0.number number (ap (option_map (λ (line : ScriptLine). line.number)) (sym at.2) ∙ sym (slice_get-map (λ (line : ScriptLine). line.number) script j) ∙ found) in
          ap (replies_text slot) (numbered_at script ended j at.0 at.2)
          ∙ ap (λ (n : ℕ). line_text slot n (unwrap_or (slice_get ended j) Unfinished) ++ replies_text slot (numbered_replies (drop (j + 1) script) (drop (j + 1) ended))) own
      | inr past ↦
          let none : Some number ≡ None = sym found ∙ slice_get-map (λ (line : ScriptLine). line.number) script j ∙ ap (option_map (λ (line : ScriptLine). line.number)) past.1 in
          absurd (cc none)
    ]

-- the replies of the script state at an index
pub ended_at : (states : List BareScript) (i : ℕ) (c : BareScript) → slice_get states i ≡ Some c
    → slice_get (map (λ (s : BareScript). s.ended) states) i ≡ Some c.ended
ended_at states i c found =
    slice_get-map (λ (s : BareScript). s.ended) states i ∙ ap (option_map (λ (s : BareScript). s.ended)) found

-- the bytes of the memory at an index
pub bytes_at : (boards : List Board) (i : ℕ) (board : Board) → slice_get boards i ≡ Some board
    → slice_get (map (λ (b : Board). b.bytes) boards) i ≡ Some board.bytes
bytes_at boards i board found =
    slice_get-map (λ (b : Board). b.bytes) boards i ∙ ap (option_map (λ (b : Board). b.bytes)) found

-- an index past the end of a list is past the end of its images
past_images : {A B : Type 0} (f : A → B) (xs : List A) (i : ℕ) (P : Type 0) → P ⊎ (length xs ≤ i) → P ⊎ (length (map f xs) ≤ i)
past_images f xs i P (inl p) = inl p
past_images f xs i P (inr past) = inr (omega (arith, length-map xs f, past))

-- the text of one script more
pub scripts_step : (slots : List ℕ) (scripts : List (List ScriptLine)) (states : List BareScript) (i slot : ℕ) (script : List ScriptLine) (before after whole : List ℕ)
    → i < length states → slice_get slots i ≡ Some slot → slice_get scripts i ≡ Some script
    → ((c : BareScript) → slice_get states i ≡ Some c → after ≡ before ++ replies_text slot (numbered_replies script c.ended))
    → before ++ scripts_text (drop i slots) (drop i scripts) (drop i (map (λ (s : BareScript). s.ended) states)) ≡ whole
    → after ++ scripts_text (drop (i + 1) slots) (drop (i + 1) scripts) (drop (i + 1) (map (λ (s : BareScript). s.ended) states)) ≡ whole
scripts_step slots scripts states i slot script before after whole less at_slot at_script added so_far =
    elim (slice_get_cases states i).1 [
      | inl at ↦
          one_more before after (replies_text slot (numbered_replies script at.0.ended))
          (scripts_text (drop (i + 1) slots) (drop (i + 1) scripts) (drop (i + 1) (map (λ (s : BareScript). s.ended) states)))
          (scripts_text (drop i slots) (drop i scripts) (drop i (map (λ (s : BareScript). s.ended) states)))
          whole (added at.0 at.2)
          (scripts_next slots scripts (map (λ (s : BareScript). s.ended) states) i slot script at.0.ended at_slot at_script (ended_at states i at.0 at.2))
          so_far
      | inr past ↦ absurd (omega (arith, past.0, less))
    ]

-- the text of one memory more
pub memories_step : (slots : List ℕ) (boards : List Board) (i slot : ℕ) (board : Board) (before after whole : List ℕ)
    → slice_get slots i ≡ Some slot → slice_get boards i ≡ Some board → after ≡ before ++ memory_text slot board.bytes
    → before ++ memories_text (drop i slots) (drop i (map (λ (b : Board). b.bytes) boards)) ≡ whole
    → after ++ memories_text (drop (i + 1) slots) (drop (i + 1) (map (λ (b : Board). b.bytes) boards)) ≡ whole
memories_step slots boards i slot board before after whole at_slot at_board added so_far =
    one_more before after (memory_text slot board.bytes)
    (memories_text (drop (i + 1) slots) (drop (i + 1) (map (λ (b : Board). b.bytes) boards)))
    (memories_text (drop i slots) (drop i (map (λ (b : Board). b.bytes) boards))) whole added
    (memories_next slots (map (λ (b : Board). b.bytes) boards) i slot board.bytes at_slot (bytes_at boards i board at_board)) so_far

-- past the last script, or the last one with a state, the text is whole
pub scripts_done : (slots : List ℕ) (scripts : List (List ScriptLine)) (states : List BareScript) (i : ℕ) (text whole : List ℕ)
    → (length slots ≤ i) ⊎ (length states ≤ i)
    → text ++ scripts_text (drop i slots) (drop i scripts) (drop i (map (λ (s : BareScript). s.ended) states)) ≡ whole → text ≡ whole
scripts_done slots scripts states i text whole past so_far =
    sym (append-nil text)
    ∙ ap (λ (t : List ℕ). text ++ t) (sym (scripts_over slots scripts (map (λ (s : BareScript). s.ended) states) i (past_images (λ (s : BareScript). s.ended) states i (length slots ≤ i) past)))
    ∙ so_far

-- past the last memory the text is whole
pub memories_done : (slots : List ℕ) (boards : List Board) (i : ℕ) (text whole : List ℕ)
    → (length slots ≤ i) ⊎ (length boards ≤ i)
    → text ++ memories_text (drop i slots) (drop i (map (λ (b : Board). b.bytes) boards)) ≡ whole → text ≡ whole
memories_done slots boards i text whole past so_far =
    sym (append-nil text)
    ∙ ap (λ (t : List ℕ). text ++ t) (sym (memories_over slots (map (λ (b : Board). b.bytes) boards) i (past_images (λ (b : Board). b.bytes) boards i (length slots ≤ i) past)))
    ∙ so_far

-- the text of one line more, whose reply is known or missing
pub replies_step : (slot : ℕ) (script : List ScriptLine) (ended : List LineReply) (j number : ℕ) (reply : Option LineReply) (before after whole : List ℕ)
    → slice_get (map (λ line. line.number) script) j ≡ Some number → reply ≡ slice_get ended j
    → after ≡ before ++ line_text slot number (unwrap_or reply Unfinished)
    → before ++ replies_text slot (numbered_replies (drop j script) (drop j ended)) ≡ whole
    → after ++ replies_text slot (numbered_replies (drop (j + 1) script) (drop (j + 1) ended)) ≡ whole
replies_step slot script ended j number reply before after whole found is added so_far =
    one_more before after (line_text slot number (unwrap_or reply Unfinished))
    (replies_text slot (numbered_replies (drop (j + 1) script) (drop (j + 1) ended)))
    (replies_text slot (numbered_replies (drop j script) (drop j ended))) whole added
    (replies_next slot script ended j number found
    ∙ ap (λ (r : Option LineReply). line_text slot number (unwrap_or r Unfinished) ++ replies_text slot (numbered_replies (drop (j + 1) script) (drop (j + 1) ended))) (sym is))
    so_far

-- without lines left the text of the replies is whole
pub replies_done : (slot : ℕ) (script : List ScriptLine) (ended : List LineReply) (j : ℕ) (text whole : List ℕ) → length script ≤ j
    → text ++ replies_text slot (numbered_replies (drop j script) (drop j ended)) ≡ whole → text ≡ whole
replies_done slot script ended j text whole past so_far =
    sym (append-nil text)
    ∙ ap (λ (left : List ScriptLine). text ++ replies_text slot (numbered_replies left (drop j ended))) (sym (drop_all j script past)) ∙ so_far

-- the text of the rows from a row on
abbrev pub rows_from : ℕ → List ℕ → ℕ → List ℕ
rows_from slot bytes i = flat_map (λ k. row_text slot (16 * k) (dump_row bytes k)) (range_with_len i (row_count bytes - i))

-- a row of zeros has no text
blank_row_text : (slot offset : ℕ) (row : List ℕ) → All (λ (byte : ℕ). byte ≡ 0) row → row_text slot offset row ≡ []
unfolding row_text
blank_row_text slot offset row zeros =
    let blank : is_blank row ≡ true = list_all-from_AllPass (λ (byte : ℕ). byte == 0) row (λ k d less. ap (λ byte. byte == 0) (zeros k d less)) in
    rw blank refl

-- a row within bytes that are zero has zeros alone
row_of_zeros : (bytes : List ℕ) (i offset end : ℕ) → offset ≤ 16 * i → (16 * i + 16 ≤ end) ⊎ (length bytes ≤ end)
    → All (λ (byte : ℕ). byte ≡ 0) (slice_range bytes offset end) → All (λ (byte : ℕ). byte ≡ 0) (dump_row bytes i)
row_of_zeros bytes i offset end from upto zeros k d less =
    let rest = drop (16 * i) bytes in
    let few : k < 16 = omega (arith, less, length-take 16 rest) in
    let inside : 16 * i + k < length bytes = omega (arith, less, length-take 16 rest, length-drop (16 * i) bytes) in
    let before : 16 * i + k < end = past upto few inside in
    let at = 16 * i + k - offset in
    let there : at < length (slice_range bytes offset end) =
    omega (arith, from, inside, before, length-take (end - offset) (drop offset bytes), length-drop offset bytes) in
    let place : offset + at ≡ 16 * i + k = omega (arith, from) in
    get_or-take 16 rest k d few
    ∙ get_or-drop (16 * i) bytes k d
    ∙ ap (λ n. get_or bytes n d) (sym place)
    ∙ sym (get_or-drop offset bytes at d)
    ∙ sym (get_or-take (end - offset) (drop offset bytes) at d (omega (arith, from, before)))
    ∙ zeros at d there
  where
    past : (16 * i + 16 ≤ end) ⊎ (length bytes ≤ end) → k < 16 → 16 * i + k < length bytes → 16 * i + k < end
    past (inl below) few inside = omega (arith, below, few)
    past (inr all) few inside = omega (arith, all, inside)

-- numbers without text may be left out
left_out : (text : ℕ → List ℕ) (i n rest : ℕ) → ((k : ℕ) → i ≤ k → k < i + n → text k ≡ [])
    → flat_map text (range_with_len i (n + rest)) ≡ flat_map text (range_with_len (i + n) rest)
left_out text i zero rest none =
    let same : i ≡ i + 0 = omega arith in
    let all : 0 + rest ≡ rest = omega arith in
    ap (λ n. flat_map text (range_with_len i n)) all ∙ ap (λ k. flat_map text (range_with_len k rest)) same
left_out text i (suc n) rest none =
    let more : suc n + rest ≡ suc (n + rest) = omega arith in
    let next : i + 1 + n ≡ i + suc n = omega arith in
    ap (λ m. flat_map text (range_with_len i m)) more
    ∙ ap (λ own. own ++ flat_map text (range_with_len (i + 1) (n + rest))) (none i (omega arith) (omega arith))
    ∙ left_out text (i + 1) n rest (λ k from less. none k (omega (arith, from)) (omega (arith, less)))
    ∙ ap (λ k. flat_map text (range_with_len k rest)) next

-- rows of zeros may be left out
rows_to : (slot i j end : ℕ) (bytes : List ℕ) → i ≤ j → j ≤ row_count bytes → (16 * j ≤ end) ⊎ (length bytes ≤ end)
    → All (λ (byte : ℕ). byte ≡ 0) (slice_range bytes (16 * i) end) → rows_from slot bytes i ≡ rows_from slot bytes j
rows_to slot i j end bytes order within upto zeros =
    let text = λ (k : ℕ). row_text slot (16 * k) (dump_row bytes k) in
    let parts : row_count bytes - i ≡ j - i + (row_count bytes - j) = omega (arith, order, within) in
    let last : i + (j - i) ≡ j = omega (arith, order) in
    ap (λ n. flat_map text (range_with_len i n)) parts
    ∙ left_out text i (j - i) (row_count bytes - j)
    (λ k from less. blank_row_text slot (16 * k) (dump_row bytes k) (row_of_zeros bytes k (16 * i) end (omega (arith, from)) (here k (omega (arith, less, order)) upto) zeros))
    ∙ ap (λ k. flat_map text (range_with_len k (row_count bytes - j))) last
  where
    here : (k : ℕ) → k < j → (16 * j ≤ end) ⊎ (length bytes ≤ end) → (16 * k + 16 ≤ end) ⊎ (length bytes ≤ end)
    here k less (inl below) = inl (omega (arith, below, less))
    here k less (inr all) = inr all

-- the text of the rows from a row on begins with that of its own row
rows_next : (slot i : ℕ) (bytes : List ℕ) → i < row_count bytes
    → rows_from slot bytes i ≡ row_text slot (16 * i) (dump_row bytes i) ++ rows_from slot bytes (i + 1)
rows_next slot i bytes within = ap (λ (k : ℕ). flat_map (λ k. row_text slot (16 * k) (dump_row bytes k)) (range_with_len i k)) one
  where
    one : row_count bytes - i ≡ suc (row_count bytes - (i + 1))
    one = omega (arith, within)

-- the text of the next row that is not left out
pub row_added : (slot offset row : ℕ) (bytes own before after whole : List ℕ) → offset % 16 ≡ 0 → row % 16 ≡ 0 → offset ≤ row → row < length bytes
    → All (λ (byte : ℕ). byte ≡ 0) (slice_range bytes offset row) → own ≡ take 16 (drop row bytes) → after ≡ before ++ row_text slot row own
    → before ++ rows_from slot bytes (offset / 16) ≡ whole → after ++ rows_from slot bytes ((row + 16) / 16) ≡ whole
row_added slot offset row bytes own before after whole even aligned order within zeros is added so_far =
    let i = offset / 16 in
    let j = row / 16 in
    let start : offset ≡ 16 * i = omega (arith, even) in
    let place : row ≡ 16 * j = omega (arith, aligned) in
    let next : j + 1 ≡ (row + 16) / 16 = omega arith in
    let there : j < row_count bytes = omega (arith, within, place) in
    let skipped : rows_from slot bytes i ≡ rows_from slot bytes j =
    rows_to slot i j row bytes (omega (arith, order)) (omega (arith, there)) (inl (omega (arith, place)))
    (subst (λ k. All (λ (byte : ℕ). byte ≡ 0) (slice_range bytes k row)) start zeros) in
    one_more before after (row_text slot (16 * j) (dump_row bytes j)) (rows_from slot bytes ((row + 16) / 16)) (rows_from slot bytes i) whole
    (added ∙ ap (λ (r : List ℕ). before ++ row_text slot row r) is ∙ ap (λ k. before ++ row_text slot k (take 16 (drop k bytes))) place)
    (skipped ∙ rows_next slot j bytes there ∙ ap (λ k. row_text slot (16 * j) (dump_row bytes j) ++ rows_from slot bytes k) next) so_far

-- past the last row the text is whole
rows_done : (slot i : ℕ) (bytes text whole : List ℕ) → row_count bytes ≤ i → text ++ rows_from slot bytes i ≡ whole → text ≡ whole
rows_done slot i bytes text whole past so_far =
    let none : row_count bytes - i ≡ 0 = omega (arith, past) in
    sym (append-nil text)
    ∙ ap (λ (k : ℕ). text ++ flat_map (λ k. row_text slot (16 * k) (dump_row bytes k)) (range_with_len i k)) (sym none) ∙ so_far

-- if all bytes that are left are zero, the text is whole
pub no_row_left : (slot offset : ℕ) (bytes text whole : List ℕ) → offset % 16 ≡ 0
    → All (λ (byte : ℕ). byte ≡ 0) (slice_range bytes offset (length bytes)) → text ++ rows_from slot bytes (offset / 16) ≡ whole → text ≡ whole
no_row_left slot offset bytes text whole even zeros so_far =
    let i = offset / 16 in
    let start : offset ≡ 16 * i = omega (arith, even) in
    elim (cases_lt i (row_count bytes)) [
      | inl less ↦
          let skipped : rows_from slot bytes i ≡ rows_from slot bytes (row_count bytes) =
          rows_to slot i (row_count bytes) (length bytes) bytes (omega (arith, less)) (omega arith) (inr (omega arith))
          (subst (λ k. All (λ (byte : ℕ). byte ≡ 0) (slice_range bytes k (length bytes))) start zeros) in
          rows_done slot (row_count bytes) bytes text whole (omega arith) (ap (λ (t : List ℕ). text ++ t) (sym skipped) ∙ so_far)
      | inr past ↦ rows_done slot i bytes text whole past so_far
    ]
