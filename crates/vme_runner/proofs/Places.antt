-- Facts about boards, slots and lines of a lawful configuration.
use Rattle.std.proofs.Common.{◌≡◌, ◌≢◌, ℕ, zero, suc, ◌<◌, true, List, [], ◌∷◌, ◌++◌, length, map, drop, Some, None, refl, ap, sym, subst, ◌∙◌, inl, inr, arith}
use Rattle.std.specs.Prelude.{slice_get, slice_set, slice_index_or, option_map, ◌==◌}
use Rattle.std.proofs.lemmas.Bool.{eqb-true, and_from, le-leb, lt-ltb}
use Rattle.std.proofs.lemmas.List.{drop-drop, length_push}
use Rattle.std.proofs.lemmas.List.Quantifiers.{position-Some}
use Rattle.std.proofs.lemmas.Option.{slice_get_cases, get_or_from_slice_get, slice_get-get_or, slice_get-map}
use Rattle.vme_arbiter.specs.Requests.{is_slot, is_level}
use Rattle.vme_shared.specs.declared.reply.LineReply.{LineReply}
use Rattle.vme_grammar.specs.declared.line.Line.{Line}
use Rattle.vme_grammar.specs.Grammar.{IsOwnLine}
use Rattle.vme_script.specs.declared.board.BoardConfig.{BoardConfig}
use Rattle.vme_script.specs.declared.script.ScriptLine.{ScriptLine}
use Rattle.vme_script.specs.Configurations.{Configuration}
use Rattle.vme_script.specs.Lawful.{IsLawful}
use Rattle.vme_line_task.specs.Scripts.{slot_at, level_at, script_at, lines_at}
use Rattle.vme_line_task.specs.Traces.{ScriptState}
use Rattle.vme_stepper.specs.Turns.{lines_left, board_in_slot}

-- a value that is written at a place is read there
pub set_same : {X : Type 0} (xs : List X) (i : ℕ) (new x : X) → slice_get (slice_set xs i new) i ≡ Some x → new ≡ x
set_same [] i new x found = absurd cc
set_same (first ∷ xs) zero new x found = cc
set_same (first ∷ xs) (suc i) new x found = set_same xs i new x found

-- a write leaves every other place unchanged
pub set_other : {X : Type 0} (xs : List X) (i j : ℕ) (new : X) → i ≢ j → slice_get (slice_set xs i new) j ≡ slice_get xs j
set_other [] i j new apart = refl
set_other (first ∷ xs) zero zero new apart = absurd (apart refl)
set_other (first ∷ xs) zero (suc j) new apart = refl
set_other (first ∷ xs) (suc i) zero new apart = refl
set_other (first ∷ xs) (suc i) (suc j) new apart = set_other xs i j new (λ same. apart (ap suc same))

-- the configuration has a board at this place
pub record HasBoard (config : Configuration) (board : ℕ) : Type 0 where
  pub own : BoardConfig
  pub found : slice_get config.boards board ≡ Some own
  pub slot : slot_at config board ≡ own.slot
  pub level : level_at config board ≡ own.level

-- a board that is found at a place has the slot and the level there
has_found : (config : Configuration) (board : ℕ) (own : BoardConfig) → slice_get config.boards board ≡ Some own
    → HasBoard config board
has_found config board own found = record {
  own = own;
  found = found;
  slot = get_or_from_slice_get (map (λ one. one.slot) config.boards) board own.slot 0
      (slice_get-map (λ (one : BoardConfig). one.slot) config.boards board ∙ ap (option_map (λ (one : BoardConfig). one.slot)) found);
  level = get_or_from_slice_get (map (λ one. one.level) config.boards) board own.level 0
      (slice_get-map (λ (one : BoardConfig). one.level) config.boards board ∙ ap (option_map (λ (one : BoardConfig). one.level)) found);
}

-- there is a board at each place below the number of boards
pub has_board : (config : Configuration) (board : ℕ) → board < length config.boards → HasBoard config board
has_board config board there =
    elim (slice_get_cases config.boards board).1 [
      | inl found ↦ has_found config board found.0 found.2
      | inr past ↦ absurd (omega (arith, past.0))
    ]

-- the slot of a board is in range
pub lawful_slot : (config : Configuration) (board : ℕ) → IsLawful config → board < length config.boards
    → is_slot (slot_at config board) ≡ true
lawful_slot config board lawful there =
    let has = has_board config board there in
    let own = lawful.boards board has.own has.found in
    subst (λ (s : ℕ). is_slot s ≡ true) (sym has.slot) (and_from _ _ (le-leb 1 has.own.slot own.first_slot) (le-leb has.own.slot 21 own.last_slot))

-- the request level of a board is in range
pub lawful_level : (config : Configuration) (board : ℕ) → IsLawful config → board < length config.boards
    → is_level (level_at config board) ≡ true
lawful_level config board lawful there =
    let has = has_board config board there in
    let own = lawful.boards board has.own has.found in
    subst (λ (l : ℕ). is_level l ≡ true) (sym has.level) (lt-ltb has.own.level 4 (omega (arith, own.level)))

-- no two boards are in one slot
pub slots_apart : (config : Configuration) (a b : ℕ) → IsLawful config → a < length config.boards → b < length config.boards
    → a ≢ b
    → slot_at config a ≢ slot_at config b
slots_apart config a b lawful first second apart = λ same.
    let one = has_board config a first in
    let two = has_board config b second in
    apart (lawful.apart a b one.own two.own one.found two.found (sym one.slot ∙ same ∙ two.slot))

-- the board at this place is in this slot
pub record IsPlace (config : Configuration) (slot board : ℕ) : Type 0 where
  pub there : board < length config.boards
  pub own : slot_at config board ≡ slot

-- the board that is found in a slot is in this slot
pub place_is : (config : Configuration) (slot board : ℕ) → board_in_slot config slot ≡ Some board → IsPlace config slot board
place_is config slot board placed = by_boards config.boards refl
  where
    by_boards : (boards : List BoardConfig) → config.boards ≡ boards → IsPlace config slot board
    by_boards [] same = let none : board_in_slot config slot ≡ None = rw same refl in absurd cc
    by_boards (first ∷ boards) same =
        let at = position-Some (λ (one : BoardConfig). one.slot == slot) config.boards board first placed in
        let has = has_board config board at.0 in
        let same_own : slice_index_or config.boards board first ≡ has.own = get_or_from_slice_get config.boards board has.own first has.found in
        record { there = at.0; own = has.slot ∙ ap (λ (one : BoardConfig). one.slot) (sym same_own) ∙ eqb-true _ _ at.1 }

-- each of these lines is one that a script can have
abbrev pub AllOwn : List Line → Type 0
AllOwn [] = Unit {0}
AllOwn (line ∷ lines) = IsOwnLine line × AllOwn lines

-- if each line of a script is one that a script can have, so are all its lines
script_own : (script : List ScriptLine) → ((j : ℕ) (line : ScriptLine) → slice_get script j ≡ Some line → IsOwnLine line.line)
    → AllOwn (map (λ one. one.line) script)
script_own [] each = tt
script_own (first ∷ script) each = (each 0 first refl, script_own script (λ j line found. each (suc j) line found))

-- if all lines are lines that a script can have, so are those after the first n
drop_own : (n : ℕ) (lines : List Line) → AllOwn lines → AllOwn (drop n lines)
drop_own zero lines own = own
drop_own (suc n) [] own = tt
drop_own (suc n) (line ∷ lines) own = drop_own n lines own.1

-- the remaining lines of a processor are lines that a script can have
pub left_own : (config : Configuration) (board : ℕ) (c : ScriptState) → IsLawful config → board < length config.boards
    → AllOwn (lines_left config board c)
left_own config board c lawful there =
    let found : slice_get config.scripts board ≡ Some (script_at config board) =
    slice_get-get_or config.scripts board [] (subst (λ (n : ℕ). board < n) (sym lawful.scripts) there) in
    drop_own (length c.ended) (lines_at config board)
    (script_own (script_at config board) (λ j line at. lawful.own board j (script_at config board) line found at))

-- when the first remaining line ends, the remaining lines are the others
pub left_after : (config : Configuration) (board : ℕ) (ended : List LineReply) (answer : LineReply) (line : Line) (lines : List Line)
    → drop (length ended) (lines_at config board) ≡ line ∷ lines
    → drop (length (ended ++ answer ∷ [])) (lines_at config board) ≡ lines
left_after config board ended answer line lines left =
    ap (λ n. drop n (lines_at config board)) (length_push ended answer) ∙ sym (drop-drop 1 (length ended) (lines_at config board))
    ∙ ap (λ ls. drop 1 ls) left
