-- Ranges that are each lawful are refused together only if two share an address.
use Rattle.std.proofs.Common.{◌≡◌, ◌≤◌, Bool, true, false, List, [], ◌∷◌, ◌++◌, length, Option, None, Some, is_ok, refl, ◌∙◌, arith}
use Rattle.std.proofs.lemmas.List.{length-map}
use Rattle.std.specs.Prelude.{nat_lt, flat_map, ◌%◌, not, ◌==◌}
use Rattle.std.proofs.lemmas.Bool.{and_parts, false≢true, le-ltb, ltb-false}
use Rattle.vme_am.specs.Spaces.{addresses_of}
use Rattle.vme_cycle.specs.Refusals.{where_true, first_of}
use Rattle.vme_decode.specs.declared.entry.Entry.{Entry}
use Rattle.vme_decode.specs.declared.fault.MapFault.{MapFault}
use Rattle.vme_decode.specs.declared.fault.MapFault.TheVariants.{TooMany, Overlap}
use Rattle.vme_decode.specs.Entries.{end_of}
use Rattle.vme_decode.specs.Lawful.{entry_refusals, some_overlap, first_refusal}
use Rattle.vme_memory.specs.Boards.{is_board_size}
use Rattle.vme_script.specs.declared.board.BoardConfig.{BoardConfig}
use Rattle.vme_script.specs.declared.fault.ConfigFault.{ConfigFault}
use Rattle.vme_script.specs.Answers.{◌>>=◌, refuse}
use Rattle.vme_script.specs.Boards.{range_refused, entries_of, have_ranges}

-- refusals none of which applies can be dropped from the start of a list
first_of-append : (none more : List (Option MapFault)) → first_of none ≡ None → first_of (none ++ more) ≡ first_of more
first_of-append [] more clear = refl
first_of-append (None ∷ none) more clear = first_of-append none more clear
first_of-append (Some fault ∷ none) more clear = cc

-- if none of three refusals applies, neither of the last two tests holds
last_two : (a b c : Bool) (e f g : ConfigFault) → is_ok (refuse a e >>= (λ _. refuse b f >>= (λ _. refuse c g))) ≡ true → (b ≡ false) × (c ≡ false)
last_two true b c e f g ok = absurd (false≢true ok)
last_two false true c e f g ok = absurd (false≢true ok)
last_two false false true e f g ok = absurd (false≢true ok)
last_two false false false e f g ok = (refl, refl)

-- a range that is lawful by itself has no refusal in a map
own_refusals : (entry : Entry) → is_ok (range_refused entry) ≡ true → first_of (entry_refusals entry) ≡ None
unfolding range_refused
own_refusals entry ok =
    let two = last_two (not (is_board_size entry.size)) (not (entry.base % 4 == 0)) (nat_lt (addresses_of entry.space) (end_of entry)) _ _ _ ok in
    rw (two.0, two.1) refl

-- ranges that are each lawful by themselves have no refusal of their own in a map
no_refusals : (boards : List BoardConfig) → have_ranges boards ≡ true → first_of (flat_map entry_refusals (entries_of boards)) ≡ None
no_refusals [] ok = refl
no_refusals (board ∷ boards) ok =
    let parts = and_parts (is_ok (range_refused board.entry)) (have_ranges boards) ok in
    first_of-append (entry_refusals board.entry) _ (own_refusals board.entry parts.0) ∙ no_refusals boards parts.1

-- the refusal of lawful ranges, if there is one
pub refusal_of_lawful :
    (boards : List BoardConfig) → length boards ≤ 21 → have_ranges boards ≡ true
    → first_refusal (entries_of boards) ≡ first_of (where_true (some_overlap (entries_of boards)) Overlap ∷ [])
unfolding first_refusal
refusal_of_lawful boards few ok =
    let entries = entries_of boards in
    let counted : length entries ≡ length boards = length-map boards (λ board. board.entry) in
    let many : nat_lt 21 (length entries) ≡ false = le-ltb 21 (length entries) (omega (arith, counted)) in
    let clear : first_of (where_true (nat_lt 21 (length entries)) TooMany ∷ flat_map entry_refusals entries) ≡ None = rw many (no_refusals boards ok) in
    first_of-append (where_true (nat_lt 21 (length entries)) TooMany ∷ flat_map entry_refusals entries) _ clear

-- a lawful range has a board's size
pub size_of_range : (entry : Entry) → is_ok (range_refused entry) ≡ true → is_board_size entry.size ≡ true
unfolding range_refused
size_of_range entry ok =
    first_one (is_board_size entry.size) (not (entry.base % 4 == 0)) (nat_lt (addresses_of entry.space) (end_of entry)) _ _ _ ok
  where
    first_one : (a b c : Bool) (e f g : ConfigFault) → is_ok (refuse (not a) e >>= (λ _. refuse b f >>= (λ _. refuse c g))) ≡ true → a ≡ true
    first_one true b c e f g ok = refl
    first_one false b c e f g ok = absurd (false≢true ok)

-- a lawful range ends within its space
pub end_of_range : (entry : Entry) → is_ok (range_refused entry) ≡ true → end_of entry ≤ addresses_of entry.space
unfolding range_refused
end_of_range entry ok =
    ltb-false (addresses_of entry.space) (end_of entry)
    (last_two (not (is_board_size entry.size)) (not (entry.base % 4 == 0)) (nat_lt (addresses_of entry.space) (end_of entry)) _ _ _ ok).1
