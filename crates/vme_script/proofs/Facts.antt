-- Facts about configured boards.
use Rattle.std.proofs.Common.{◌≡◌, ℕ, suc, Bool, true, false, List, [], ◌∷◌, length, Result, Ok, Err, refl, ap, subst}
use Rattle.std.specs.List.{list_all}
use Rattle.std.proofs.lemmas.Bool.{and_parts}
use Rattle.std.specs.Prelude.{nat_lt, nat_le, not, ◌&&◌, is_ok}
use Rattle.vme_decode.specs.declared.entry.Entry.{Entry}
use Rattle.vme_memory.specs.declared.class.Class.{Class}
use Rattle.vme_script.specs.declared.board.BoardConfig.{BoardConfig}
use Rattle.vme_script.specs.declared.fault.ConfigFault.{ConfigFault}
use Rattle.vme_script.specs.declared.fault.ConfigFault.TheVariants.{BadSlot, BadLevel}
use Rattle.vme_script.specs.Answers.{◌>>=◌, refuse}
use Rattle.vme_config_toml.specs.Files.{BoardValues}
use Rattle.vme_script.specs.Boards.{entry_of, class_of, range_refused, board_config, boards_after, have_ranges}
use Rattle.vme_script.specs.Scripts.{has_slots}

-- a Boolean whose negation is false is true
pub true_from_not : (b : Bool) → not b ≡ false → b ≡ true
true_from_not true e = refl
true_from_not false e = cc

-- the parts of a configured board, to which no refusal applies
record Parts (slot level : Bool) (range : Entry → Result (Unit {0}) ConfigFault) (make : Entry → Class → BoardConfig) (config : BoardConfig) : Type 0 where
  entry : Entry
  class : Class
  slot_lawful : slot ≡ false
  level_lawful : level ≡ false
  range_lawful : is_ok (range entry) ≡ true
  made : config ≡ make entry class

-- if a range check and a value give a value, the check succeeded and the value is that one
ranged :
    (answer : Result (Unit {0}) ConfigFault) (config made : BoardConfig) → (answer >>= (λ _. Ok made)) ≡ Ok config → (is_ok answer ≡ true) × (config ≡ made)
ranged (Ok u) config made e = (refl, cc)
ranged (Err fault) config made e = cc

-- if the checks of a board give a configuration, no refusal applies to its parts
parts :
    (slot level : Bool) (entry : Result Entry ConfigFault) (class : Result Class ConfigFault) (range : Entry → Result (Unit {0}) ConfigFault)
    (make : Entry → Class → BoardConfig) (config : BoardConfig)
    → (refuse slot BadSlot >>= (λ _. refuse level BadLevel >>= (λ _. entry >>= (λ x. class >>= (λ y. range x >>= (λ _. Ok (make x y))))))) ≡ Ok config
    → Parts slot level range make config
parts true level entry class range make config e = cc
parts false true entry class range make config e = cc
parts false false (Err fault) class range make config e = cc
parts false false (Ok x) (Err fault) range make config e = cc
parts false false (Ok x) (Ok y) range make config e =
    let last = ranged (range x) config (make x y) e in
    record { entry = x; class = y; slot_lawful = refl; level_lawful = refl; range_lawful = last.0; made = last.1 }

-- the parts of a configured board, by the checks of `board_config`
board_parts :
    (before : ℕ) (board : BoardValues) (config : BoardConfig) → board_config before board ≡ Ok config
    → Parts (not (nat_lt before board.slot && nat_le board.slot 21)) (nat_lt 3 board.level) range_refused
    (λ entry class. record { slot = board.slot; level = board.level; entry = entry; class = class }) config
unfolding board_config
board_parts before board config e = parts _ _ (entry_of board.range) (class_of board.class) range_refused _ config e

-- if the results of a board and of the boards after it give a list, neither is refused
more_parts :
    (first : Result BoardConfig ConfigFault) (others : Result (List BoardConfig) ConfigFault) (boards : List BoardConfig)
    → (first >>= (λ x. others >>= (λ xs. Ok (x ∷ xs)))) ≡ Ok boards
    → (x : BoardConfig) × (xs : List BoardConfig) × (first ≡ Ok x) × (others ≡ Ok xs) × (x ∷ xs ≡ boards)
more_parts (Err fault) others boards e = cc
more_parts (Ok x) (Err fault) boards e = cc
more_parts (Ok x) (Ok xs) boards e = (x, xs, refl, refl, cc)

-- whether the slots of boards ascend and are above the given one
abbrev pub ascend : ℕ → List BoardConfig → Bool
ascend before [] = true
ascend before (board ∷ more) = nat_lt before board.slot && ascend board.slot more

-- whether a board is in one of 21 slots, on one of four levels, and its range is lawful by itself
abbrev pub is_lawful : BoardConfig → Bool
is_lawful board = nat_le board.slot 21 && not (nat_lt 3 board.level) && is_ok (range_refused board.entry)

-- the facts about configured boards
pub record Known (before : ℕ) (values : List BoardValues) (boards : List BoardConfig) : Type 0 where
  pub count : length boards ≡ length values
  pub lawful : list_all is_lawful boards ≡ true
  pub ascending : ascend before boards ≡ true
  pub slots : has_slots values ≡ true

-- if the facts hold for the boards after a configured board, they hold for it and these boards
one_more :
    (before : ℕ) (value : BoardValues) (values : List BoardValues) (x : BoardConfig) (xs : List BoardConfig)
    → board_config before value ≡ Ok x → Known value.slot values xs → Known before (value ∷ values) (x ∷ xs)
one_more before value values x xs first others =
    let p = board_parts before value x first in
    let within = and_parts (nat_lt before value.slot) (nat_le value.slot 21) (true_from_not _ p.slot_lawful) in
    record {
      count = ap suc others.count;
      lawful = rw (p.made, within.1, p.level_lawful, p.range_lawful) others.lawful;
      ascending = rw (p.made, within.0) others.ascending;
      slots = rw within.1 others.slots;
    }

-- the facts hold for boards that are configured
pub boards_known : (before : ℕ) (values : List BoardValues) (boards : List BoardConfig) → boards_after before values ≡ Ok boards → Known before values boards
boards_known before [] boards e =
    let none : [] ≡ boards = cc in
    subst (λ bs. Known before [] bs) none (record { count = refl; lawful = refl; ascending = refl; slots = refl })
boards_known before (value ∷ values) boards e =
    let p = more_parts (board_config before value) (boards_after value.slot values) boards e in
    subst (λ bs. Known before (value ∷ values) bs) p.4 (one_more before value values p.0 p.1 p.2 (boards_known value.slot values p.1 p.3))

-- the range of each lawful board is lawful
pub ranges_known : (boards : List BoardConfig) → list_all is_lawful boards ≡ true → have_ranges boards ≡ true
ranges_known [] lawful = refl
ranges_known (board ∷ boards) lawful =
    let p = and_parts (is_lawful board) (list_all is_lawful boards) lawful in
    let q = and_parts (nat_le board.slot 21 && not (nat_lt 3 board.level)) (is_ok (range_refused board.entry)) p.0 in
    rw q.1 (ranges_known boards p.1)
