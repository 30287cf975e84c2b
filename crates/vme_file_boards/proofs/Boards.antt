-- What is known of the values of tables that have boards.
use Rattle.std.proofs.Common.{◌≡◌, ℕ, ◌≤◌, Bool, true, false, List, ◌∷◌, Option, Some, None, Result, Ok, Err, ap, refl, sym, ◌∙◌, subst, arith, rules}
use Rattle.std.proofs.lemmas.Bool.Decides.{nat_tests}
use Rattle.std.specs.Prelude.{not, ◌&&◌, ◌==◌}
use Rattle.std.specs.Option.{ok_or}
use Rattle.toml.specs.Data.{Members}
use Rattle.vme_am.specs.declared.code.Space.{Space}
use Rattle.vme_decode.specs.declared.entry.Entry.{Entry}
use Rattle.vme_memory.specs.declared.class.Class.{Class}
use Rattle.vme_memory.specs.declared.class.Width8To32.{Width8To32}
use Rattle.vme_config_toml.specs.declared.file.ClassTable.{ClassTable}
use Rattle.vme_config_toml.specs.Files.{RangeValues, BoardValues, FileValues}
use Rattle.vme_config_toml.specs.Keys.{file_values}
use Rattle.vme_script.specs.declared.board.BoardConfig.{BoardConfig}
use Rattle.vme_script.specs.declared.fault.ConfigFault.{ConfigFault}
use Rattle.vme_script.specs.declared.fault.ConfigFault.TheVariants.{NotToml, BadKey, BadSlot, BadLevel, BadWord}
use Rattle.vme_script.specs.Answers.{◌>>=◌, refuse}
use Rattle.vme_script.specs.Arbiters.{kind_named}
use Rattle.vme_script.specs.Boards.{space_named, width_of, entry_of, class_of, range_refused, board_config, boards_after}
use Rattle.vme_script.specs.Configurations.{Configuration, configuration_of}
use Rattle.vme_script.specs.Readings.{configuration_in}
use Rattle.vme_script.proofs.lemmas.Lawful.{made}

-- if all checks of a board are passed, these hold, and it is made of its range and its class
checked :
    (slot level : Bool) (entry : Result Entry ConfigFault) (class : Result Class ConfigFault) (range : Entry → Result (Unit {0}) ConfigFault)
    (make : Entry → Class → BoardConfig) (board : BoardConfig)
    → (refuse slot BadSlot >>= (λ _. refuse level BadLevel >>= (λ _. entry >>= (λ x. class >>= (λ y. range x >>= (λ _. Ok (make x y))))))) ≡ Ok board
    → (x : Entry) × (y : Class) × (slot ≡ false) × (level ≡ false) × (entry ≡ Ok x) × (class ≡ Ok y) × (board ≡ make x y)
checked true level entry class range make board e = cc
checked false true entry class range make board e = cc
checked false false (Err fault) class range make board e = cc
checked false false (Ok x) (Err fault) range make board e = cc
checked false false (Ok x) (Ok y) range make board e = (x, y, refl, refl, refl, refl, ranged (range x) (make x y) board e)
  where
    ranged : (answer : Result (Unit {0}) ConfigFault) (made board : BoardConfig) → (answer >>= (λ _. Ok made)) ≡ Ok board → board ≡ made
    ranged (Ok u) made board e = cc
    ranged (Err fault) made board e = cc

-- the range of a table, whose word names its space
ranged : (range : RangeValues) (entry : Entry) → entry_of range ≡ Ok entry
    → (space_named range.space ≡ Some entry.space)
    × (entry ≡ record { space = entry.space; base = range.base; size = range.size; supervisory = range.supervisory })
unfolding entry_of
ranged range entry e = named (space_named range.space) e
  where
    named : (word : Option Space) → (ok_or word BadWord >>= (λ space. Ok (record { space = space; base = range.base; size = range.size; supervisory = range.supervisory }))) ≡ Ok entry
        → (word ≡ Some entry.space) × (entry ≡ record { space = entry.space; base = range.base; size = range.size; supervisory = range.supervisory })
    named None e = cc
    named (Some space) e = (cc, cc)

-- the class of a table, whose number of lines gives its width
classed : (table : ClassTable) (class : Class) → class_of table ≡ Ok class
    → (width_of table.width ≡ Some class.width) × (class ≡ record { width = class.width; uat = table.uat; blt = table.blt; rmw = table.rmw })
unfolding class_of
classed table class e = lined (width_of table.width) (table.uat && not (table.width == 32)) e
  where
    lined : (lines : Option Width8To32) (bad : Bool)
        → (ok_or lines BadWord >>= (λ width. refuse bad BadWord >>= (λ _. Ok (record { width = width; uat = table.uat; blt = table.blt; rmw = table.rmw })))) ≡ Ok class
        → (lines ≡ Some class.width) × (class ≡ record { width = class.width; uat = table.uat; blt = table.blt; rmw = table.rmw })
    lined None bad e = cc
    lined (Some width) true e = cc
    lined (Some width) false e = (cc, cc)

-- what is known of the values of a table that has a board
pub record IsMade (table : BoardValues) (board : BoardConfig) : Type 0 where
  pub slot : table.slot ≤ 21
  pub level : table.level ≤ 3
  pub space : space_named table.range.space ≡ Some board.entry.space
  pub width : width_of table.class.width ≡ Some board.class.width
  pub made : board ≡ record {
    slot = table.slot;
    level = table.level;
    entry = record { space = board.entry.space; base = table.range.base; size = table.range.size; supervisory = table.range.supervisory };
    class = record { width = board.class.width; uat = table.class.uat; blt = table.class.blt; rmw = table.class.rmw };
  }

pub known : (before : ℕ) (table : BoardValues) (board : BoardConfig) → board_config before table ≡ Ok board → IsMade table board
unfolding board_config
known before table board e =
    let all = checked _ _ (entry_of table.range) (class_of table.class) range_refused
    (λ entry class. record { slot = table.slot; level = table.level; entry = entry; class = class }) board e in
    let range = ranged table.range all.0 all.4 in
    let class = classed table.class all.1 all.5 in
    subst (IsMade table) (sym all.6) (record {
      slot = first_of (search rules, grind (arith, nat_tests));
      level = first_of (search rules, grind (arith, nat_tests));
      space = range.0;
      width = class.0;
      made = cc;
    })

-- if the boards of tables are known, so are the first and those after it
pub more :
    (first : Result BoardConfig ConfigFault) (others : Result (List BoardConfig) ConfigFault) (boards : List BoardConfig)
    → (first >>= (λ x. others >>= (λ xs. Ok (x ∷ xs)))) ≡ Ok boards
    → (x : BoardConfig) × (xs : List BoardConfig) × (first ≡ Ok x) × (others ≡ Ok xs) × (boards ≡ x ∷ xs)
more (Err fault) others boards e = cc
more (Ok x) (Err fault) boards e = cc
more (Ok x) (Ok xs) boards e = (x, xs, refl, refl, cc)

-- a document that has no values is refused by its keys
pub no_values : (document : Members) → file_values document ≡ None → configuration_in (Some document) ≡ Err BadKey
unfolding configuration_in
no_values document e = ap (λ values. ok_or values BadKey >>= configuration_of) e

-- a text that is no document is refused
pub no_document : (document : Option Members) → document ≡ None → configuration_in document ≡ Err NotToml
unfolding configuration_in
no_document document e = ap (λ found. ok_or found NotToml >>= (λ keys. ok_or (file_values keys) BadKey >>= configuration_of)) e

-- a configuration has the boards and the arbiter of its document's values
pub of_document :
    (document : Members) (file : FileValues) (config : Configuration) → configuration_in (Some document) ≡ Ok config
    → file_values document ≡ Some file → (boards_after 0 file.boards ≡ Ok config.boards) × (kind_named file.arbiter ≡ Ok config.arbiter)
unfolding configuration_in
of_document document file config read values =
    let all = made file config (sym (ap (λ found. ok_or found BadKey >>= configuration_of) values) ∙ read) in (all.boards, all.arbiter)
