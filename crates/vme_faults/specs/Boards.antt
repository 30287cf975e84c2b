-- All refusals of a board by itself, each at its key, as far as its values are known.
use Rattle.std.specs.Prelude.{ℕ, ◌+◌, ◌%◌, nat_lt, nat_le, max, Bool, not, ◌==◌, ◌&&◌, if◌then◌else◌, unwrap_or, option_copied}
use Rattle.std.specs.Prelude.{List, [], ◌∷◌, map, Option, Some, None, is_none, Result, Ok, Err}
use Rattle.std.specs.Option.{ok_or, option_and_then}
use Rattle.vme_am.specs.declared.code.Space.{Space}
use Rattle.vme_am.specs.Spaces.{addresses_of}
use Rattle.vme_memory.specs.Boards.{is_board_size}
use Rattle.vme_config_toml.specs.Files.{BoardValues}
use Rattle.vme_positions.specs.declared.place.Key.{Key}
use Rattle.vme_positions.specs.declared.place.Key.TheVariants as keys
use Rattle.vme_script.specs.Answers.{refuse}
use Rattle.vme_script.specs.Causes.{board_refusal, refused_as}
use Rattle.vme_script.specs.declared.cause.board.BoardCause.{BoardCause}
use Rattle.vme_script.specs.declared.fault.ConfigFault.{ConfigFault}
use Rattle.vme_script.specs.declared.fault.ConfigFault.TheVariants.{BadSlot, BadLevel, BadWord, BadSize, Misaligned, OutsideSpace}
use Rattle.vme_script.specs.Boards.{space_named, width_of}
use Rattle.vme_faults.specs.declared.tables.BoardKeys.{BoardKeys}
use Rattle.vme_faults.specs.declared.tables.KnownBoard.{KnownBoard}

-- the refusal of a result, if it is one
abbrev pub refusal_in : {A : Type 0} → Result A ConfigFault → Option ConfigFault
refusal_in (Ok x) = None
refusal_in (Err fault) = Some fault

-- the refusal of a judged value; an unknown one has none
abbrev pub refusal_judged : {A : Type 0} → Option (Result A BoardCause) → Option ConfigFault
refusal_judged judged = option_and_then (λ result. refusal_in (refused_as board_refusal result)) judged

-- what a rule returned for a lawful value
abbrev pub lawful_in : {A C : Type 0} → Result A C → Option A
lawful_in (Ok x) = Some x
lawful_in (Err cause) = None

-- what a rule returned for a known and lawful value
abbrev pub lawful_judged : {A : Type 0} → Option (Result A BoardCause) → Option A
lawful_judged judged = option_and_then lawful_in judged

-- the values of a board that are known
pub record KnownValues : Type 0 where
  pub slot : Option ℕ
  pub level : Option ℕ
  pub space : Option (List ℕ)
  pub base : Option ℕ
  pub size : Option ℕ
  pub width : Option ℕ
  pub uat : Option Bool

-- the values of a board of which each is known
abbrev pub all_known : BoardValues → KnownValues
all_known board = record {
  slot = Some board.slot;
  level = Some board.level;
  space = Some board.range.space;
  base = Some board.range.base;
  size = Some board.range.size;
  width = Some board.class.width;
  uat = Some board.class.uat;
}

-- the known ones of the values of a board's keys
abbrev pub known_values : BoardKeys → KnownValues
known_values board = record {
  slot = board.slot;
  level = board.level;
  space = option_copied board.space;
  base = board.base;
  size = board.size;
  width = board.width;
  uat = board.uat;
}

-- the refusal of a slot after the board in slot `before`
abbrev pub slot_refusal : ℕ → ℕ → Option ConfigFault
slot_refusal before slot = refusal_in (refuse (not (nat_lt before slot && nat_le slot 21)) BadSlot)

-- the refusal of a level
abbrev pub level_refusal : ℕ → Option ConfigFault
level_refusal level = refusal_in (refuse (nat_lt 3 level) BadLevel)

-- the refusal of unaligned transfers with a lawful number of data lines
abbrev pub unaligned_refusal : Bool → ℕ → Option ConfigFault
unaligned_refusal uat lines = option_and_then (λ width. refusal_in (refuse (uat && not (lines == 32)) BadWord)) (width_of lines)

-- the refusal of a size
abbrev pub size_refusal : ℕ → Option ConfigFault
size_refusal size = refusal_in (refuse (not (is_board_size size)) BadSize)

-- the refusal of a base
abbrev pub base_refusal : ℕ → Option ConfigFault
base_refusal base = refusal_in (refuse (not (base % 4 == 0)) Misaligned)

-- the refusal of the end of a range with this space, base and size
abbrev pub end_refusal : Option Space → Option ℕ → Option ℕ → Option ConfigFault
end_refusal space base size = option_and_then (λ s. option_and_then (λ b. option_and_then (λ n.
    refusal_in (refuse (nat_lt (addresses_of s) (b + n)) OutsideSpace)) size) base) space

-- a known number, unless it is refused
abbrev pub unless_refused : (ℕ → Option ConfigFault) → Option ℕ → Option ℕ
unless_refused refusal known = option_and_then (λ n. if is_none (refusal n) then Some n else None) known

-- the refusals of a board's known values after the board in slot `before`, each at its key, in the order of the checks. A
-- test is made only on values that are not refused themselves: unaligned transfers only with a width, an end only with a
-- space, a base and a size
abbrev pub refusals_at_keys : ℕ → KnownValues → List (Key × Option ConfigFault)
refusals_at_keys before known =
    (keys.Slot, option_and_then (slot_refusal before) known.slot)
    ∷ (keys.Level, option_and_then level_refusal known.level)
    ∷ (keys.Space, option_and_then (λ word. refusal_in (ok_or (space_named word) BadWord)) known.space)
    ∷ (keys.Width, option_and_then (λ lines. refusal_in (ok_or (width_of lines) BadWord)) known.width)
    ∷ (keys.Uat, option_and_then (λ uat. option_and_then (unaligned_refusal uat) known.width) known.uat)
    ∷ (keys.Size, option_and_then size_refusal known.size)
    ∷ (keys.Base, option_and_then base_refusal known.base)
    ∷ (
      keys.Base,
      end_refusal (option_and_then space_named known.space) (unless_refused base_refusal known.base)
          (unless_refused size_refusal known.size),
    )
    ∷ []

-- the refusals of a board all of whose values are known
abbrev pub board_refusals : ℕ → BoardValues → List (Option ConfigFault)
board_refusals before board = map (λ refusal. refusal.1) (refusals_at_keys before (all_known board))

-- the greatest slot in range of boards, or the given one
abbrev pub greatest_slot : ℕ → List KnownBoard → ℕ
greatest_slot greatest [] = greatest
greatest_slot greatest (board ∷ more) = greatest_slot (max greatest (unwrap_or board.in_range 0)) more
