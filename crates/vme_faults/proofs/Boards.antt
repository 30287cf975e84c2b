-- The first of all refusals of a board is the one with which the file is refused.
use Rattle.std.proofs.Common.{◌≡◌, ℕ, ◌+◌, ◌%◌, Bool, true, false, [], ◌∷◌, Option, Some, None, Ok, refl}
use Rattle.std.specs.Prelude.{nat_lt, nat_le, not, ◌==◌, ◌&&◌, is_none, if◌then◌else◌}
use Rattle.std.specs.Option.{ok_or, option_and_then}
use Rattle.vme_am.specs.declared.code.Space.{Space}
use Rattle.vme_am.specs.Spaces.{addresses_of}
use Rattle.vme_cycle.specs.Refusals.{first_of}
use Rattle.vme_memory.specs.Boards.{is_board_size}
use Rattle.vme_memory.specs.declared.class.Width8To32.{Width8To32}
use Rattle.vme_config_toml.specs.Files.{BoardValues}
use Rattle.vme_script.specs.Answers.{◌>>=◌, refuse}
use Rattle.vme_script.specs.declared.fault.ConfigFault.TheVariants.{BadSlot, BadLevel, BadWord, BadSize, Misaligned, OutsideSpace}
use Rattle.vme_script.specs.Boards.{space_named, width_of, entry_of, class_of, range_refused, board_config}
use Rattle.vme_decode.specs.declared.entry.Entry.{Entry}
use Rattle.vme_decode.specs.Entries.{end_of}
use Rattle.vme_memory.specs.declared.class.Class.{Class}
use Rattle.vme_faults.specs.Boards.{board_refusals, refusal_in}

-- the refusal of a last check
last : {A : Type 0} (bad : Bool) (x : A)
    → refusal_in (refuse bad OutsideSpace >>= (λ g. Ok x)) ≡ first_of (refusal_in (refuse bad OutsideSpace) ∷ [])
last true x = refl
last false x = refl

-- the refusals of size, base and range, if the space and the width are lawful
last_first :
    {A : Type 0} (size_good base_good : Bool) (outside : ℕ → ℕ → Bool) (base size : ℕ) (x : A)
    → refusal_in ((refuse (not size_good) BadSize >>= (λ d. refuse (not base_good) Misaligned >>= (λ f.
    refuse (outside base size) OutsideSpace))) >>= (λ g. Ok x))
    ≡ first_of (refusal_in (refuse (not size_good) BadSize) ∷ refusal_in (refuse (not base_good) Misaligned)
    ∷ option_and_then (λ b. option_and_then (λ n. refusal_in (refuse (outside b n) OutsideSpace))
    (if is_none (refusal_in (refuse (not size_good) BadSize)) then Some size else None))
    (if is_none (refusal_in (refuse (not base_good) Misaligned)) then Some base else None) ∷ [])
last_first false base_good outside base size x = refl
last_first true false outside base size x = refl
last_first true true outside base size x = last (outside base size) x

-- all refusals, by the values in turn
all_first :
    {A : Type 0} (slot_bad level_bad : Bool) (space : Option Space) (width : Option Width8To32)
    (uat wide size_good base_good : Bool) (outside : Space → ℕ → ℕ → Bool) (base size : ℕ)
    (entry : Space → Entry) (class : Width8To32 → Class) (size_test base_test end_test : Entry → Bool) (board : Entry → Class → A)
    → ((s : Space) → size_test (entry s) ≡ size_good) → ((s : Space) → base_test (entry s) ≡ base_good)
    → ((s : Space) → end_test (entry s) ≡ outside s base size)
    → refusal_in (refuse slot_bad BadSlot >>= (λ a. refuse level_bad BadLevel >>= (λ b.
    (ok_or space BadWord >>= (λ s. Ok (entry s))) >>= (λ e.
    (ok_or width BadWord >>= (λ w. refuse (uat && not wide) BadWord >>= (λ c. Ok (class w)))) >>= (λ k.
    (refuse (not (size_test e)) BadSize >>= (λ d. refuse (not (base_test e)) Misaligned >>= (λ f.
    refuse (end_test e) OutsideSpace))) >>= (λ g. Ok (board e k)))))))
    ≡ first_of (refusal_in (refuse slot_bad BadSlot) ∷ refusal_in (refuse level_bad BadLevel) ∷ refusal_in (ok_or space BadWord)
    ∷ refusal_in (ok_or width BadWord) ∷ option_and_then (λ w. refusal_in (refuse (uat && not wide) BadWord)) width
    ∷ refusal_in (refuse (not size_good) BadSize) ∷ refusal_in (refuse (not base_good) Misaligned)
    ∷ option_and_then (λ s. option_and_then (λ b. option_and_then (λ n. refusal_in (refuse (outside s b n) OutsideSpace))
    (if is_none (refusal_in (refuse (not size_good) BadSize)) then Some size else None))
    (if is_none (refusal_in (refuse (not base_good) Misaligned)) then Some base else None)) space ∷ [])
all_first true _ _ _ _ _ _ _ _ _ _ _ _ _ _ _ _ _ _ _ = refl
all_first false true _ _ _ _ _ _ _ _ _ _ _ _ _ _ _ _ _ _ = refl
all_first false false None _ _ _ _ _ _ _ _ _ _ _ _ _ _ _ _ _ = refl
all_first false false (Some s) None _ _ _ _ _ _ _ _ _ _ _ _ _ _ _ _ = refl
all_first false false (Some s) (Some w) true false _ _ _ _ _ _ _ _ _ _ _ _ _ _ = refl
all_first false false (Some s) (Some w) true true good fine outside base size entry class _ _ _ board is_size is_base is_end =
    rw (is_size s, is_base s, is_end s) (last_first good fine (outside s) base size (board (entry s) (class w)))
all_first false false (Some s) (Some w) false wide good fine outside base size entry class _ _ _ board is_size is_base is_end =
    rw (is_size s, is_base s, is_end s) (last_first good fine (outside s) base size (board (entry s) (class w)))

-- the refusal of a board is the first of all
pub board_first :
    (before : ℕ) (board : BoardValues) → refusal_in (board_config before board) ≡ first_of (board_refusals before board)
unfolding board_config entry_of class_of range_refused
board_first before board =
    all_first (not (nat_lt before board.slot && nat_le board.slot 21)) (nat_lt 3 board.level) (space_named board.range.space)
    (width_of board.class.width) board.class.uat (board.class.width == 32)
    (is_board_size board.range.size) (board.range.base % 4 == 0) (λ s b n. nat_lt (addresses_of s) (b + n)) board.range.base board.range.size
    (λ space. record { space = space; base = board.range.base; size = board.range.size; supervisory = board.range.supervisory })
    (λ width. record { width = width; uat = board.class.uat; blt = board.class.blt; rmw = board.class.rmw })
    (λ entry. is_board_size entry.size) (λ entry. entry.base % 4 == 0) (λ entry. nat_lt (addresses_of entry.space) (end_of entry))
    (λ entry class. record { slot = board.slot; level = board.level; entry = entry; class = class })
    (λ s. refl) (λ s. refl) (λ s. refl)
