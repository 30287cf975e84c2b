-- All refusals of a mailbox, each at its key, as far as its numbers and its board are known.
use Rattle.std.specs.Prelude.{ℕ, ◌%◌, nat_le, Bool, not, ◌==◌, ◌&&◌, if◌then◌else◌, List, [], ◌∷◌, Option, None, Result}
use Rattle.std.specs.List.{list_any}
use Rattle.std.specs.Option.{option_and_then}
use Rattle.vme_cycle.specs.Refusals.{first_of}
use Rattle.vme_memory.specs.declared.class.Width8To32.{Width8To32}
use Rattle.vme_memory.specs.Classes.{answers_quads}
use Rattle.vme_positions.specs.declared.place.Key.{Key}
use Rattle.vme_positions.specs.declared.place.Key.TheVariants as keys
use Rattle.vme_script.specs.declared.board_range.BoardRange.{BoardRange}
use Rattle.vme_script.specs.declared.cause.mailbox.MailboxCause.{MailboxCause}
use Rattle.vme_script.specs.declared.fault.ConfigFault.{ConfigFault}
use Rattle.vme_script.specs.declared.fault.ConfigFault.TheVariants.{BadMailbox}
use Rattle.vme_script.specs.Answers.{refuse}
use Rattle.vme_script.specs.Causes.{mailbox_refusal, refused_as}
use Rattle.vme_script.specs.MailboxTables.{is_mailbox_code}
use Rattle.vme_script.specs.BoardRanges.{is_within, share}
use Rattle.vme_faults.specs.Boards.{refusal_in}

-- the refusal of a judged value; an unknown one has none
abbrev pub mailbox_judged : Option (Result (Unit {0}) MailboxCause) → Option ConfigFault
mailbox_judged judged = option_and_then (λ result. refusal_in (refused_as mailbox_refusal result)) judged

-- the refusal of a code
abbrev pub code_refusal : ℕ → Option ConfigFault
code_refusal am = refusal_in (refuse (not (is_mailbox_code am)) BadMailbox)

-- the refusal of an address
abbrev pub address_refusal : ℕ → Option ConfigFault
address_refusal addr = refusal_in (refuse (not (addr % 4 == 0)) BadMailbox)

-- the refusal of a number of slots
abbrev pub slots_refusal : ℕ → Option ConfigFault
slots_refusal slots = refusal_in (refuse (not (nat_le 1 slots && nat_le slots 64)) BadMailbox)

-- the refusals of the known numbers of a mailbox, each at its key
abbrev pub number_refusals : Option ℕ → Option ℕ → Option ℕ → List (Key × Option ConfigFault)
number_refusals am addr slots =
    (keys.Am, option_and_then code_refusal am)
    ∷ (keys.Addr, option_and_then address_refusal addr)
    ∷ (keys.Slots, option_and_then slots_refusal slots)
    ∷ []

-- the first refusal of a board with a known width and known read-modify-writes, and else of bytes that are those of an
-- earlier mailbox
abbrev pub board_refusal : BoardRange → Option Width8To32 → Option Bool → List BoardRange → Option ConfigFault
board_refusal place width rmw earlier = first_of (
    option_and_then (λ w. refusal_in (refuse (not (answers_quads w)) BadMailbox)) width
    ∷ option_and_then (λ r. refusal_in (refuse (not r) BadMailbox)) rmw
    ∷ refusal_in (refuse (list_any (share place) earlier) BadMailbox)
    ∷ [])

-- the refusals of the bytes of a mailbox on a board: by its end, at the number of slots, and else by the board, at the
-- address
abbrev pub place_refusals : BoardRange → ℕ → Option Width8To32 → Option Bool → List BoardRange → List (Key × Option ConfigFault)
place_refusals place size width rmw earlier =
    (keys.Slots, refusal_in (refuse (not (is_within place size)) BadMailbox))
    ∷ (keys.Addr, if is_within place size then board_refusal place width rmw earlier else None)
    ∷ []
