-- The first of all refusals of a mailbox is the one with which the file is refused.
use Rattle.std.proofs.Common.{◌≡◌, ◌%◌, Bool, true, false, [], ◌∷◌, Option, Some, None, Ok, refl, List}
use Rattle.std.specs.Prelude.{nat_le, not, ◌==◌, ◌&&◌, if◌then◌else◌, slice_get, map}
use Rattle.std.specs.List.{list_any}
use Rattle.std.specs.Option.{ok_or, option_and_then}
use Rattle.vme_cycle.specs.Refusals.{first_of}
use Rattle.vme_memory.specs.Classes.{answers_quads}
use Rattle.vme_config_toml.specs.declared.file.MailboxTable.{MailboxTable}
use Rattle.vme_config_toml.specs.Keys.{when}
use Rattle.vme_script.specs.declared.board.BoardConfig.{BoardConfig}
use Rattle.vme_script.specs.declared.board_range.BoardRange.{BoardRange}
use Rattle.vme_script.specs.declared.fault.ConfigFault.TheVariants.{BadMailbox}
use Rattle.vme_script.specs.Answers.{◌>>=◌, refuse}
use Rattle.vme_script.specs.Boards.{entries_of}
use Rattle.vme_script.specs.BoardRanges.{range_of, is_within, share}
use Rattle.vme_script.specs.MailboxTables.{is_mailbox_code, mailbox_from_table}
use Rattle.vme_script.specs.MailboxRefusals.{declared_mailbox}
use Rattle.vme_faults.specs.Boards.{refusal_in}
use Rattle.vme_faults.specs.Mailboxes.{number_refusals, place_refusals}

-- the refusals of three numbers
three_first :
    {A : Type 0} (code aligned some : Bool) (x : A)
    → refusal_in (ok_or (option_and_then (λ a. option_and_then (λ b. option_and_then (λ c. Some x) (when some)) (when aligned)) (when code)) BadMailbox)
    ≡ first_of (refusal_in (refuse (not code) BadMailbox) ∷ refusal_in (refuse (not aligned) BadMailbox)
    ∷ refusal_in (refuse (not some) BadMailbox) ∷ [])
three_first false aligned some x = refl
three_first true false some x = refl
three_first true true false x = refl
three_first true true true x = refl

-- the refusal of a mailbox's numbers is the first of all
pub numbers_first :
    (table : MailboxTable)
    → refusal_in (ok_or (mailbox_from_table table) BadMailbox)
    ≡ first_of (map (λ refusal. refusal.1) (number_refusals (Some table.am) (Some table.addr) (Some table.slots)))
unfolding mailbox_from_table
numbers_first table =
    three_first (is_mailbox_code table.am) (table.addr % 4 == 0) (nat_le 1 table.slots && nat_le table.slots 64)
    _

-- the refusals of the bytes of a mailbox
place_first :
    {A : Type 0} (inside quads rmw shared : Bool) (x : A)
    → refusal_in (refuse (not inside) BadMailbox >>= (λ a. refuse (not (quads && rmw)) BadMailbox >>= (λ b.
    refuse shared BadMailbox >>= (λ c. Ok x))))
    ≡ first_of (refusal_in (refuse (not inside) BadMailbox)
    ∷ (if inside then first_of (refusal_in (refuse (not quads) BadMailbox) ∷ refusal_in (refuse (not rmw) BadMailbox)
    ∷ refusal_in (refuse shared BadMailbox) ∷ []) else None) ∷ [])
place_first false quads rmw shared x = refl
place_first true false rmw shared x = refl
place_first true true false shared x = refl
place_first true true true false x = refl
place_first true true true true x = refl

-- if a value leads to another, both are present
parts : {A B : Type 0} (f : A → Option B) (x : Option A) (y : B) → option_and_then f x ≡ Some y → (a : A) × (x ≡ Some a) × (f a ≡ Some y)
parts f None y e = cc
parts f (Some a) y e = (a, refl, e)

-- the refusal of a mailbox whose numbers are lawful and whose first byte is on a board is the first of those of its bytes
pub bytes_first :
    (boards : List BoardConfig) (earlier : List BoardRange) (table : MailboxTable) (place : BoardRange) (board : BoardConfig)
    → option_and_then (range_of (entries_of boards)) (mailbox_from_table table) ≡ Some place
    → slice_get boards place.board ≡ Some board
    → refusal_in (declared_mailbox boards earlier table)
    ≡ first_of (map (λ refusal. refusal.1)
    (place_refusals place board.entry.size (Some board.class.width) (Some board.class.rmw) earlier))
unfolding declared_mailbox
bytes_first boards earlier table place board placed there =
    let found = parts (range_of (entries_of boards)) (mailbox_from_table table) place placed in
    rw (found.1, found.2, there)
    (place_first (is_within place board.entry.size) (answers_quads board.class.width) board.class.rmw
    (list_any (share place) earlier) (found.0, place))
