-- The keys of a configuration file: the kind and the default of each. An unknown key, an absent required key and a
-- value of another kind give None.
use Rattle.std.specs.Prelude.{ℕ, Bool, true, false, ◌==◌, List, [], ◌∷◌, Option, Some, None, codes}
use Rattle.std.specs.Option.{option_and_then}
use Rattle.toml.specs.Data.{Data, Members, as_str, as_bool, as_table}
use Rattle.vme_config_toml.specs.declared.file.ClassTable.{ClassTable}
use Rattle.vme_config_toml.specs.declared.file.MailboxTable.{MailboxTable}
use Rattle.vme_config_toml.specs.Files.{RangeValues, BoardValues, FileValues}
use Rattle.vme_config_toml.specs.Values.{whole, pair, list_of, required, optional, is_among, has_only}

infixl 10 ◌>>=◌
-- one value after another: None as soon as one is absent
abbrev pub ◌>>=◌ : {A B : Type 0} → Option A → (A → Option B) → Option B
o >>= f = option_and_then f o

-- continues if the test holds
abbrev pub when : Bool → Option (Unit {0})
when true = Some tt
when false = None

-- whether a name is a key of a board
unfoldable pub is_board_key : List ℕ → Bool
is_board_key name = is_among name (
    codes "slot" ∷ codes "level" ∷ codes "space" ∷ codes "base" ∷ codes "size" ∷ codes "width"
    ∷ codes "uat" ∷ codes "blt" ∷ codes "rmw" ∷ codes "supervisory" ∷ codes "script" ∷ [])

-- the keys of a range with their kinds and defaults: the extended space, and any code of it
unfoldable pub range_values : Members → Option RangeValues
range_values keys = do
  space ← optional as_str (codes "space") (codes "a32") keys
  base ← required whole (codes "base") keys
  size ← required whole (codes "size") keys
  supervisory ← optional as_bool (codes "supervisory") false keys
  Some (record { space = space; base = base; size = size; supervisory = supervisory })

-- the keys of a class with their kinds and defaults: a slave of 32 data lines with all three kinds of transfers; one
-- with fewer data lines has no unaligned transfers
unfoldable pub class_values : Members → Option ClassTable
class_values keys = do
  width ← optional whole (codes "width") 32 keys
  uat ← optional as_bool (codes "uat") (width == 32) keys
  blt ← optional as_bool (codes "blt") true keys
  rmw ← optional as_bool (codes "rmw") true keys
  Some (record { width = width; uat = uat; blt = blt; rmw = rmw })

-- the keys of a board with their kinds and defaults: request level 3, the highest, and an empty script
unfoldable pub board_values : Members → Option BoardValues
board_values keys = do
  _ ← when (has_only is_board_key keys)
  slot ← required whole (codes "slot") keys
  level ← optional whole (codes "level") 3 keys
  range ← range_values keys
  class ← class_values keys
  script ← optional as_str (codes "script") [] keys
  Some (record { slot = slot; level = level; range = range; class = class; script = script })

-- a board as an element of an array
abbrev pub board : Data → Option BoardValues
board value = option_and_then board_values (as_table value)

-- whether a name is a key of a mailbox
unfoldable pub is_mailbox_key : List ℕ → Bool
is_mailbox_key name = is_among name (codes "am" ∷ codes "addr" ∷ codes "slots" ∷ [])

-- the keys of a mailbox, all of them required
unfoldable pub mailbox_values : Members → Option MailboxTable
mailbox_values keys = do
  _ ← when (has_only is_mailbox_key keys)
  am ← required whole (codes "am") keys
  addr ← required whole (codes "addr") keys
  slots ← required whole (codes "slots") keys
  Some (record { am = am; addr = addr; slots = slots })

-- a mailbox as an element of an array
abbrev pub mailbox : Data → Option MailboxTable
mailbox value = option_and_then mailbox_values (as_table value)

-- whether a name is a key at the top of a file
unfoldable pub is_file_key : List ℕ → Bool
is_file_key name = is_among name (
    codes "arbiter" ∷ codes "tries" ∷ codes "schedule" ∷ codes "rounds" ∷ codes "board" ∷ codes "mailbox" ∷ [])

-- the keys at the top with their kinds and defaults: the priority arbiter, 1,000 tries, no turn, no round, no board, no
-- mailbox
unfoldable pub file_values : Members → Option FileValues
file_values keys = do
  _ ← when (has_only is_file_key keys)
  arbiter ← optional as_str (codes "arbiter") (codes "priority") keys
  tries ← optional whole (codes "tries") 1000 keys
  schedule ← optional (list_of pair) (codes "schedule") [] keys
  rounds ← optional whole (codes "rounds") 0 keys
  boards ← optional (list_of board) (codes "board") [] keys
  mailboxes ← optional (list_of mailbox) (codes "mailbox") [] keys
  Some (record {
    arbiter = arbiter;
    tries = tries;
    schedule = schedule;
    rounds = rounds;
    boards = boards;
    mailboxes = mailboxes;
  })
