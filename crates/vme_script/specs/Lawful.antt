-- What holds for every configuration.
use Rattle.std.specs.Prelude.{◌≡◌, ℕ, ◌+◌, ◌<◌, ◌≤◌, nat_le, true, false, List, length, Some, None, slice_get}
use Rattle.std.specs.List.{list_all}
use Rattle.vme_decode.specs.Lawful.{first_refusal}
use Rattle.vme_grammar.specs.Grammar.{IsOwnLine}
use Rattle.vme_memory.specs.Boards.{is_board_size}
use Rattle.vme_shared.specs.declared.mailbox.Mailbox.{Mailbox}
use Rattle.vme_shared.specs.Mailboxes.{IsMailbox}
use Rattle.vme_script.specs.declared.mailbox_numbers.MailboxNumbers.TheVariants.{Declared}
use Rattle.vme_script.specs.declared.board_range.BoardRange.{BoardRange}
use Rattle.vme_script.specs.MailboxTables.{is_mailbox_code, supports_mailboxes}
use Rattle.vme_script.specs.MailboxNumbers.{may_name}
use Rattle.vme_script.specs.BoardRanges.{range_of, share}
use Rattle.vme_script.specs.Contexts.{touches}
use Rattle.vme_script.specs.declared.board.BoardConfig.{BoardConfig}
use Rattle.vme_script.specs.declared.script.ScriptLine.{ScriptLine}
use Rattle.vme_script.specs.Boards.{entries_of}
use Rattle.vme_script.specs.Schedules.{has_boards, turns_of}
use Rattle.vme_script.specs.Scripts.{rules_of}
use Rattle.vme_script.specs.Configurations.{Configuration}

-- a board in one of the 21 slots of a backplane, on one of the four request levels, and of a lawful size
pub record IsLawfulBoard (board : BoardConfig) : Type 0 where
  pub first_slot : 1 ≤ board.slot
  pub last_slot : board.slot ≤ 21
  pub level : board.level ≤ 3
  pub size : is_board_size board.entry.size ≡ true

-- a mailbox with a lawful code and lawful numbers; all its bytes are within one board that its code selects, and that
-- board has quad bytes and read-modify-writes
pub record IsLawfulMailbox (boards : List BoardConfig) (mailbox : Mailbox) : Type 0 where
  pub code : is_mailbox_code mailbox.am ≡ true
  pub numbers : IsMailbox mailbox
  pub place : BoardRange
  pub placed : range_of (entries_of boards) mailbox ≡ Some place
  pub board : BoardConfig
  pub there : slice_get boards place.board ≡ Some board
  pub inside : place.offset + place.len ≤ board.entry.size
  pub able : supports_mailboxes board.class ≡ true

-- lawful boards, each in a slot of its own, whose ranges share no address; their scripts, in which each line is
-- allowed; lawful numbers and schedule; and lawful mailboxes that share no byte
pub record IsLawful (config : Configuration) : Type 0 where
  pub some : 0 < length config.boards
  pub most : length config.boards ≤ 21
  pub boards : (i : ℕ) (board : BoardConfig) → slice_get config.boards i ≡ Some board → IsLawfulBoard board
  pub apart :
      (i j : ℕ) (a b : BoardConfig) → slice_get config.boards i ≡ Some a → slice_get config.boards j ≡ Some b
      → a.slot ≡ b.slot → i ≡ j
  pub map : first_refusal (entries_of config.boards) ≡ None
  pub scripts : length config.scripts ≡ length config.boards
  pub lines : list_all (λ script. nat_le (length script) 1000) config.scripts ≡ true
  pub own :
      (i j : ℕ) (script : List ScriptLine) (line : ScriptLine) → slice_get config.scripts i ≡ Some script
      → slice_get script j ≡ Some line → IsOwnLine line.line
  pub tries : (1 ≤ config.tries) × (config.tries ≤ 1000000)
  pub rounds : config.rounds ≤ 1000000
  pub slots : has_boards config.boards config.schedule ≡ true
  pub turns : turns_of config.schedule ≤ 1000000
  pub few_mailboxes : length config.mailboxes ≤ 16
  pub mailboxes :
      (k : ℕ) (mailbox : Mailbox) → slice_get config.mailboxes k ≡ Some mailbox → IsLawfulMailbox config.boards mailbox
  pub own_bytes :
      (j k : ℕ) (a b : Mailbox) (p q : BoardRange) → slice_get config.mailboxes j ≡ Some a → slice_get config.mailboxes k ≡ Some b
      → range_of (entries_of config.boards) a ≡ Some p → range_of (entries_of config.boards) b ≡ Some q
      → share p q ≡ true → j ≡ k
  pub named :
      (i j : ℕ) (script : List ScriptLine) (line : ScriptLine) → slice_get config.scripts i ≡ Some script
      → slice_get script j ≡ Some line → may_name (Declared (length config.mailboxes)) line.line ≡ true
  pub free :
      (i j : ℕ) (script : List ScriptLine) (line : ScriptLine) → slice_get config.scripts i ≡ Some script
      → slice_get script j ≡ Some line → touches (rules_of (entries_of config.boards) config.mailboxes i) line.line ≡ false
