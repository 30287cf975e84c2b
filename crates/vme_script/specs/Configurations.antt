-- Configurations: what a file configures, or its first refusal.
use Rattle.std.specs.Prelude.{ℕ, nat_lt, ◌==◌, List, length, Result, Ok}
use Rattle.vme_arbiter.specs.declared.kind.ArbiterKind.{ArbiterKind}
use Rattle.vme_memory.specs.Boards.{Board, zeros}
use Rattle.vme_script.specs.declared.board.BoardConfig.{BoardConfig}
use Rattle.vme_script.specs.declared.fault.ConfigFault.{ConfigFault}
use Rattle.vme_script.specs.declared.fault.ConfigFault.TheVariants.{NoBoard, TooMany}
use Rattle.vme_script.specs.declared.script.ScriptLine.{ScriptLine}
use Rattle.vme_script.specs.Answers.{◌>>=◌, refuse}
use Rattle.vme_config_toml.specs.Files.{FileValues}
use Rattle.vme_script.specs.Boards.{boards_after, entries_of, map_of}
use Rattle.vme_script.specs.Arbiters.{kind_named}
use Rattle.vme_script.specs.Schedules.{schedule_of}
use Rattle.vme_shared.specs.declared.mailbox.Mailbox.{Mailbox}
use Rattle.vme_script.specs.MailboxRefusals.{mailboxes_of}
use Rattle.vme_script.specs.Scripts.{scripts_of}

-- boards in order of slots, the scripts of their processors in the same order, arbiter, tries, schedule and rounds, and
-- the mailboxes, which scripts name by numbers from 1
pub record Configuration : Type 0 where
  pub boards : List BoardConfig
  pub scripts : List (List ScriptLine)
  pub arbiter : ArbiterKind
  pub tries : ℕ
  pub schedule : List (ℕ × ℕ)
  pub rounds : ℕ
  pub mailboxes : List Mailbox

-- the configuration of a file, or its first refusal, in this order
unfoldable pub configuration_of : FileValues → Result Configuration ConfigFault
configuration_of file = do
  _ ← refuse (length file.boards == 0) NoBoard
  _ ← refuse (nat_lt 21 (length file.boards)) TooMany
  boards ← boards_after 0 file.boards
  _ ← map_of (entries_of boards)
  arbiter ← kind_named file.arbiter
  schedule ← schedule_of boards file
  mailboxes ← mailboxes_of boards file.mailboxes
  scripts ← scripts_of (entries_of boards) mailboxes file.boards
  Ok (record {
    boards = boards;
    scripts = scripts;
    arbiter = arbiter;
    tries = file.tries;
    schedule = schedule;
    rounds = file.rounds;
    mailboxes = mailboxes;
  })

-- the memory of a board before anything is written: all its bytes are zero
abbrev pub opening_memory : BoardConfig → Board
opening_memory board = record { bytes = zeros board.entry.size; class = board.class }
