-- The configuration in a file is lawful, so its mailboxes are queues in the report whose text is written.
use Rattle.std.proofs.Common.{ℕ, ◌+◌, ◌<◌, List, length}
use Rattle.vme_object.specs.declared.history.Entry.{Entry}
use Rattle.vme_memory.specs.declared.command.BoardCmd.{BoardCmd}
use Rattle.vme_memory.specs.declared.reply.Reply.{Reply}
use Rattle.vme_shared.specs.MailboxSteps.{BoardMailbox}
use Rattle.vme_shared.specs.declared.status.Status.{Status}
use Rattle.vme_script.specs.Lawful.{IsLawful}
use Rattle.vme_run.specs.RunTexts.{IsRunText}
use Rattle.vme_engines.proofs.lemmas.Lawful.{read_lawful}
use Rattle.vme_runner.specs.DeclaredMailboxes.{IsDeclaredIn}
use Rattle.vme_runner.proofs.Queues.{IsQueue}
use Rattle.vme_runner.proofs.Declared.{declared_queue, has_history}

module _ (input text : List ℕ) (status : Status) (reported : IsRunText input text status) where
  -- the configuration in the file is lawful
  pub reported_lawful : IsLawful reported.config
  reported_lawful = read_lawful input reported.config reported.configures

  -- each mailbox that the file declares is a queue in the report
  pub reported_queue : (box : ℕ) (m : BoardMailbox) (h : List (Entry BoardCmd Reply))
      → IsDeclaredIn reported.config reported.report reported.order box m h → IsQueue reported.config reported.report box m h
  reported_queue box m h at = declared_queue reported.config reported.report reported.order box m h reported_lawful at

  -- each mailbox that the file declares has a history in the report
  pub reported_history : (k : ℕ) → k < length reported.config.mailboxes
      → (m : BoardMailbox) × (h : List (Entry BoardCmd Reply)) × IsDeclaredIn reported.config reported.report reported.order (k + 1) m h
  reported_history k less = has_history reported.config reported.report reported.order k reported_lawful less
