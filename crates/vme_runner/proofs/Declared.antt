-- Each mailbox that a lawful configuration declares is a queue in every report: it lies in its board, and only the lines
-- that name it touch it.
use Rattle.std.proofs.Common.{◌≡◌, ℕ, ◌+◌, ◌-◌, ◌<◌, List, length, slice_index_or, Some, refl, sym, subst, arith}
use Rattle.std.specs.Prelude.{slice_get}
use Rattle.std.proofs.lemmas.Option.{get_or_from_slice_get, slice_get_within}
use Rattle.vme_object.specs.declared.history.Entry.{Entry}
use Rattle.vme_memory.specs.declared.command.BoardCmd.{BoardCmd}
use Rattle.vme_memory.specs.declared.reply.Reply.{Reply}
use Rattle.vme_core.specs.Runs.{board_part}
use Rattle.vme_shared.specs.MailboxSteps.{BoardMailbox, LiesIn}
use Rattle.vme_shared.specs.declared.mailbox.Mailbox.{Mailbox}
use Rattle.vme_script.specs.declared.board_range.BoardRange.{BoardRange}
use Rattle.vme_script.specs.BoardRanges.{range_of}
use Rattle.vme_script.specs.declared.board.BoardConfig.{BoardConfig}
use Rattle.vme_script.specs.Boards.{entries_of}
use Rattle.vme_script.specs.Configurations.{Configuration, opening_memory}
use Rattle.vme_script.specs.Lawful.{IsLawful, IsLawfulMailbox}
use Rattle.vme_line_task.specs.Scripts.{mailbox_at}
use Rattle.vme_mailbox_laws.specs.Names.{IsMailboxOf}
use Rattle.vme_mailbox_laws.specs.Places.{on_board}
use Rattle.vme_mailbox_laws.proofs.lemmas.Lawful.{lies_at, lies_in, accepted}
use Rattle.vme_mailbox_laws.proofs.lemmas.LinesApart.{left_alone}
use Rattle.vme_threads.specs.declared.report.Report.{Report}
use Rattle.vme_threads.specs.OneOrder.{IsReportOfOneOrder}
use Rattle.vme_run.proofs.lemmas.Lists.{element_at}
use Rattle.vme_runner.specs.DeclaredMailboxes.{IsDeclaredIn}
use Rattle.vme_runner.proofs.Queues.{IsQueue, queue}

-- the mailbox with number k + 1 is the one at place k
named : (config : Configuration) (k : ℕ) (mailbox : Mailbox) → slice_get config.mailboxes k ≡ Some mailbox
    → mailbox_at config (k + 1) ≡ mailbox
named config k mailbox declared =
    let before : k + 1 - 1 ≡ k = omega arith in
    rw before (get_or_from_slice_get config.mailboxes k mailbox (record { am = 0; addr = 0; slots = 0 }) declared)

module _ (config : Configuration) (lawful : IsLawful config) (k : ℕ) (mailbox : Mailbox)
    (declared : slice_get config.mailboxes k ≡ Some mailbox) where
  -- the mailbox is lawful
  abbrev valid : IsLawfulMailbox config.boards mailbox
  valid = lawful.mailboxes k mailbox declared

  -- only the lines that name the mailbox touch its bytes
  mailbox_of : IsMailboxOf config (k + 1) valid.place.board (on_board mailbox valid.place)
  mailbox_of =
      let same = named config k mailbox declared in
      record {
        lies = rw same (lies_at config lawful mailbox valid);
        formed = rw same valid.numbers;
        lawful = rw same (accepted config lawful mailbox valid);
        others = λ who. left_alone config k who mailbox lawful declared valid;
      }

  -- the mailbox lies in the memory of its board
  memory_of : (own : BoardConfig)
      → LiesIn (opening_memory (slice_index_or config.boards valid.place.board own)) (on_board mailbox valid.place)
  memory_of own =
      rw (get_or_from_slice_get config.boards valid.place.board valid.board own valid.there) (lies_in config lawful mailbox valid)

  -- the mailbox has one place
  place_is : (place : BoardRange) → range_of (entries_of config.boards) mailbox ≡ Some place → valid.place ≡ place
  place_is place placed = let first = valid.placed in cc

-- each declared mailbox is a queue in every report
pub declared_queue : (config : Configuration) (report : Report) (is : IsReportOfOneOrder config report) (box : ℕ) (m : BoardMailbox)
    (h : List (Entry BoardCmd Reply)) → IsLawful config → IsDeclaredIn config report is box m h → IsQueue config report box m h
declared_queue config report is box m h lawful at =
    let found = valid config lawful at.index at.mailbox at.declared in
    let own = found.board in
    let same = place_is config lawful at.index at.mailbox at.declared at.place at.placed in
    let on = λ (p : BoardRange). on_board at.mailbox p in
    let is_mailbox : IsMailboxOf config (at.index + 1) at.place.board (on at.place) =
    subst (λ (p : BoardRange). IsMailboxOf config (at.index + 1) p.board (on p)) same
    (mailbox_of config lawful at.index at.mailbox at.declared) in
    let inside : LiesIn (opening_memory (slice_index_or config.boards at.place.board own)) (on at.place) =
    subst (λ (p : BoardRange). LiesIn (opening_memory (slice_index_or config.boards p.board own)) (on p)) same
    (memory_of config lawful at.index at.mailbox at.declared own) in
    let below : at.place.board < length config.boards =
    subst (λ (p : BoardRange). p.board < length config.boards) same (slice_get_within config.boards found.place.board found.board found.there) in
    let is_queue = queue config report lawful is (at.index + 1) at.place.board (on at.place) own below is_mailbox inside in
    subst (λ (b : ℕ). IsQueue config report b m h) (sym at.number)
    (subst (λ (n : BoardMailbox). IsQueue config report (at.index + 1) n h) (sym at.bytes)
    (subst (IsQueue config report (at.index + 1) (on at.place)) (sym at.history) is_queue))

-- each declared mailbox has a history in every report
pub has_history : (config : Configuration) (report : Report) (is : IsReportOfOneOrder config report) (k : ℕ) → IsLawful config
    → k < length config.mailboxes
    → (m : BoardMailbox) × (h : List (Entry BoardCmd Reply)) × IsDeclaredIn config report is (k + 1) m h
has_history config report is k lawful less =
    let mailbox = element_at config.mailboxes k less in
    let found = valid config lawful k mailbox.0 mailbox.1 in (
      on_board mailbox.0 found.place,
      board_part found.place.board is.run,
      record {
        index = k;
        number = refl;
        mailbox = mailbox.0;
        declared = mailbox.1;
        place = found.place;
        placed = found.placed;
        bytes = refl;
        history = refl;
      },
    )
