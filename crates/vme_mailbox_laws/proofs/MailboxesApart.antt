-- A put or a take stays among the bytes of its mailbox, and different mailboxes share no byte.
use Rattle.std.proofs.Common.{◌≡◌, ℕ, ◌+◌, ◌-◌, ◌*◌, ◌≤◌, true, false, List, length, Option, Some, None, Result, Ok, Err, ap, sym, subst, ◌∙◌, arith, inl, inr}
use Rattle.std.specs.Prelude.{nat_le, ◌==◌, option_map, slice_get}
use Rattle.std.proofs.lemmas.Bool.{and_parts, leb-true, eq-eqb, true≢false, false_from_ne_true}
use Rattle.std.proofs.lemmas.Option.{slice_get_cases, get_or_from_slice_get}
use Rattle.vme_am.specs.declared.code.AmFault.{AmFault}
use Rattle.vme_am.specs.Codes.{CodeRow, read_code}
use Rattle.vme_decode.specs.declared.entry.Entry.{Entry}
use Rattle.vme_decode.specs.Select.{selection_at}
use Rattle.vme_memory.specs.Steps.{Command}
use Rattle.vme_core.specs.Calls.{OnBoard}
use Rattle.vme_shared.specs.declared.mailbox.Mailbox.{Mailbox}
use Rattle.vme_shared.specs.declared.request.SharedRequest.{SharedRequest}
use Rattle.vme_mailbox_laws.specs.Along.{mailbox_in, IsWithin}
use Rattle.vme_mailbox_laws.proofs.Within.{within}
use Rattle.vme_script.specs.declared.mailbox_numbers.MailboxNumbers.TheVariants.{Declared}
use Rattle.vme_script.specs.declared.board_range.BoardRange.{BoardRange}
use Rattle.vme_script.specs.MailboxNumbers.{has_box}
use Rattle.vme_script.specs.BoardRanges.{range_by, range_at, range_of, share}
use Rattle.vme_script.specs.Boards.{entries_of}
use Rattle.vme_script.specs.Configurations.{Configuration}
use Rattle.vme_script.specs.Lawful.{IsLawful, IsLawfulMailbox}
use Rattle.vme_line_task.specs.Scripts.{mailbox_at, shared_job, shared_attempt}
use Rattle.vme_mailbox_laws.specs.Places.{on_board}
use Rattle.vme_mailbox_laws.proofs.lemmas.Lawful.{lies_at}
use Rattle.vme_mailbox_laws.proofs.Apart.{IsAmong}
use Rattle.vme_mailbox_laws.proofs.CallsApart.{Calls}
use Rattle.vme_mailbox_laws.proofs.SendsApart.{shared_calls}

-- the range of a mailbox has all its bytes
found_len : (found : Option (ℕ × ℕ)) (len : ℕ) (place : BoardRange)
    → option_map (λ one. record { board = one.0; offset = one.1; len = len }) found ≡ Some place → place.len ≡ len
found_len None len place is = absurd cc
found_len (Some one) len place is =
    let same : record { board = one.0; offset = one.1; len = len } ≡ place = cc in
    ap (λ (p : BoardRange). p.len) (sym same)

-- the range of a mailbox by its code has all its bytes
row_len : (entries : List Entry) (row : Result CodeRow AmFault) (addr len : ℕ) (place : BoardRange)
    → range_by entries row addr len ≡ Some place → place.len ≡ len
row_len entries (Ok code) addr len place is = found_len (selection_at entries code addr) len place is
row_len entries (Err fault) addr len place is = absurd cc

-- the range of a mailbox has the lock, the counts and all words
pub place_len : (entries : List Entry) (mailbox : Mailbox) (place : BoardRange) → range_of entries mailbox ≡ Some place
    → place.len ≡ 16 + 4 * mailbox.slots
unfolding range_at
place_len entries mailbox place is = row_len entries (read_code mailbox.am) mailbox.addr (16 + 4 * mailbox.slots) place is

module _ (config : Configuration) (lawful : IsLawful config) where
  -- a mailbox that a line may name is declared
  pub declared : (box : ℕ) → has_box (Declared (length config.mailboxes)) box ≡ true
      → (other : Mailbox) × (slice_get config.mailboxes (box - 1) ≡ Some other) × (mailbox_at config box ≡ other) × (1 ≤ box)
  declared box may =
      let range = and_parts (nat_le 1 box) (nat_le box (length config.mailboxes)) may in
      let first = leb-true 1 box range.0 in
      let last = leb-true box (length config.mailboxes) range.1 in
      elim (slice_get_cases config.mailboxes (box - 1)).1 [
        | inl found ↦ (
          found.0,
          found.2,
          get_or_from_slice_get config.mailboxes (box - 1) found.0 (record { am = 0; addr = 0; slots = 0 }) found.2,
          first,
        )
        | inr past ↦ absurd (omega (arith, past.0, first, last))
      ]

  -- mailboxes with different numbers share no byte
  pub others_apart : (box k : ℕ) (other mailbox : Mailbox) (theirs : IsLawfulMailbox config.boards other)
      (mine : IsLawfulMailbox config.boards mailbox) → slice_get config.mailboxes (box - 1) ≡ Some other → 1 ≤ box
      → slice_get config.mailboxes k ≡ Some mailbox → (box == k + 1) ≡ false → share theirs.place mine.place ≡ false
  others_apart box k other mailbox theirs mine there first here distinct =
      false_from_ne_true (share theirs.place mine.place) (λ shares.
      let same : box - 1 ≡ k =
      lawful.own_bytes (box - 1) k other mailbox theirs.place mine.place there here theirs.placed mine.placed shares in
      let equal : box ≡ k + 1 = omega arith in
      true≢false (sym (eq-eqb box (k + 1) equal) ∙ distinct))

  -- the commands of a put or a take are among the bytes of its mailbox
  pub box_sends : (who : ℕ) (request : SharedRequest) (other : Mailbox) (theirs : IsLawfulMailbox config.boards other)
      (x : ℕ) (c : Command) → mailbox_in request ≡ Some other
      → Calls (shared_attempt config who request) (OnBoard x (Some c)) → IsAmong theirs.place x c
  box_sends who request other theirs x c named calls =
      let own = (shared_calls config who request (OnBoard x (Some c)) calls).0 in
      let is =
      within (shared_job config who request) own.0 other theirs.place.board x (on_board other theirs.place) (Some c) named
      (lies_at config lawful other theirs) theirs.numbers.some_slot own.1 in
      let same : c ≡ is.1.0 = cc in
      let inside : IsWithin (on_board other theirs.place) c =
      subst (λ d. IsWithin (on_board other theirs.place) d) (sym same) is.1.2 in
      let len = place_len (entries_of config.boards) other theirs.place theirs.placed in
      record { there = sym is.0; from = inside.from; upto = omega (arith, inside.to, len) }
