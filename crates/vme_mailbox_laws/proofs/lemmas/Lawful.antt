-- The mailboxes of a lawful configuration lie in their boards.
use Rattle.std.proofs.Common.{◌≡◌, ℕ, ◌+◌, ◌*◌, ◌%◌, ◌≤◌, true, List, length, Option, Some, None, Result, Ok, Err, refl, ap, sym, subst, ◌∙◌, arith}
use Rattle.std.specs.Prelude.{slice_get, option_map}
use Rattle.std.proofs.lemmas.Bool.{and_parts}
use Rattle.std.proofs.lemmas.List.{length-replicate}
use Rattle.std.proofs.lemmas.Option.{slice_get-map}
use Rattle.vme_am.specs.declared.code.AmFault.{AmFault}
use Rattle.vme_am.specs.Codes.{CodeRow, read_code}
use Rattle.vme_decode.specs.declared.entry.Entry.{Entry}
use Rattle.vme_decode.specs.Select.{selection_at}
use Rattle.vme_decode.proofs.lemmas.Selection.{place_responds, responds_place, place_remainder}
use Rattle.vme_memory.specs.declared.class.Width8To32.{Width8To32}
use Rattle.vme_memory.specs.declared.class.Width8To32.TheVariants.{D08, D16, D32}
use Rattle.vme_memory.specs.Boards.{zeros}
use Rattle.vme_memory.specs.Classes.{answers_quads}
use Rattle.vme_shared.specs.MailboxSteps.{LiesIn}
use Rattle.vme_shared.specs.declared.mailbox.Mailbox.{Mailbox}
use Rattle.vme_shared.specs.Mailboxes.{mailbox_refusal}
use Rattle.vme_mailbox_laws.specs.Along.{LiesAt}
use Rattle.vme_script.specs.declared.board_range.BoardRange.{BoardRange}
use Rattle.vme_script.specs.BoardRanges.{range_by, range_at, range_of}
use Rattle.vme_mailbox_laws.specs.Places.{on_board}
use Rattle.vme_mailbox_laws.proofs.Refusals.{not_refused}
use Rattle.vme_script.specs.declared.board.BoardConfig.{BoardConfig}
use Rattle.vme_script.specs.Boards.{entries_of}
use Rattle.vme_script.specs.Configurations.{Configuration, opening_memory}
use Rattle.vme_script.specs.Lawful.{IsLawful, IsLawfulMailbox}

-- the zero bytes of a size are as many as the size
zeros_len : (size : ℕ) → length (zeros size) ≡ size
unfolding zeros
zeros_len size = length-replicate size 0

-- the range of a mailbox begins where its first byte is selected
placed : (entries : List Entry) (mailbox : Mailbox) (place : BoardRange) (code : CodeRow) → range_of entries mailbox ≡ Some place
    → read_code mailbox.am ≡ Ok code → selection_at entries code mailbox.addr ≡ Some (place.board, place.offset)
unfolding range_at
placed entries mailbox place code is row =
    by_found (selection_at entries code mailbox.addr) (16 + 4 * mailbox.slots) place
    (ap (λ r. range_by entries r mailbox.addr (16 + 4 * mailbox.slots)) (sym row) ∙ is)
  where
    by_found : (found : Option (ℕ × ℕ)) (len : ℕ) (place : BoardRange)
        → option_map (λ one. record { board = one.0; offset = one.1; len = len }) found ≡ Some place → found ≡ Some (place.board, place.offset)
    by_found None len place is = absurd cc
    by_found (Some one) len place is =
        let same : record { board = one.0; offset = one.1; len = len } ≡ place = cc in
        ap (λ (p : BoardRange). Some (p.board, p.offset)) same

-- an entry of the map is that of its board
own_entry : (boards : List BoardConfig) (k : ℕ) (board : BoardConfig) (entry : Entry) → slice_get boards k ≡ Some board
    → slice_get (entries_of boards) k ≡ Some entry → entry ≡ board.entry
own_entry boards k board entry there is =
    let mapped : slice_get (entries_of boards) k ≡ Some board.entry = slice_get-map (λ (b : BoardConfig). b.entry) boards k ∙ ap (option_map (λ (b : BoardConfig). b.entry)) there in
    cc

-- a board that answers quad bytes has 32 data lines
quads : (width : Width8To32) → answers_quads width ≡ true → width ≡ D32
quads D08 able = absurd cc
quads D16 able = absurd cc
quads D32 able = refl

module _ (config : Configuration) (lawful : IsLawful config) (mailbox : Mailbox) (fine : IsLawfulMailbox config.boards mailbox) where
  -- the range of a mailbox has the lock, the counts and all words
  len_is : fine.place.len ≡ 16 + 4 * mailbox.slots
  unfolding range_at
  len_is = by_found (read_code mailbox.am) fine.placed
    where
      by_found : (row : Result CodeRow AmFault) → range_by (entries_of config.boards) row mailbox.addr (16 + 4 * mailbox.slots) ≡ Some fine.place
          → fine.place.len ≡ 16 + 4 * mailbox.slots
      by_found (Ok code) is = by_one (selection_at (entries_of config.boards) code mailbox.addr) is
        where
          by_one : (found : Option (ℕ × ℕ))
              → option_map (λ one. record { board = one.0; offset = one.1; len = 16 + 4 * mailbox.slots }) found ≡ Some fine.place
              → fine.place.len ≡ 16 + 4 * mailbox.slots
          by_one None is = absurd cc
          by_one (Some one) is =
              let same : record { board = one.0; offset = one.1; len = 16 + 4 * mailbox.slots } ≡ fine.place = cc in
              ap (λ (p : BoardRange). p.len) (sym same)
      by_found (Err fault) is = absurd cc

  -- each address of the mailbox selects its board
  pub lies_at : LiesAt (entries_of config.boards) mailbox fine.place.board (on_board mailbox fine.place)
  lies_at = record {
    slots = refl;
    each = λ code k row below.
        let first = placed (entries_of config.boards) mailbox fine.place code fine.placed row in
        let falls = place_responds (entries_of config.boards) code mailbox.addr fine.place.board fine.place.offset first in
        let same = own_entry config.boards fine.place.board fine.board falls.entry fine.there falls.there in
        let size : falls.entry.size ≡ fine.board.entry.size = ap (λ (e : Entry). e.size) same in
        let distance = falls.distance in
        let inside = fine.inside in
        let len = len_is in
        responds_place (entries_of config.boards) code (mailbox.addr + k) fine.place.board (fine.place.offset + k) lawful.map
        (record {
          entry = falls.entry;
          there = falls.there;
          space = falls.space;
          admits = falls.admits;
          distance = omega arith;
          within = omega arith;
        });
  }

  -- the mailbox's offset is a multiple of four
  offset_is : fine.place.offset % 4 ≡ 0
  unfolding range_at
  offset_is = by_row (read_code mailbox.am) refl fine.placed
    where
      by_row : (row : Result CodeRow AmFault) → read_code mailbox.am ≡ row
          → range_by (entries_of config.boards) row mailbox.addr (16 + 4 * mailbox.slots) ≡ Some fine.place → fine.place.offset % 4 ≡ 0
      by_row (Ok code) is found =
          place_remainder (entries_of config.boards) code mailbox.addr fine.place.board fine.place.offset lawful.map
          (placed (entries_of config.boards) mailbox fine.place code fine.placed is)
          ∙ fine.numbers.aligned
      by_row (Err fault) is found = absurd cc

  -- the mailbox lies wholly in its board's memory
  pub lies_in : LiesIn (opening_memory fine.board) (on_board mailbox fine.place)
  lies_in =
      let able = and_parts (answers_quads fine.board.class.width) fine.board.class.rmw fine.able in
      let inside : fine.place.offset + (16 + 4 * mailbox.slots) ≤ fine.board.entry.size = let i = fine.inside in let len = len_is in omega arith in
      record {
        width = quads fine.board.class.width able.0;
        rmw = able.1;
        place = offset_is;
        some_slot = fine.numbers.some_slot;
        few_slots = fine.numbers.few_slots;
        within = subst (λ n. fine.place.offset + (16 + 4 * mailbox.slots) ≤ n) (sym (zeros_len fine.board.entry.size)) inside;
      }

  -- no transfer of the mailbox is refused
  pub accepted : mailbox_refusal mailbox ≡ None
  accepted =
      not_refused (entries_of config.boards) mailbox fine.place.board (on_board mailbox fine.place) lawful.map lies_at fine.numbers fine.code
