-- A new mailbox holds no word, and it is a queue in every legal and proper history.
use Rattle.std.proofs.Common.{◌≡◌, ℕ, ◌+◌, ◌-◌, ◌≤◌, ◌<◌, List, [], length, get_or, drop, replicate, slice_range, refl, ap, sym, ◌∙◌, arith}
use Rattle.std.proofs.lemmas.Grind.{same_number_lists}
use Rattle.std.proofs.lemmas.List.{get_or-replicate, get_or-take, get_or-drop, length-replicate}
use Rattle.vme_object.specs.declared.history.Entry.{Entry}
use Rattle.vme_object.specs.History.{IsLegal}
use Rattle.vme_cycle.specs.Functions.{number_of}
use Rattle.vme_memory.specs.declared.command.BoardCmd.{BoardCmd}
use Rattle.vme_memory.specs.declared.reply.Reply.{Reply}
use Rattle.vme_memory.specs.Boards.{Board, zeros}
use Rattle.vme_memory.specs.Locals.{board_step}
use Rattle.vme_shared.specs.Layout.{mailbox_len}
use Rattle.vme_shared.specs.MailboxSteps.{BoardMailbox, IsNewMailbox}
use Rattle.vme_shared.specs.Phases.{Idle, IsProper}
use Rattle.vme_shared.specs.Words.{all_idle, words_put, words_taken}
use Rattle.vme_shared.proofs.lemmas.Bytes.{number_in}
use Rattle.vme_shared.proofs.lemmas.MailboxSteps.{read_len}
use Rattle.vme_shared.proofs.lemmas.Ordered.{Holds, IsQueue, ordered}

-- each byte of a mailbox of zeros is zero
zero_byte : (bytes : List ℕ) (at len k : ℕ) → slice_range bytes at (at + len) ≡ zeros len → k < len → get_or bytes (at + k) 0 ≡ 0
unfolding zeros
zero_byte bytes at len k zero below =
    let there : get_or (slice_range bytes at (at + len)) k 0 ≡ get_or bytes (at + k) 0 =
    get_or-take (at + len - at) (drop at bytes) k 0 (omega arith) ∙ get_or-drop at bytes k 0 in
    sym there ∙ ap (λ xs. get_or xs k 0) zero ∙ get_or-replicate len k 0 0 below

-- each range of a mailbox of zeros is zero
zero_bytes : (bytes : List ℕ) (at len k n : ℕ) → at + len ≤ length bytes → slice_range bytes at (at + len) ≡ zeros len → k + n ≤ len
    → slice_range bytes (at + k) (at + k + n) ≡ replicate n 0
zero_bytes bytes at len k n within zero inside =
    let long : length (slice_range bytes (at + k) (at + k + n)) ≡ n = read_len bytes (at + k) n (omega arith) in
    same_number_lists _ _ (long ∙ sym (length-replicate n 0))
    (λ i below.
    let here : get_or (slice_range bytes (at + k) (at + k + n)) i 0 ≡ get_or bytes (at + k + i) 0 =
    get_or-take (at + k + n - (at + k)) (drop (at + k) bytes) i 0 (omega arith) ∙ get_or-drop (at + k) bytes i 0 in
    let add : at + k + i ≡ at + (k + i) = omega arith in
    here ∙ ap (λ a. get_or bytes a 0) add ∙ zero_byte bytes at len (k + i) zero (omega arith) ∙ sym (get_or-replicate n i 0 0 (omega arith)))

-- a new mailbox holds no word and its lock is free
pub opening : (board : Board) (m : BoardMailbox) → IsNewMailbox board m → Holds m board.bytes [] [] all_idle
opening board m new =
    let within = new.lies.within in
    let byte : (k n : ℕ) → k + n ≤ mailbox_len m.slots → number_in board.bytes (m.offset + k) n ≡ number_of (replicate n 0) =
    λ k n inside. ap number_of (zero_bytes board.bytes m.offset (mailbox_len m.slots) k n within new.zero inside) in
    let first : m.offset + 0 ≡ m.offset = omega arith in
    record {
      owner = 0;
      phase = Idle;
      is = refl;
      kept = record {
        put_count = byte 4 4 (omega arith);
        take_count = byte 8 4 (omega arith);
        small = omega arith;
        prefix = refl;
        ahead = omega arith;
        few = omega arith;
        words = λ n d from below. absurd (omega arith);
      };
      stands = ap (λ a. number_in board.bytes a 1) (sym first) ∙ byte 0 1 (omega arith);
      others = λ who apart. refl;
    }

-- in every legal and proper history a new mailbox is a queue
pub is_queue : (board : Board) (m : BoardMailbox) (h : List (Entry BoardCmd Reply)) → IsNewMailbox board m → IsLegal board_step board h → IsProper m h
    → IsQueue m (words_put m h) (words_taken m h)
is_queue board m h new legal proper = ordered m new.lies.some_slot board [] [] all_idle h (opening board m new) legal proper
