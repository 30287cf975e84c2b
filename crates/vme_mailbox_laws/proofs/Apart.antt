-- A command does not touch a mailbox if its bytes are among those of a range that shares none with the mailbox.
use Rattle.std.proofs.Common.{◌≡◌, ℕ, ◌+◌, ◌<◌, ◌≤◌, true, false, sym, ◌∙◌, arith}
use Rattle.std.specs.Prelude.{nat_lt, ◌&&◌, min, max}
use Rattle.std.proofs.lemmas.Bool.{and_parts, and_from, ltb-true, lt-ltb, eq-eqb, true≢false, false_from_ne_true}
use Rattle.vme_memory.specs.Steps.{Command}
use Rattle.vme_shared.specs.Layout.{mailbox_len}
use Rattle.vme_shared.specs.MailboxSteps.{BoardMailbox, end_of, offset_of, len_of, touches}
use Rattle.vme_script.specs.declared.board_range.BoardRange.{BoardRange}
use Rattle.vme_script.specs.BoardRanges.{share}

-- the bytes of a command to a board are among those of a range
pub record IsAmong (bytes : BoardRange) (board : ℕ) (c : Command) : Type 0 where
  pub there : bytes.board ≡ board
  pub from : bytes.offset ≤ offset_of c
  pub upto : offset_of c + len_of c ≤ bytes.offset + bytes.len

-- two ranges of one board share a byte if each begins before the other ends
share_by : (a b : BoardRange) → a.board ≡ b.board → 0 < a.len → 0 < b.len → a.offset < b.offset + b.len → b.offset < a.offset + a.len
    → share a b ≡ true
share_by a b board some_a some_b before behind =
    let both : max a.offset b.offset < min (a.offset + a.len) (b.offset + b.len) = omega arith in
    and_from _ _ (eq-eqb a.board b.board board) (lt-ltb _ _ both)

-- a command among the bytes of a range that shares none with a mailbox does not touch the mailbox
pub beside : (bytes mine : BoardRange) (m : BoardMailbox) (c : Command) → IsAmong bytes mine.board c → mine.offset ≡ m.offset
    → mine.len ≡ mailbox_len m.slots → share bytes mine ≡ false → touches m c ≡ false
beside bytes mine m c among at long apart =
    false_from_ne_true (touches m c) (λ touching.
    let outer =
    and_parts (nat_lt 0 (len_of c) && nat_lt (offset_of c) (end_of m)) (nat_lt m.offset (offset_of c + len_of c)) touching in
    let inner = and_parts (nat_lt 0 (len_of c)) (nat_lt (offset_of c) (end_of m)) outer.0 in
    let some : 0 < len_of c = ltb-true 0 (len_of c) inner.0 in
    let before : offset_of c < end_of m = ltb-true (offset_of c) (end_of m) inner.1 in
    let behind : m.offset < offset_of c + len_of c = ltb-true m.offset (offset_of c + len_of c) outer.1 in
    let from = among.from in
    let upto = among.upto in
    true≢false (sym (share_by bytes mine among.there (omega arith) (omega arith) (omega arith) (omega arith)) ∙ apart))
