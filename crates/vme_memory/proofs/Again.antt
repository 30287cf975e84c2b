-- A read after a write at the same place replies with the bytes that were written.
use Rattle.std.proofs.Common.{◌≡◌, ℕ, ◌+◌, ◌≤◌, true, List, length, slice_range, refl, ap, ◌∙◌, arith, inl, inr}
use Rattle.std.proofs.lemmas.Bool.{cases_Bool, and_parts, leb-true}
use Rattle.std.proofs.lemmas.Grind.{common_steps}
use Rattle.vme_memory.specs.declared.reply.Reply.TheVariants.{Bytes, Done}
use Rattle.vme_memory.specs.Boards.{Board, bytes_after_write}
use Rattle.vme_memory.specs.Steps.{Command, can_answer, effect_of, read_at, write_at, step, LocalRead, LocalWrite, Read, Write, BlockRead, BlockWrite}

-- a write leaves the new bytes at their offset
same_bytes : (bytes new : List ℕ) (at : ℕ) → at + length new ≤ length bytes → slice_range (bytes_after_write bytes at new) at (at + length new) ≡ new
same_bytes bytes new at fits = grind (arith, common_steps)

-- a write keeps the number of bytes
same_len : (bytes new : List ℕ) (at : ℕ) → at + length new ≤ length bytes → length (bytes_after_write bytes at new) ≡ length bytes
same_len bytes new at fits = grind (arith, common_steps)

-- the board after a write that it carries out
after : Board → ℕ → List ℕ → Board
after board at new = record board { bytes = bytes_after_write board.bytes at new }

-- the step of a write that the board carries out leaves the board with the new bytes at their offset
left_there :
    (board : Board) (command : Command) (at : ℕ) (new : List ℕ) → can_answer board command ≡ true → effect_of board command ≡ write_at board at new
    → (step board command).1 ≡ after board at new
unfolding after
left_there board command at new can does = rw can (ap (λ p. p.1) does)

-- a read after a write at the same offset replies with the new bytes
read_there :
    (board : Board) (command : Command) (at : ℕ) (new : List ℕ) → at + length new ≤ length board.bytes → can_answer (after board at new) command ≡ true
    → effect_of (after board at new) command ≡ read_at (after board at new) at (length new)
    → (step (after board at new) command).0 ≡ Bytes (record { items = new })
unfolding after
read_there board command at new fits can does =
    rw can (ap (λ p. p.0) does ∙ ap (λ bytes. Bytes (record { items = bytes })) (same_bytes board.bytes new at fits))

-- the bytes of a write with the reply Done are read again at the same offset
pub written_again :
    (board : Board) (at : ℕ) (new : List ℕ) → (step board (Write at new)).0 ≡ Done
    → (step (step board (Write at new)).1 (Read at (length new))).0 ≡ Bytes (record { items = new })
unfolding after
written_again board at new done =
    elim (cases_Bool (can_answer board (Write at new))) [
      | inl can ↦
          let fit = leb-true (at + length new) (length board.bytes) (and_parts _ _ can).0 in
          rw (left_there board (Write at new) at new can refl)
          (read_there board (Read at (length new)) at new fit (rw (same_len board.bytes new at fit) can) refl)
      | inr refused ↦ let bad = rw refused at done in cc
    ]

-- the bytes of a write in a block with the reply Done are read again in a block at the same offset
pub block_again :
    (board : Board) (at : ℕ) (new : List ℕ) → (step board (BlockWrite at new)).0 ≡ Done
    → (step (step board (BlockWrite at new)).1 (BlockRead at (length new))).0 ≡ Bytes (record { items = new })
unfolding after
block_again board at new done =
    elim (cases_Bool (can_answer board (BlockWrite at new))) [
      | inl can ↦
          let fit = leb-true (at + length new) (length board.bytes) (and_parts _ _ (and_parts _ _ (and_parts _ _ can).0).0).0 in
          rw (left_there board (BlockWrite at new) at new can refl)
          (read_there board (BlockRead at (length new)) at new fit (rw (same_len board.bytes new at fit) can) refl)
      | inr refused ↦ let bad = rw refused at done in cc
    ]

-- the bytes of a local write with the reply Done are read again by the local port at the same offset
pub local_again :
    (board : Board) (at : ℕ) (new : List ℕ) → (step board (LocalWrite at new)).0 ≡ Done
    → (step (step board (LocalWrite at new)).1 (LocalRead at (length new))).0 ≡ Bytes (record { items = new })
unfolding after
local_again board at new done =
    elim (cases_Bool (can_answer board (LocalWrite at new))) [
      | inl can ↦
          let fit = leb-true (at + length new) (length board.bytes) (and_parts _ _ can).0 in
          rw (left_there board (LocalWrite at new) at new can refl)
          (read_there board (LocalRead at (length new)) at new fit (rw (same_len board.bytes new at fit) can) refl)
      | inr refused ↦ let bad = rw refused at done in cc
    ]
