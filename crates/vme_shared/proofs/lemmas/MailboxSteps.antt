-- What an answered command does to a board's bytes.
use Rattle.std.proofs.Common.{◌≡◌, ℕ, ◌+◌, ◌≤◌, ◌⊎◌, true, List, [], ◌∷◌, length, slice_range, refl, ◌∙◌, arith, inl, inr}
use Rattle.std.proofs.lemmas.Bool.{cases_Bool, and_parts, leb-true, eqb-true}
use Rattle.std.proofs.lemmas.Grind.{common_steps}
use Rattle.std.specs.Str.{bytes_eq}
use Rattle.vme_cycle.specs.declared.modify.Modify as functions
use Rattle.vme_cycle.specs.declared.modify.Modify.TheVariants.{Set, Exchange, Add, Compare}
use Rattle.vme_cycle.specs.Functions.{number_of, with_top_bit, value, has_len}
use Rattle.vme_cycle.proofs.lemmas.Sums.{length-sum_of}
use Rattle.vme_memory.specs.declared.reply.Reply.{Reply}
use Rattle.vme_memory.specs.declared.reply.Reply.TheVariants.{Berr}
use Rattle.vme_memory.specs.Boards.{Board, bytes_after_write}
use Rattle.vme_memory.specs.Steps.{Command, LocalRead, LocalWrite, LocalModify, Read, Write, Modify, BlockRead, BlockWrite, can_answer, effect_of, fits, step, bytes_at}
use Rattle.vme_shared.specs.MailboxSteps.{offset_of, len_of}
use Rattle.vme_shared.specs.Phases.{Access, Sets, Reads, Writes, Others, access_of}
use Rattle.vme_shared.proofs.lemmas.Bytes.{number_in}

-- a range of bytes is overwritten by as many others
pub record Overwrites (bytes : List ℕ) (at len : ℕ) (after : List ℕ) : Type 0 where
  pub new : List ℕ
  pub count : length new ≡ len
  pub within : at + len ≤ length bytes
  pub is : after ≡ bytes_after_write bytes at new

-- what an access did to the bytes
abbrev pub Did : List ℕ → Access → List ℕ → Type 0
Did bytes (Sets at len old) after =
    (old ≡ number_in bytes at len)
    × (at + len ≤ length bytes)
    × (after ≡ bytes_after_write bytes at (with_top_bit (slice_range bytes at (at + len))))
Did bytes (Reads at len found) after = (found ≡ number_in bytes at len) × (after ≡ bytes)
Did bytes (Writes at len number) after =
    (new : List ℕ) × (length new ≡ len) × (number_of new ≡ number) × (at + len ≤ length bytes) × (after ≡ bytes_after_write bytes at new)
Did bytes Others after = Unit {0}

-- a range of bytes has its length
pub read_len : (bytes : List ℕ) (at len : ℕ) → at + len ≤ length bytes → length (slice_range bytes at (at + len)) ≡ len
read_len bytes at len within = grind (arith, common_steps)

-- a fact of both outcomes of a step holds after the step
step_by :
    (P : Reply × Board → Type 0) (board : Board) (command : Command) → (can_answer board command ≡ true → P (effect_of board command))
    → P (Berr, board) → P (step board command)
step_by P board command answered refused =
    elim (cases_Bool (can_answer board command)) [ inl can ↦ rw can (answered can) | inr cannot ↦ rw cannot refused ]

-- a command did to the bytes what its access states
pub did : (board : Board) (command : Command) → Did board.bytes (access_of command (step board command).0) (step board command).1.bytes
did board (LocalRead at len) = step_by (λ s. Did board.bytes (access_of (LocalRead at len) s.0) s.1.bytes) board (LocalRead at len) (λ can. tt) tt
did board (LocalWrite at new) = step_by (λ s. Did board.bytes (access_of (LocalWrite at new) s.0) s.1.bytes) board (LocalWrite at new) (λ can. tt) tt
did board (LocalModify at len f) =
    step_by (λ s. Did board.bytes (access_of (LocalModify at len f) s.0) s.1.bytes) board (LocalModify at len f) (λ can. tt) tt
did board (Read at len) = step_by (λ s. Did board.bytes (access_of (Read at len) s.0) s.1.bytes) board (Read at len) (λ can. (refl, refl)) tt
did board (Write at new) =
    step_by (λ s. Did board.bytes (access_of (Write at new) s.0) s.1.bytes) board (Write at new)
    (λ can. (new, refl, refl, leb-true _ _ (and_parts _ _ can).0, refl)) tt
did board (Modify at len Set) =
    step_by (λ s. Did board.bytes (access_of (Modify at len Set) s.0) s.1.bytes) board (Modify at len Set)
    (λ can. (refl, leb-true _ _ (and_parts _ _ (and_parts _ _ (and_parts _ _ (and_parts _ _ can).0).0).0).0, refl)) tt
did board (Modify at len (Exchange put)) =
    step_by (λ s. Did board.bytes (access_of (Modify at len (Exchange put)) s.0) s.1.bytes) board (Modify at len (Exchange put)) (λ can. tt) tt
did board (Modify at len (Add by)) =
    step_by (λ s. Did board.bytes (access_of (Modify at len (Add by)) s.0) s.1.bytes) board (Modify at len (Add by)) (λ can. tt) tt
did board (Modify at len (Compare expect put)) =
    step_by (λ s. Did board.bytes (access_of (Modify at len (Compare expect put)) s.0) s.1.bytes) board (Modify at len (Compare expect put)) (λ can. tt) tt
did board (BlockRead at len) = step_by (λ s. Did board.bytes (access_of (BlockRead at len) s.0) s.1.bytes) board (BlockRead at len) (λ can. tt) tt
did board (BlockWrite at new) = step_by (λ s. Did board.bytes (access_of (BlockWrite at new) s.0) s.1.bytes) board (BlockWrite at new) (λ can. tt) tt

-- a function writes as many bytes as it found
value_len : (f : functions.Modify) (old : List ℕ) (len : ℕ) → has_len f len ≡ true → length old ≡ len → length (value f old) ≡ len
value_len Set [] len fits long = long
value_len Set (byte ∷ old) len fits long = long
value_len (Exchange put) old len fits long = eqb-true _ _ fits
value_len (Add by) old len fits long = length-sum_of old by.items ∙ long
value_len (Compare expect put) old len fits long =
    elim (cases_Bool (bytes_eq old expect.items)) [ inl same ↦ rw same (eqb-true _ _ (and_parts _ _ fits).1) | inr other ↦ rw other long ]

-- at most the bytes of a range change
abbrev pub Changes : List ℕ → ℕ → ℕ → List ℕ → Type 0
Changes bytes at len after = (after ≡ bytes) ⊎ Overwrites bytes at len after

-- a write changes at most the bytes that it writes
write_changes : (board : Board) (at : ℕ) (new : List ℕ) → fits board at (length new) ≡ true
    → Changes board.bytes at (length new) (bytes_after_write board.bytes at new)
write_changes board at new fit = inr (record { new = new; count = refl; within = leb-true _ _ fit; is = refl })

-- a read-modify-write changes at most the bytes that it reads
modify_changes : (board : Board) (at len : ℕ) (f : functions.Modify) → fits board at len ≡ true → has_len f len ≡ true
    → Changes board.bytes at len (bytes_after_write board.bytes at (value f (bytes_at board at len)))
modify_changes board at len f fit has =
    let within = leb-true _ _ fit in
    inr (record { new = value f (bytes_at board at len); count = value_len f _ len has (read_len board.bytes at len within); within = within; is = refl })

-- a command changes at most its own bytes
pub changes : (board : Board) (command : Command) → Changes board.bytes (offset_of command) (len_of command) (step board command).1.bytes
changes board (LocalRead at len) = step_by (λ s. Changes board.bytes at len s.1.bytes) board (LocalRead at len) (λ can. inl refl) (inl refl)
changes board (LocalWrite at new) =
    step_by (λ s. Changes board.bytes at (length new) s.1.bytes) board (LocalWrite at new) (λ can. write_changes board at new (and_parts _ _ can).0) (inl refl)
changes board (LocalModify at len f) =
    step_by (λ s. Changes board.bytes at len s.1.bytes) board (LocalModify at len f)
    (λ can. modify_changes board at len f (and_parts _ _ (and_parts _ _ can).0).0 (and_parts _ _ can).1) (inl refl)
changes board (Read at len) = step_by (λ s. Changes board.bytes at len s.1.bytes) board (Read at len) (λ can. inl refl) (inl refl)
changes board (Write at new) =
    step_by (λ s. Changes board.bytes at (length new) s.1.bytes) board (Write at new) (λ can. write_changes board at new (and_parts _ _ can).0) (inl refl)
changes board (Modify at len f) =
    step_by (λ s. Changes board.bytes at len s.1.bytes) board (Modify at len f)
    (λ can. modify_changes board at len f (and_parts _ _ (and_parts _ _ (and_parts _ _ (and_parts _ _ can).0).0).0).0 (and_parts _ _ can).1) (inl refl)
changes board (BlockRead at len) = step_by (λ s. Changes board.bytes at len s.1.bytes) board (BlockRead at len) (λ can. inl refl) (inl refl)
changes board (BlockWrite at new) =
    step_by (λ s. Changes board.bytes at (length new) s.1.bytes) board (BlockWrite at new)
    (λ can. write_changes board at new (and_parts _ _ (and_parts _ _ (and_parts _ _ can).0).0).0) (inl refl)
