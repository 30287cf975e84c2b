-- A board that answers quad-byte cycles and read-modify-writes answers the command of each stage.
use Rattle.std.proofs.Common.{◌≡◌, ◌≢◌, ℕ, ◌+◌, ◌%◌, ◌≤◌, true, List, [], ◌∷◌, length, Some, refl, sym, arith}
use Rattle.std.proofs.lemmas.Bool.{and_from, le-leb, eq-eqb}
use Rattle.vme_lanes.specs.Rows.{location_at}
use Rattle.vme_lanes.proofs.lemmas.Tables.{own_found}
use Rattle.vme_lanes.specs.declared.location.Location.TheVariants.{Byte0, Bytes03}
use Rattle.vme_cycle.specs.declared.modify.Modify.TheVariants.{Set}
use Rattle.vme_cycle.specs.Functions.{number_bytes}
use Rattle.vme_memory.specs.declared.reply.Reply.TheVariants.{Berr}
use Rattle.vme_memory.specs.Boards.{Board}
use Rattle.vme_memory.specs.Steps.{Read, Write, Modify, fits, has_cycle, can_answer, step}
use Rattle.vme_shared.specs.MailboxSteps as places
use Rattle.vme_shared.specs.MailboxSteps.{BoardMailbox, LiesIn, end_of}
use Rattle.vme_shared.proofs.lemmas.Places.{rest_below}
use Rattle.vme_shared.specs.declared.stage.Stage.{Stage}
use Rattle.vme_shared.specs.declared.stage.Stage.TheVariants.{Locks, ReadsPutCount, ReadsTakeCount, WritesWord, RaisesPutCount, ReadsWord, RaisesTakeCount, Unlocks}
use Rattle.vme_shared.specs.Mailboxes.{raised}
use Rattle.vme_mailbox_laws.proofs.Stages.{stage_command}

-- the reply to a command that the board can answer is no bus error
read_answered : (board : Board) (at len : ℕ) → can_answer board (Read at len) ≡ true → (step board (Read at len)).0 ≢ Berr
read_answered board at len can error = let is = rw can at error in cc

-- the reply to a write that the board can answer is no bus error
write_answered : (board : Board) (at : ℕ) (new : List ℕ) → can_answer board (Write at new) ≡ true → (step board (Write at new)).0 ≢ Berr
write_answered board at new can error = let is = rw can at error in cc

module _ (board : Board) (m : BoardMailbox) (lies : LiesIn board m) where
  -- four bytes at a multiple of four have the location of a quad byte
  quad_there : (at : ℕ) → at % 4 ≡ 0 → location_at at 4 ≡ Some Bytes03
  quad_there at place = own_found Bytes03 at (sym place)

  -- the board can answer a read of four bytes of the mailbox at a multiple of four
  quad : (at : ℕ) → at % 4 ≡ 0 → at + 4 ≤ end_of m → can_answer board (Read at 4) ≡ true
  quad at place below =
      let within = lies.within in
      and_from _ _ (le-leb (at + 4) (length board.bytes) (omega arith)) (rw (quad_there at place) (rw lies.width refl))

  -- the board can answer a write of four bytes of the mailbox at a multiple of four
  quad_written : (at n : ℕ) → at % 4 ≡ 0 → at + 4 ≤ end_of m → can_answer board (Write at (number_bytes 4 n)) ≡ true
  quad_written at n place below =
      let within = lies.within in
      and_from _ _ (le-leb (at + 4) (length board.bytes) (omega arith)) (rw (quad_there at place) (rw lies.width refl))

  -- one byte at a multiple of four has the location of byte 0
  byte_there : (at : ℕ) → at % 4 ≡ 0 → location_at at 1 ≡ Some Byte0
  byte_there at place = own_found Byte0 at (sym place)

  -- the board can answer the read-modify-write that sets the lock
  set_answered : can_answer board (Modify (places.lock_at m) 1 Set) ≡ true
  set_answered =
      let within = lies.within in
      let fit : fits board (places.lock_at m) 1 ≡ true = le-leb (places.lock_at m + 1) (length board.bytes) (omega arith) in
      let cycle : has_cycle board (places.lock_at m) 1 ≡ true = rw (byte_there (places.lock_at m) lies.place) refl in
      let whole : places.lock_at m % 1 ≡ 0 = omega arith in
      and_from _ _ (and_from _ _ (and_from _ _ (and_from _ _ fit cycle) (eq-eqb (places.lock_at m % 1) 0 whole)) lies.rmw) refl

  -- the board can answer the write that clears the lock
  clear_answered : can_answer board (Write (places.lock_at m) (0 ∷ [])) ≡ true
  clear_answered =
      let within = lies.within in
      and_from _ _ (le-leb (places.lock_at m + 1) (length board.bytes) (omega arith)) (rw (byte_there (places.lock_at m) lies.place) refl)

  -- the reply to each stage's command is no bus error
  pub stage_answered : (stage : Stage) → (step board (stage_command m stage)).0 ≢ Berr
  stage_answered Locks error = let is = rw set_answered at error in cc
  stage_answered ReadsPutCount error = let place = lies.place in read_answered board _ 4 (quad (places.put_count_at m) (omega arith) (omega arith)) error
  stage_answered (ReadsTakeCount p) error = let place = lies.place in read_answered board _ 4 (quad (places.take_count_at m) (omega arith) (omega arith)) error
  stage_answered (WritesWord p word) error =
      let place = lies.place in
      let rest = rest_below p m.slots lies.some_slot in
      write_answered board (places.word_at m p) (number_bytes 4 word) (quad_written (places.word_at m p) word (omega arith) (omega arith)) error
  stage_answered (RaisesPutCount p) error =
      let place = lies.place in write_answered board (places.put_count_at m) (number_bytes 4 (raised p)) (quad_written (places.put_count_at m) (raised p) (omega arith) (omega arith)) error
  stage_answered (ReadsWord t) error =
      let place = lies.place in
      let rest = rest_below t m.slots lies.some_slot in
      read_answered board _ 4 (quad (places.word_at m t) (omega arith) (omega arith)) error
  stage_answered (RaisesTakeCount t word) error =
      let place = lies.place in write_answered board (places.take_count_at m) (number_bytes 4 (raised t)) (quad_written (places.take_count_at m) (raised t) (omega arith) (omega arith)) error
  stage_answered (Unlocks end) error = write_answered board (places.lock_at m) (0 ∷ []) clear_answered error
