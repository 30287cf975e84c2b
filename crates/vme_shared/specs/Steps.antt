-- The table of a lock, an unlock, a put and a take: what follows the outcome of each transfer.
use Rattle.std.specs.Prelude.{ℕ, ◌+◌, ◌-◌, ◌%◌, ◌^◌, nat_le, Bool, false, ◌==◌, if◌then◌else◌, List, [], ◌∷◌, length, Option, Some, None}
use Rattle.vme_cycle.specs.Functions.{number_of}
use Rattle.vme_master.specs.declared.outcome.Outcome.{Outcome}
use Rattle.vme_master.specs.declared.outcome.Outcome.TheVariants as outcomes
use Rattle.vme_shared.specs.declared.outcome.SharedOutcome.{SharedOutcome}
use Rattle.vme_shared.specs.declared.outcome.SharedOutcome.TheVariants as shared
use Rattle.vme_shared.specs.declared.request.SharedRequest.{SharedRequest}
use Rattle.vme_shared.specs.declared.request.SharedRequest.TheVariants.{Lock, Unlock, Put, Take}
use Rattle.vme_shared.specs.declared.stage.Stage.{Stage}
use Rattle.vme_shared.specs.declared.stage.Stage.TheVariants.{Locks, ReadsPutCount, ReadsTakeCount, WritesWord, RaisesPutCount, ReadsWord, RaisesTakeCount, Unlocks}
use Rattle.vme_shared.specs.declared.stage.StageResult.{StageResult}
use Rattle.vme_shared.specs.declared.stage.StageResult.TheVariants.{Continue, Finish}

-- the first stage: an unlock has one transfer, and all others begin with the lock
abbrev pub first_stage : SharedRequest → Stage
first_stage (Lock am addr) = Locks
first_stage (Unlock am addr) = Unlocks shared.Unlocked
first_stage (Put mailbox word) = Locks
first_stage (Take mailbox) = Locks

-- whether bit 7 of the byte at the lowest address is set
abbrev pub has_top_bit : List ℕ → Bool
has_top_bit [] = false
has_top_bit (byte ∷ bytes) = nat_le 128 byte

-- the number of four bytes, the most significant first, or none for another length
abbrev pub word_in : List ℕ → Option ℕ
word_in bytes = if length bytes == 4 then Some (number_of bytes) else None

-- what follows a number that was read; bytes of another length do not fit
abbrev pub on_word : Option ℕ → (ℕ → StageResult) → StageResult
on_word (Some word) lead = lead word
on_word None lead = Finish shared.Denied

-- the number of words in a mailbox by its counts, modulo 2 ^ 32
abbrev pub words_between : ℕ → ℕ → ℕ
words_between p t = (p + 2 ^ 32 - t) % 2 ^ 32

-- the stage after both counts are read: a put writes its word if the put count can rise and a slot is free, and a take
-- reads a word if there is one; else the lock is released
abbrev pub counted_stage : SharedRequest → ℕ → ℕ → Stage
counted_stage (Put mailbox word) p t =
    if p == 2 ^ 32 - 1 then Unlocks shared.Spent
    else if nat_le mailbox.slots (words_between p t) then Unlocks shared.Full
    else WritesWord p word
counted_stage request p t = if p == t then Unlocks shared.Empty else ReadsWord t

-- the table of a lock
abbrev pub lock_step : Outcome → StageResult
lock_step (outcomes.Old old) = Finish (if has_top_bit old.items then shared.Busy else shared.Taken)
lock_step (outcomes.Berr count bytes) = Finish shared.Berr
lock_step outcome = Finish shared.Denied

-- the table of an unlock, which ends with this outcome
abbrev pub unlock_step : SharedOutcome → Outcome → StageResult
unlock_step end outcomes.Done = Finish end
unlock_step end (outcomes.Berr count bytes) = Finish shared.Berr
unlock_step end outcome = Finish shared.Denied

-- the table of a put and a take, by the stage and its transfer's outcome; after a bus error the lock is released, if it
-- was taken
abbrev pub mailbox_step : SharedRequest → Stage → Outcome → StageResult
mailbox_step request Locks (outcomes.Old old) = if has_top_bit old.items then Finish shared.Busy else Continue ReadsPutCount
mailbox_step request ReadsPutCount (outcomes.Read bytes) = on_word (word_in bytes.items) (λ p. Continue (ReadsTakeCount p))
mailbox_step request (ReadsTakeCount p) (outcomes.Read bytes) =
    on_word (word_in bytes.items) (λ t. Continue (counted_stage request p t))
mailbox_step request (WritesWord p word) outcomes.Done = Continue (RaisesPutCount p)
mailbox_step request (RaisesPutCount p) outcomes.Done = Continue (Unlocks shared.Put)
mailbox_step request (ReadsWord t) (outcomes.Read bytes) =
    on_word (word_in bytes.items) (λ word. Continue (RaisesTakeCount t word))
mailbox_step request (RaisesTakeCount t word) outcomes.Done = Continue (Unlocks (shared.Took word))
mailbox_step request (Unlocks end) outcome = unlock_step end outcome
mailbox_step request Locks (outcomes.Berr count bytes) = Finish shared.Berr
mailbox_step request stage (outcomes.Berr count bytes) = Continue (Unlocks shared.Berr)
mailbox_step request stage outcome = Finish shared.Denied

-- what follows the outcome of a stage's transfer
abbrev pub step_after : SharedRequest → Stage → Outcome → StageResult
step_after (Lock am addr) stage outcome = lock_step outcome
step_after (Unlock am addr) stage outcome = unlock_step shared.Unlocked outcome
step_after (Put mailbox word) stage outcome = mailbox_step (Put mailbox word) stage outcome
step_after (Take mailbox) stage outcome = mailbox_step (Take mailbox) stage outcome
