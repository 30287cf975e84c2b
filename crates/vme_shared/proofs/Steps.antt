-- What follows the transfers of a lock, a put and a take: no denial, if the outcomes have their form.
use Rattle.std.proofs.Common.{◌≡◌, ◌≢◌, ℕ, ◌-◌, ◌^◌, List, length, Option, Some, None, refl, inl, inr}
use Rattle.std.specs.Prelude.{◌==◌, nat_le}
use Rattle.std.proofs.lemmas.Bool.{cases_Bool, eq-eqb}
use Rattle.vme_cycle.specs.Functions.{number_of}
use Rattle.vme_master.specs.declared.expected.ExpectedReply.TheVariants as expected_replies
use Rattle.vme_master.specs.declared.outcome.Outcome.{Outcome}
use Rattle.vme_master.specs.declared.outcome.Outcome.TheVariants as outcomes
use Rattle.vme_master.specs.Jobs.{request_expected}
use Rattle.vme_shared.specs.declared.mailbox.Mailbox.{Mailbox}
use Rattle.vme_shared.specs.declared.outcome.SharedOutcome.{SharedOutcome}
use Rattle.vme_shared.specs.declared.outcome.SharedOutcome.TheVariants as shared
use Rattle.vme_shared.specs.declared.request.SharedRequest.{SharedRequest}
use Rattle.vme_shared.specs.declared.request.SharedRequest.TheVariants.{Lock, Unlock, Put, Take}
use Rattle.vme_shared.specs.declared.stage.Stage.{Stage}
use Rattle.vme_shared.specs.declared.stage.Stage.TheVariants.{Locks, ReadsPutCount, ReadsTakeCount, WritesWord, RaisesPutCount, ReadsWord, RaisesTakeCount, Unlocks}
use Rattle.vme_shared.specs.declared.stage.StageResult.{StageResult}
use Rattle.vme_shared.specs.declared.stage.StageResult.TheVariants.{Continue, Finish}
use Rattle.vme_shared.specs.Mailboxes.{mailbox_request, stage_request}
use Rattle.vme_shared.specs.Steps.{first_stage, has_top_bit, word_in, on_word, words_between, counted_stage, lock_step, unlock_step, mailbox_step, step_after}
use Rattle.vme_shared.proofs.Transfers.{IsFormed}

-- the outcome after an unlock is no denial
abbrev pub IsSound : Stage → Type 0
IsSound (Unlocks end) = end ≢ shared.Denied
IsSound stage = Unit {0}

-- a step is good: its end is no denial, or its next stage is sound
abbrev pub IsGood : StageResult → Type 0
IsGood (Continue stage) = IsSound stage
IsGood (Finish end) = end ≢ shared.Denied

-- the next stage is sound, if there is one
abbrev pub GoesSound : StageResult → Type 0
GoesSound (Continue stage) = IsSound stage
GoesSound (Finish end) = Unit {0}

-- the first stage is sound
pub first_sound : (request : SharedRequest) → IsSound (first_stage request)
first_sound (Lock am addr) = tt
first_sound (Unlock am addr) = λ same. absurd cc
first_sound (Put mailbox word) = tt
first_sound (Take mailbox) = tt

-- the stage after both counts are read is sound
counted_sound : (request : SharedRequest) (p t : ℕ) → IsSound (counted_stage request p t)
counted_sound (Put mailbox word) p t =
    elim (cases_Bool (p == 2 ^ 32 - 1)) [
      | inl spent ↦ rw spent (λ same. absurd cc)
      | inr more ↦
          elim (cases_Bool (nat_le mailbox.slots (words_between p t))) [
            | inl full ↦ rw (more, full) (λ same. absurd cc)
            | inr capacity ↦ rw (more, capacity) tt
          ]
    ]
counted_sound (Take mailbox) p t = elim (cases_Bool (p == t)) [ inl empty ↦ rw empty (λ same. absurd cc) | inr some ↦ rw some tt ]
counted_sound (Lock am addr) p t = elim (cases_Bool (p == t)) [ inl empty ↦ rw empty (λ same. absurd cc) | inr some ↦ rw some tt ]
counted_sound (Unlock am addr) p t = elim (cases_Bool (p == t)) [ inl empty ↦ rw empty (λ same. absurd cc) | inr some ↦ rw some tt ]

-- the stage after the put count is read is sound
put_count_goes : (request : SharedRequest) (word : Option ℕ) → GoesSound (on_word word (λ p. Continue (ReadsTakeCount p)))
put_count_goes request (Some p) = tt
put_count_goes request None = tt

-- the stage after the take count is read is sound
take_count_goes : (request : SharedRequest) (p : ℕ) (word : Option ℕ) → GoesSound (on_word word (λ t. Continue (counted_stage request p t)))
take_count_goes request p (Some t) = counted_sound request p t
take_count_goes request p None = tt

-- the stage after a word is read is sound
word_goes : (t : ℕ) (word : Option ℕ) → GoesSound (on_word word (λ w. Continue (RaisesTakeCount t w)))
word_goes t (Some w) = tt
word_goes t None = tt

-- no stage follows an unlock
unlock_goes : (end : SharedOutcome) (outcome : Outcome) → GoesSound (unlock_step end outcome)
unlock_goes end (outcomes.Read bytes) = tt
unlock_goes end outcomes.Done = tt
unlock_goes end (outcomes.Old bytes) = tt
unlock_goes end (outcomes.Berr count bytes) = tt
unlock_goes end outcomes.Denied = tt

-- the stage after a step of a put or a take is sound, whatever the outcome
mailbox_goes : (request : SharedRequest) (stage : Stage) (outcome : Outcome) → GoesSound (mailbox_step request stage outcome)
mailbox_goes request Locks (outcomes.Old old) = elim (cases_Bool (has_top_bit old.items)) [ inl busy ↦ rw busy tt | inr free ↦ rw free tt ]
mailbox_goes request Locks (outcomes.Read bytes) = tt
mailbox_goes request Locks outcomes.Done = tt
mailbox_goes request Locks (outcomes.Berr count bytes) = tt
mailbox_goes request Locks outcomes.Denied = tt
mailbox_goes request ReadsPutCount (outcomes.Read bytes) = put_count_goes request (word_in bytes.items)
mailbox_goes request (ReadsTakeCount p) (outcomes.Read bytes) = take_count_goes request p (word_in bytes.items)
mailbox_goes request (WritesWord p word) outcomes.Done = tt
mailbox_goes request (RaisesPutCount p) outcomes.Done = λ same. absurd cc
mailbox_goes request (ReadsWord t) (outcomes.Read bytes) = word_goes t (word_in bytes.items)
mailbox_goes request (RaisesTakeCount t word) outcomes.Done = λ same. absurd cc
mailbox_goes request (Unlocks end) outcome = unlock_goes end outcome
mailbox_goes request stage (outcomes.Berr count bytes) = λ same. absurd cc
mailbox_goes request stage outcome = tt

-- no stage follows the transfer of a lock
lock_goes : (outcome : Outcome) → GoesSound (lock_step outcome)
lock_goes (outcomes.Read bytes) = tt
lock_goes outcomes.Done = tt
lock_goes (outcomes.Old bytes) = tt
lock_goes (outcomes.Berr count bytes) = tt
lock_goes outcomes.Denied = tt

-- the stage after any step is sound, whatever the outcome
pub step_goes : (request : SharedRequest) (stage : Stage) (outcome : Outcome) → GoesSound (step_after request stage outcome)
step_goes (Lock am addr) stage outcome = lock_goes outcome
step_goes (Unlock am addr) stage outcome = unlock_goes shared.Unlocked outcome
step_goes (Put mailbox word) stage outcome = mailbox_goes (Put mailbox word) stage outcome
step_goes (Take mailbox) stage outcome = mailbox_goes (Take mailbox) stage outcome

-- four bytes give a word
word_is : (bytes : List ℕ) → length bytes ≡ 4 → word_in bytes ≡ Some (number_of bytes)
word_is bytes len = rw (eq-eqb (length bytes) 4 len) refl

-- the end of a lock is no denial, if the outcome has its form and is no denial
lock_good : (outcome : Outcome) → IsFormed (expected_replies.Modify 1) outcome → outcome ≢ outcomes.Denied → IsGood (lock_step outcome)
lock_good (outcomes.Read bytes) formed good = absurd formed
lock_good outcomes.Done formed good = absurd formed
lock_good (outcomes.Old old) formed good =
    elim (cases_Bool (has_top_bit old.items)) [ inl busy ↦ rw busy (λ same. absurd cc) | inr free ↦ rw free (λ same. absurd cc) ]
lock_good (outcomes.Berr count bytes) formed good = λ same. absurd cc
lock_good outcomes.Denied formed good = absurd (good refl)

-- the end of an unlock is no denial, if the outcome has its form and is no denial
unlock_good : (end : SharedOutcome) (outcome : Outcome) → end ≢ shared.Denied → IsFormed expected_replies.Write outcome → outcome ≢ outcomes.Denied
    → IsGood (unlock_step end outcome)
unlock_good end (outcomes.Read bytes) sound formed good = absurd formed
unlock_good end outcomes.Done sound formed good = sound
unlock_good end (outcomes.Old bytes) sound formed good = absurd formed
unlock_good end (outcomes.Berr count bytes) sound formed good = λ same. absurd cc
unlock_good end outcomes.Denied sound formed good = absurd (good refl)

-- a step of a put or a take is good, if the outcome has its form and is no denial
mailbox_good : (m : Mailbox) (request : SharedRequest) (stage : Stage) (outcome : Outcome) → IsSound stage
    → IsFormed (request_expected (mailbox_request m stage)) outcome → outcome ≢ outcomes.Denied → IsGood (mailbox_step request stage outcome)
mailbox_good m request Locks (outcomes.Old old) sound formed good =
    elim (cases_Bool (has_top_bit old.items)) [ inl busy ↦ rw busy (λ same. absurd cc) | inr free ↦ rw free tt ]
mailbox_good m request ReadsPutCount (outcomes.Read bytes) sound formed good = rw (word_is bytes.items formed) tt
mailbox_good m request (ReadsTakeCount p) (outcomes.Read bytes) sound formed good =
    rw (word_is bytes.items formed) (counted_sound request p (number_of bytes.items))
mailbox_good m request (WritesWord p word) outcomes.Done sound formed good = tt
mailbox_good m request (RaisesPutCount p) outcomes.Done sound formed good = λ same. absurd cc
mailbox_good m request (ReadsWord t) (outcomes.Read bytes) sound formed good = rw (word_is bytes.items formed) tt
mailbox_good m request (RaisesTakeCount t word) outcomes.Done sound formed good = λ same. absurd cc
mailbox_good m request (Unlocks end) outcome sound formed good = unlock_good end outcome sound formed good
mailbox_good m request Locks (outcomes.Berr count bytes) sound formed good = λ same. absurd cc
mailbox_good m request stage (outcomes.Berr count bytes) sound formed good = λ same. absurd cc
mailbox_good m request stage outcomes.Denied sound formed good = absurd (good refl)
mailbox_good m request stage outcome sound formed good = absurd formed

-- a step is good, if the outcome has its form and is no denial
pub step_good : (request : SharedRequest) (stage : Stage) (outcome : Outcome) → IsSound stage
    → IsFormed (request_expected (stage_request request stage)) outcome → outcome ≢ outcomes.Denied → IsGood (step_after request stage outcome)
step_good (Lock am addr) stage outcome sound formed good = lock_good outcome formed good
step_good (Unlock am addr) stage outcome sound formed good = unlock_good shared.Unlocked outcome (λ same. absurd cc) formed good
step_good (Put mailbox word) stage outcome sound formed good = mailbox_good mailbox (Put mailbox word) stage outcome sound formed good
step_good (Take mailbox) stage outcome sound formed good = mailbox_good mailbox (Take mailbox) stage outcome sound formed good
