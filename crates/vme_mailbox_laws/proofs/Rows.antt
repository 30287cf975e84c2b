-- Each stage's command, with a good reply, is an access that may come next.
use Rattle.std.proofs.Common.{◌≡◌, ◌≢◌, ℕ, ◌+◌, ◌-◌, ◌*◌, ◌%◌, ◌^◌, ◌≤◌, ◌<◌, true, false, List, [], ◌∷◌, ◌++◌, Option, Some, refl, ap, sym, subst, ◌∙◌, arith, inl, inr}
use Rattle.std.specs.Prelude.{length, nat_le, ◌==◌}
use Rattle.std.proofs.lemmas.Bool.{cases_Bool, and_from, and_left, eq-eqb, ne_eqb, eqb-true, eqb-false, lt-ltb, ltb-true, leb-false, and_parts}
use Rattle.std.proofs.lemmas.List.{append-nil}
use Rattle.vme_cycle.specs.Functions.{number_of, number_bytes}
use Rattle.vme_cycle.proofs.lemmas.Sums.{number_of-number_bytes}
use Rattle.vme_memory.specs.declared.reply.Reply.{Reply}
use Rattle.vme_memory.specs.declared.reply.Reply.TheVariants.{Bytes, Done, Berr}
use Rattle.vme_memory.specs.Data.{reply_len, has_form}
use Rattle.vme_master.specs.declared.outcome.Outcome.{Outcome}
use Rattle.vme_master.specs.Jobs.{expected_outcome}
use Rattle.vme_shared.specs.MailboxSteps as places
use Rattle.vme_shared.specs.MailboxSteps.{BoardMailbox, touches}
use Rattle.vme_shared.specs.Phases.{Phase, Idle, Locked, First, Both, Written, Fetched, Counted, has_space, is_unlock, Writes, access_of, next_phase, after_command}
use Rattle.vme_shared.specs.Words.{put_by, taken_by}
use Rattle.vme_shared.specs.declared.mailbox.Mailbox.{Mailbox}
use Rattle.vme_shared.specs.declared.outcome.SharedOutcome.{SharedOutcome}
use Rattle.vme_shared.specs.declared.outcome.SharedOutcome.TheVariants as shared
use Rattle.vme_shared.specs.declared.request.SharedRequest.{SharedRequest}
use Rattle.vme_shared.specs.declared.request.SharedRequest.TheVariants as shared_requests
use Rattle.vme_shared.specs.declared.stage.Stage.{Stage}
use Rattle.vme_shared.specs.declared.stage.Stage.TheVariants.{Locks, ReadsPutCount, ReadsTakeCount, WritesWord, RaisesPutCount, ReadsWord, RaisesTakeCount, Unlocks}
use Rattle.vme_shared.specs.declared.stage.StageResult.{StageResult}
use Rattle.vme_shared.specs.declared.stage.StageResult.TheVariants.{Continue, Finish}
use Rattle.vme_shared.specs.Mailboxes.{raised}
use Rattle.vme_shared.specs.Steps.{has_top_bit, words_between, counted_stage, mailbox_step, step_after}
use Rattle.vme_mailbox_laws.specs.Along.{mailbox_in, IsCount, put_by_outcome, taken_by_outcome}
use Rattle.vme_mailbox_laws.proofs.Single.{reply_bytes}
use Rattle.vme_mailbox_laws.proofs.Stages.{stage_command, stage_expected, stage_touches}

-- the phase before an unlock
abbrev pub BeforeUnlock : SharedOutcome → Phase → Type 0
BeforeUnlock shared.Put phase = phase ≡ Counted
BeforeUnlock (shared.Took word) phase = phase ≡ Counted
BeforeUnlock shared.Full phase = (p : ℕ) × (t : ℕ) × (phase ≡ Both p t)
BeforeUnlock shared.Empty phase = (p : ℕ) × (t : ℕ) × (phase ≡ Both p t)
BeforeUnlock shared.Spent phase = (p : ℕ) × (t : ℕ) × (phase ≡ Both p t)
BeforeUnlock end phase = ⊥

-- the phase before each stage
abbrev pub Before : BoardMailbox → SharedRequest → Stage → Phase → Type 0
Before m request Locks phase = phase ≡ Idle
Before m request ReadsPutCount phase = phase ≡ Locked
Before m request (ReadsTakeCount p) phase = (phase ≡ First p) × (p < 2 ^ 32)
Before m request (WritesWord p word) phase =
    (t : ℕ) × (mailbox : Mailbox) × (phase ≡ Both p t) × (has_space m p t ≡ true) × (request ≡ shared_requests.Put mailbox word)
Before m request (RaisesPutCount p) phase =
    (word : ℕ) × (mailbox : Mailbox) × (phase ≡ Written p (word % 2 ^ 32)) × (p < 2 ^ 32 - 1) × (request ≡ shared_requests.Put mailbox word)
Before m request (ReadsWord t) phase = (p : ℕ) × (phase ≡ Both p t) × ((p == t) ≡ false)
Before m request (RaisesTakeCount t word) phase = phase ≡ Fetched t word
Before m request (Unlocks end) phase = BeforeUnlock end phase

-- the words that were put and taken before each stage
abbrev pub Words : SharedRequest → Stage → List ℕ → List ℕ → Type 0
Words request (Unlocks end) put taken = (put ≡ put_by_outcome end request) × (taken ≡ taken_by_outcome end)
Words request stage put taken = (put ≡ []) × (taken ≡ [])

-- the outcomes of a put or a take that are no errors
abbrev pub IsFineEnd : SharedOutcome → Type 0
IsFineEnd end = (end ≢ shared.Berr) × (end ≢ shared.Denied)

-- the progress that a step leads to matches its phase and its words
abbrev pub Leads : BoardMailbox → SharedRequest → StageResult → Phase → List ℕ → List ℕ → Type 0
Leads m request (Continue stage) phase put taken = Before m request stage phase × Words request stage put taken
Leads m request (Finish end) phase put taken = (phase ≡ Idle) × (put ≡ put_by_outcome end request) × (taken ≡ taken_by_outcome end) × IsFineEnd end

-- a reply has the form that a stage expects, and is no bus error
pub record IsFine (m : BoardMailbox) (stage : Stage) (reply : Reply) : Type 0 where
  pub form : has_form (reply_len (stage_command m stage)) reply ≡ true
  pub good : reply ≢ Berr

-- the access of a stage leads to a next phase
pub record Went (m : BoardMailbox) (request : SharedRequest) (stage : Stage) (phase : Phase) (put taken : List ℕ) (reply : Reply) : Type 0 where
  pub next : Phase
  pub is : after_command m (Some phase) (Some (stage_command m stage)) reply ≡ Some next
  pub leads :
      IsCount (Some next)
      → Leads m request (step_after request stage (expected_outcome (stage_expected stage) (reply_bytes reply))) next
      (put ++ put_by (Some phase) (Some next)) (taken ++ taken_by (Some phase) (Some next))

-- a place equals itself
same_place : (at : ℕ) → (at == at) ≡ true
same_place at = eq-eqb at at refl

-- the phase after the command of a stage is the next phase after its access
step_in : (m : BoardMailbox) (stage : Stage) (phase : Phase) (reply : Reply) (next : Option Phase) → 1 ≤ m.slots
    → next_phase m phase (access_of (stage_command m stage) reply) ≡ next
    → after_command m (Some phase) (Some (stage_command m stage)) reply ≡ next
step_in m stage phase reply next some is = rw (stage_touches m stage some) is

-- the top bit of one byte is set exactly if its number is 128 or more
locks_found : (bytes : List ℕ) → length bytes ≡ 1 → has_top_bit bytes ≡ nat_le 128 (number_of bytes)
locks_found [] long = absurd (omega arith)
locks_found (byte ∷ []) long = let is : byte ≡ 256 * 0 + byte = omega arith in ap (nat_le 128) is
locks_found (byte ∷ other ∷ bytes) long = absurd (omega arith)

-- no words followed by no words are no words
nothing : (words : List ℕ) → words ≡ [] → words ++ [] ≡ []
nothing words none = ap (λ ws. ws ++ []) none

module _ (m : BoardMailbox) (request : SharedRequest) (mailbox : Mailbox) (is : mailbox_in request ≡ Some mailbox) (slots : m.slots ≡ mailbox.slots)
    (some : 1 ≤ m.slots) (put taken : List ℕ) where
  -- the step of a put or a take is that of `mailbox_step`
  own_step : (stage : Stage) (outcome : Outcome) → step_after request stage outcome ≡ mailbox_step request stage outcome
  own_step = by_request request is
    where
      by_request : (request : SharedRequest) → mailbox_in request ≡ Some mailbox → (stage : Stage) (outcome : Outcome)
          → step_after request stage outcome ≡ mailbox_step request stage outcome
      by_request (shared_requests.Lock am addr) is stage outcome = absurd cc
      by_request (shared_requests.Unlock am addr) is stage outcome = absurd cc
      by_request (shared_requests.Put own word) is stage outcome = refl
      by_request (shared_requests.Take own) is stage outcome = refl

  -- a stage leads to the next phase to which its access and its step lead
  goes_by : (stage : Stage) (phase : Phase) (reply : Reply) (next : Phase) (step : StageResult)
      → next_phase m phase (access_of (stage_command m stage) reply) ≡ Some next
      → mailbox_step request stage (expected_outcome (stage_expected stage) (reply_bytes reply)) ≡ step
      → (IsCount (Some next) → Leads m request step next (put ++ put_by (Some phase) (Some next)) (taken ++ taken_by (Some phase) (Some next)))
      → Went m request stage phase put taken reply
  goes_by stage phase reply next step row table leads = record {
    next = next;
    is = step_in m stage phase reply (Some next) some row;
    leads = λ count. rw (own_step stage (expected_outcome (stage_expected stage) (reply_bytes reply))) (rw table (leads count));
  }

  -- the read-modify-write of the lock leads from the idle phase to the next phase
  row_locks : (reply : Reply) → IsFine m Locks reply → Words request Locks put taken → Went m request Locks Idle put taken reply
  row_locks (Bytes datum) fine none =
      let long : length datum.items ≡ 1 = eqb-true _ _ fine.form in
      let found = locks_found datum.items long in
      elim (cases_Bool (nat_le 128 (number_of datum.items))) [
        | inl held ↦
            goes_by Locks Idle (Bytes datum) Idle (Finish shared.Busy) (rw (same_place (places.lock_at m)) (rw held refl)) (rw (found ∙ held) refl)
            (λ count. (refl, nothing put none.0, nothing taken none.1, (λ same. absurd cc, λ same. absurd cc)))
        | inr free ↦
            goes_by Locks Idle (Bytes datum) Locked (Continue ReadsPutCount) (rw (same_place (places.lock_at m)) (rw free refl)) (rw (found ∙ free) refl)
            (λ count. (refl, (nothing put none.0, nothing taken none.1)))
      ]
  row_locks Done fine none = let form = fine.form in absurd cc
  row_locks Berr fine none = absurd (fine.good refl)

  -- the read of the put count leads from the locked phase to the next phase
  row_reads_put_count : (reply : Reply) → IsFine m ReadsPutCount reply → Words request ReadsPutCount put taken
      → Went m request ReadsPutCount Locked put taken reply
  row_reads_put_count (Bytes datum) fine none =
      goes_by ReadsPutCount Locked (Bytes datum) (First (number_of datum.items)) (Continue (ReadsTakeCount (number_of datum.items)))
      (rw (same_place (places.put_count_at m)) refl) (rw fine.form refl)
      (λ count. ((refl, count), (nothing put none.0, nothing taken none.1)))
  row_reads_put_count Done fine none = let form = fine.form in absurd cc
  row_reads_put_count Berr fine none = absurd (fine.good refl)

  -- the phase after both counts are read is the one before the next stage
  counted : (p t : ℕ) → p < 2 ^ 32 → put ≡ [] → taken ≡ []
      → Before m request (counted_stage request p t) (Both p t) × Words request (counted_stage request p t) (put ++ []) (taken ++ [])
  counted p t small no_put no_taken = by_request request is
    where
      by_request : (request : SharedRequest) → mailbox_in request ≡ Some mailbox
          → Before m request (counted_stage request p t) (Both p t) × Words request (counted_stage request p t) (put ++ []) (taken ++ [])
      by_request (shared_requests.Lock am addr) is = absurd cc
      by_request (shared_requests.Unlock am addr) is = absurd cc
      by_request (shared_requests.Put own word) is =
          let same : own ≡ mailbox = cc in
          let capacity : m.slots ≡ own.slots = slots ∙ ap (λ (o : Mailbox). o.slots) (sym same) in
          elim (cases_Bool (p == 2 ^ 32 - 1)) [
            | inl greatest ↦ rw greatest ((p, t, refl), (nothing put no_put, nothing taken no_taken))
            | inr less ↦
                let below : p < 2 ^ 32 - 1 = let other = eqb-false p (2 ^ 32 - 1) less in omega (arith, other) in
                elim (cases_Bool (nat_le own.slots (words_between p t))) [
                  | inl full ↦ rw (less, full) ((p, t, refl), (nothing put no_put, nothing taken no_taken))
                  | inr free ↦
                      let near : (p + 2 ^ 32 - t) % 2 ^ 32 < m.slots = let free_slot = leb-false own.slots (words_between p t) free in omega arith in
                      let has : has_space m p t ≡ true = and_from _ _ (lt-ltb p (2 ^ 32 - 1) below) (lt-ltb ((p + 2 ^ 32 - t) % 2 ^ 32) m.slots near) in
                      rw (less, free) ((t, own, refl, has, refl), (nothing put no_put, nothing taken no_taken))
                ]
          ]
      by_request (shared_requests.Take own) is =
          elim (cases_Bool (p == t)) [
            | inl same ↦ rw same ((p, t, refl), (nothing put no_put, nothing taken no_taken))
            | inr other ↦ rw other ((p, refl, other), (nothing put no_put, nothing taken no_taken))
          ]

  -- the read of the take count leads from the phase after the put count to the next phase
  row_reads_take_count : (p : ℕ) (reply : Reply) → p < 2 ^ 32 → IsFine m (ReadsTakeCount p) reply → Words request (ReadsTakeCount p) put taken
      → Went m request (ReadsTakeCount p) (First p) put taken reply
  row_reads_take_count p (Bytes datum) small fine none =
      goes_by (ReadsTakeCount p) (First p) (Bytes datum) (Both p (number_of datum.items)) (Continue (counted_stage request p (number_of datum.items)))
      (rw (same_place (places.take_count_at m)) refl) (rw fine.form refl)
      (λ count. counted p (number_of datum.items) small none.0 none.1)
  row_reads_take_count p Done small fine none = let form = fine.form in absurd cc
  row_reads_take_count p Berr small fine none = absurd (fine.good refl)

  -- the read of a word leads from the phase after both counts to the next phase
  row_reads_word : (p t : ℕ) (reply : Reply) → (p == t) ≡ false → IsFine m (ReadsWord t) reply → Words request (ReadsWord t) put taken
      → Went m request (ReadsWord t) (Both p t) put taken reply
  row_reads_word p t (Bytes datum) other fine none =
      goes_by (ReadsWord t) (Both p t) (Bytes datum) (Fetched t (number_of datum.items)) (Continue (RaisesTakeCount t (number_of datum.items)))
      (rw (same_place (places.word_at m t)) (rw other refl)) (rw fine.form refl) (λ count. (refl, (nothing put none.0, nothing taken none.1)))
  row_reads_word p t Done other fine none = let form = fine.form in absurd cc
  row_reads_word p t Berr other fine none = absurd (fine.good refl)

  -- a word does not lie at the lock
  no_unlock : (n x : ℕ) → is_unlock m (places.word_at m n) 4 x ≡ false
  no_unlock n x = and_left _ _ (and_left _ _ (ne_eqb (places.word_at m n) (places.lock_at m) (λ same. omega arith)))

  -- the write of a word leads from the phase after both counts to the next phase
  row_writes_word : (p t word : ℕ) (own : Mailbox) (reply : Reply) → has_space m p t ≡ true → request ≡ shared_requests.Put own word
      → IsFine m (WritesWord p word) reply → Words request (WritesWord p word) put taken
      → Went m request (WritesWord p word) (Both p t) put taken reply
  row_writes_word p t word own (Bytes datum) has is_put fine none = let form = fine.form in absurd cc
  row_writes_word p t word own Done has is_put fine none =
      let below : p < 2 ^ 32 - 1 = ltb-true p (2 ^ 32 - 1) (and_parts _ _ has).0 in
      goes_by (WritesWord p word) (Both p t) Done (Written p (word % 2 ^ 32)) (Continue (RaisesPutCount p))
      (
      ap (λ x. next_phase m (Both p t) (Writes (places.word_at m p) 4 x)) (number_of-number_bytes 4 word)
      ∙ rw (no_unlock p (word % 2 ^ 32)) (rw (same_place (places.word_at m p)) (rw has refl))
      )
      refl (λ count. ((word, own, refl, below, is_put), (nothing put none.0, nothing taken none.1)))
  row_writes_word p t word own Berr has is_put fine none = absurd (fine.good refl)

  -- the write of the put count leads from the phase after the written word to the next phase
  row_raises_put_count : (p word : ℕ) (own : Mailbox) (reply : Reply) → p < 2 ^ 32 - 1 → request ≡ shared_requests.Put own word
      → IsFine m (RaisesPutCount p) reply → Words request (RaisesPutCount p) put taken
      → Went m request (RaisesPutCount p) (Written p (word % 2 ^ 32)) put taken reply
  row_raises_put_count p word own (Bytes datum) below is_put fine none = let form = fine.form in absurd cc
  row_raises_put_count p word own Done below is_put fine none =
      let number : number_of (number_bytes 4 (raised p)) ≡ p + 1 = number_of-number_bytes 4 (raised p) ∙ omega arith in
      goes_by (RaisesPutCount p) (Written p (word % 2 ^ 32)) Done Counted (Continue (Unlocks shared.Put))
      (
      ap (λ x. next_phase m (Written p (word % 2 ^ 32)) (Writes (places.put_count_at m) 4 x)) number
      ∙ rw (same_place (places.put_count_at m)) (rw (same_place (p + 1)) refl)
      )
      refl
      (λ count. (refl, (ap (λ ws. ws ++ (word % 2 ^ 32) ∷ []) none.0 ∙ ap (put_by_outcome shared.Put) (sym is_put), nothing taken none.1)))
  row_raises_put_count p word own Berr below is_put fine none = absurd (fine.good refl)

  -- the write of the take count leads from the phase after the read word to the next phase
  row_raises_take_count : (t word : ℕ) (reply : Reply) → IsFine m (RaisesTakeCount t word) reply → Words request (RaisesTakeCount t word) put taken
      → Went m request (RaisesTakeCount t word) (Fetched t word) put taken reply
  row_raises_take_count t word (Bytes datum) fine none = let form = fine.form in absurd cc
  row_raises_take_count t word Done fine none =
      let number : number_of (number_bytes 4 (raised t)) ≡ (t + 1) % 2 ^ 32 = number_of-number_bytes 4 (raised t) ∙ omega arith in
      goes_by (RaisesTakeCount t word) (Fetched t word) Done Counted (Continue (Unlocks (shared.Took word)))
      (
      ap (λ x. next_phase m (Fetched t word) (Writes (places.take_count_at m) 4 x)) number
      ∙ rw (same_place (places.take_count_at m)) (rw (same_place ((t + 1) % 2 ^ 32)) refl)
      )
      refl (λ count. (refl, (nothing put none.0, ap (λ ws. ws ++ word ∷ []) none.1)))
  row_raises_take_count t word Berr fine none = absurd (fine.good refl)

  -- an unlock leads to the idle phase from each phase that allows it
  unlocked : (end : SharedOutcome) (phase : Phase) (reply : Reply) → IsFineEnd end → next_phase m phase (Writes (places.lock_at m) 1 0) ≡ Some Idle
      → put_by (Some phase) (Some Idle) ≡ [] → taken_by (Some phase) (Some Idle) ≡ []
      → IsFine m (Unlocks end) reply → Words request (Unlocks end) put taken → Went m request (Unlocks end) phase put taken reply
  unlocked end phase (Bytes datum) ok goes no_put no_taken fine reported = let form = fine.form in absurd cc
  unlocked end phase Done ok goes no_put no_taken fine reported =
      goes_by (Unlocks end) phase Done Idle (Finish end) goes refl
      (λ count. (
        refl,
        ap (λ ws. put ++ ws) no_put ∙ append-nil put ∙ reported.0,
        ap (λ ws. taken ++ ws) no_taken ∙ append-nil taken ∙ reported.1,
        ok,
      ))
  unlocked end phase Berr ok goes no_put no_taken fine reported = absurd (fine.good refl)

  -- an unlock leads from the phase after both counts to the idle phase
  row_unlocks_both : (end : SharedOutcome) (p t : ℕ) (reply : Reply) → IsFineEnd end → IsFine m (Unlocks end) reply → Words request (Unlocks end) put taken
      → Went m request (Unlocks end) (Both p t) put taken reply
  row_unlocks_both end p t reply ok fine reported = unlocked end (Both p t) reply ok (rw (same_place (places.lock_at m)) refl) refl refl fine reported

  -- an unlock leads from the phase after the raised count to the idle phase
  row_unlocks_counted : (end : SharedOutcome) (reply : Reply) → IsFineEnd end → IsFine m (Unlocks end) reply → Words request (Unlocks end) put taken
      → Went m request (Unlocks end) Counted put taken reply
  row_unlocks_counted end reply ok fine reported = unlocked end Counted reply ok (rw (same_place (places.lock_at m)) refl) refl refl fine reported

  -- an unlock leads from the phase before it to the idle phase
  row_unlocks : (end : SharedOutcome) (phase : Phase) (reply : Reply) → BeforeUnlock end phase → IsFine m (Unlocks end) reply
      → Words request (Unlocks end) put taken → Went m request (Unlocks end) phase put taken reply
  row_unlocks shared.Put phase reply at fine reported = subst (λ p. Went m request (Unlocks shared.Put) p put taken reply) (sym at) (row_unlocks_counted shared.Put reply (λ same. absurd cc, λ same. absurd cc) fine reported)
  row_unlocks (shared.Took word) phase reply at fine reported =
      subst (λ p. Went m request (Unlocks (shared.Took word)) p put taken reply) (sym at) (row_unlocks_counted (shared.Took word) reply (λ same. absurd cc, λ same. absurd cc) fine reported)
  row_unlocks shared.Full phase reply at fine reported =
      subst (λ p. Went m request (Unlocks shared.Full) p put taken reply) (sym at.2) (row_unlocks_both shared.Full at.0 at.1 reply (λ same. absurd cc, λ same. absurd cc) fine reported)
  row_unlocks shared.Empty phase reply at fine reported =
      subst (λ p. Went m request (Unlocks shared.Empty) p put taken reply) (sym at.2) (row_unlocks_both shared.Empty at.0 at.1 reply (λ same. absurd cc, λ same. absurd cc) fine reported)
  row_unlocks shared.Spent phase reply at fine reported =
      subst (λ p. Went m request (Unlocks shared.Spent) p put taken reply) (sym at.2) (row_unlocks_both shared.Spent at.0 at.1 reply (λ same. absurd cc, λ same. absurd cc) fine reported)
  row_unlocks end phase reply at fine reported = absurd at

  -- each stage leads to a next phase
  pub goes : (stage : Stage) (phase : Phase) (reply : Reply) → Before m request stage phase → Words request stage put taken → IsFine m stage reply
      → Went m request stage phase put taken reply
  goes Locks phase reply at none fine = subst (λ p. Went m request Locks p put taken reply) (sym at) (row_locks reply fine none)
  goes ReadsPutCount phase reply at none fine =
      subst (λ p. Went m request ReadsPutCount p put taken reply) (sym at) (row_reads_put_count reply fine none)
  goes (ReadsTakeCount p) phase reply at none fine =
      subst (λ q. Went m request (ReadsTakeCount p) q put taken reply) (sym at.0) (row_reads_take_count p reply at.1 fine none)
  goes (WritesWord p word) phase reply (t, own, at, has, is_put) none fine =
      subst (λ q. Went m request (WritesWord p word) q put taken reply) (sym at) (row_writes_word p t word own reply has is_put fine none)
  goes (RaisesPutCount p) phase reply (word, own, at, below, is_put) none fine =
      subst (λ q. Went m request (RaisesPutCount p) q put taken reply) (sym at) (row_raises_put_count p word own reply below is_put fine none)
  goes (ReadsWord t) phase reply (p, at, other) none fine =
      subst (λ q. Went m request (ReadsWord t) q put taken reply) (sym at) (row_reads_word p t reply other fine none)
  goes (RaisesTakeCount t word) phase reply at none fine =
      subst (λ q. Went m request (RaisesTakeCount t word) q put taken reply) (sym at) (row_raises_take_count t word reply fine none)
  goes (Unlocks end) phase reply at reported fine = row_unlocks end phase reply at fine reported
