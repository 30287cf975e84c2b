-- Accepted requests: the first call requests the bus, and no later transfer is refused.
use Rattle.std.proofs.Common.{◌≡◌, ℕ, suc, ◌+◌, ◌-◌, ◌*◌, ◌%◌, ◌<◌, ◌≤◌, nat_lt, true, false, [], ◌∷◌, Option, Some, None, Result, Ok, Err, refl, ap, sym, subst, arith, inl, inr}
use Rattle.std.specs.Prelude.{◌&&◌, is_none, is_some}
use Rattle.std.proofs.Math.Nat.{mod-eq_of_lt}
use Rattle.std.proofs.lemmas.Nat.{mod_below}
use Rattle.std.proofs.lemmas.Bool.Decides.{leb_tells}
use Rattle.vme_am.specs.Codes.{CodeRow, read_code}
use Rattle.vme_am.specs.Kinds.{is_block, is_program}
use Rattle.vme_am.specs.Spaces.{addresses_of}
use Rattle.vme_lanes.specs.declared.location.Location.TheVariants.{Byte0, Bytes03}
use Rattle.vme_lanes.proofs.lemmas.Tables.{own_found}
use Rattle.vme_cycle.specs.declared.fault.CycleFault.{CycleFault}
use Rattle.vme_cycle.specs.declared.request.Request.{Request}
use Rattle.vme_cycle.specs.Requests.{code_of, addr_of, span_of, is_block_request, function_of, is_counted}
use Rattle.vme_cycle.specs.Refusals.{first_of}
use Rattle.vme_cycle.specs.Lawful.{Transfer, first_location, first_refusal, transfer_of}
use Rattle.vme_cycle.specs.Parts.{IsLawful}
use Rattle.vme_cycle.proofs.lemmas.Transfers.{comes_from, transfer_is_lawful, lawful_parts}
use Rattle.vme_arbiter.specs.declared.command.ArbCmd.TheVariants.{Ask}
use Rattle.vme_core.specs.Calls.{OnBus}
use Rattle.vme_core.specs.NextSteps.{NotStarted, Invokes}
use Rattle.vme_master.specs.declared.job.Job.{Job}
use Rattle.vme_shared.specs.declared.mailbox.Mailbox.{Mailbox}
use Rattle.vme_shared.specs.declared.request.SharedRequest.{SharedRequest}
use Rattle.vme_shared.specs.declared.request.SharedRequest.TheVariants.{Lock, Unlock, Put, Take}
use Rattle.vme_shared.specs.declared.stage.Stage.{Stage}
use Rattle.vme_shared.specs.declared.stage.Stage.TheVariants as stages
use Rattle.vme_shared.specs.Mailboxes.{put_count_at, take_count_at, word_at, raised, IsMailbox, IsWellFormed, set_lock, clear_lock, read_word, write_word, mailbox_request, stage_request, refusal_in, mailbox_refusal, shared_refusal}
use Rattle.vme_shared.specs.Steps.{first_stage}
use Rattle.vme_shared.specs.Tables.{SharedJob, checked_job, stage_job, stage_begun, next_at, progress_given, shared_next}

-- a request is lawful
abbrev pub IsLawfulRequest : Request → Type 0
IsLawfulRequest request = (t : Transfer) × (transfer_of request ≡ Ok t)

-- a request without a refusal is lawful
no_refusal : (request : Request) (found : Result Transfer CycleFault) → transfer_of request ≡ found → refusal_in found ≡ None
    → IsLawfulRequest request
no_refusal request (Ok t) is none = (t, is)
no_refusal request (Err fault) is none = absurd cc

-- if two refusals have no first one, both are none
both_none : (a b : Option CycleFault) → first_of (a ∷ b ∷ []) ≡ None → (a ≡ None) × (b ≡ None)
both_none (Some fault) b none = absurd cc
both_none None (Some fault) none = absurd cc
both_none None None none = (refl, refl)

-- the two transfers that the check of a mailbox examines are lawful
record Looked (m : Mailbox) : Type 0 where
  lock : IsLawfulRequest (set_lock m.am m.addr)
  last : IsLawfulRequest (read_word m.am (word_at m (m.slots - 1)))

-- an accepted mailbox has a lawful lock and a lawful read of its last word
looked : (m : Mailbox) → mailbox_refusal m ≡ None → Looked m
looked m none =
    let both = both_none (refusal_in (transfer_of (set_lock m.am m.addr))) (refusal_in (transfer_of (read_word m.am (word_at m (m.slots - 1))))) none in
    record { lock = no_refusal (set_lock m.am m.addr) _ refl both.0; last = no_refusal (read_word m.am (word_at m (m.slots - 1))) _ refl both.1 }

-- a request that meets each condition is lawful
lawful_by : (row : CodeRow) (request : Request) → read_code (code_of request) ≡ Ok row → is_block_request request ≡ false
    → is_block row.kind ≡ false → (is_some (function_of request) && is_program row.kind) ≡ false → is_counted request ≡ true
    → nat_lt (addresses_of row.space) (addr_of request + span_of request) ≡ false → is_none (first_location request) ≡ false
    → IsLawfulRequest request
unfolding transfer_of first_refusal
lawful_by row request code alone kind program counted within found =
    (record { am = row; request = request }, rw (code, kind, program, counted, within, found, alone) refl)

-- a number up to a limit is not above the limit
within_by : (limit last : ℕ) → last ≤ limit → nat_lt limit last ≡ false
within_by limit last less = elim (leb_tells (suc limit) last) [ inl more ↦ absurd (omega (arith, more.1, less)) | inr is ↦ is.0 ]

-- the code of a mailbox has a row for no block, and the mailbox lies within the row's space
record Placed (m : Mailbox) : Type 0 where
  row : CodeRow
  code : read_code m.am ≡ Ok row
  kind : is_block row.kind ≡ false
  within : m.addr + 16 + 4 * m.slots ≤ addresses_of row.space

-- the row and the place of a mailbox whose last word has a lawful read
placed_by : (m : Mailbox) (t : Transfer) → IsMailbox m → transfer_of (read_word m.am (word_at m (m.slots - 1))) ≡ Ok t → Placed m
placed_by m t is lawful =
    let request : Request = read_word m.am (word_at m (m.slots - 1)) in
    let from = comes_from request t lawful in
    let parts : IsLawful t.am request = subst (IsLawful t.am) from.same (lawful_parts t (transfer_is_lawful request t lawful)) in
    let last : (m.slots - 1) % m.slots ≡ m.slots - 1 = mod-eq_of_lt (omega (arith, is.some_slot)) in
    record { row = t.am; code = from.row; kind = parts.kind; within = omega (arith, parts.within, is.some_slot, last) }

-- the row and the place of an accepted mailbox
placed : (m : Mailbox) → IsMailbox m → Looked m → Placed m
placed m is look = placed_by m look.last.0 is look.last.1

-- a read of four bytes of a mailbox at a multiple of four is lawful
quad_read : (m : Mailbox) (addr : ℕ) → Placed m → addr % 4 ≡ 0 → addr + 4 ≤ m.addr + 16 + 4 * m.slots → IsLawfulRequest (read_word m.am addr)
quad_read m addr at aligned less =
    lawful_by at.row (read_word m.am addr) at.code refl at.kind refl refl
    (within_by (addresses_of at.row.space) (addr + 4) (omega (arith, at.within, less)))
    (rw (own_found Bytes03 addr (sym aligned)) refl)

-- a write of four bytes of a mailbox at a multiple of four is lawful
quad_write : (m : Mailbox) (addr n : ℕ) → Placed m → addr % 4 ≡ 0 → addr + 4 ≤ m.addr + 16 + 4 * m.slots
    → IsLawfulRequest (write_word m.am addr n)
quad_write m addr n at aligned less =
    lawful_by at.row (write_word m.am addr n) at.code refl at.kind refl refl
    (within_by (addresses_of at.row.space) (addr + 4) (omega (arith, at.within, less)))
    (rw (own_found Bytes03 addr (sym aligned)) refl)

-- a write of the lock's byte is lawful
clear_lawful : (m : Mailbox) → Placed m → m.addr % 4 ≡ 0 → IsLawfulRequest (clear_lock m.am m.addr)
clear_lawful m at aligned =
    lawful_by at.row (clear_lock m.am m.addr) at.code refl at.kind refl refl
    (within_by (addresses_of at.row.space) (m.addr + 1) (omega (arith, at.within)))
    (rw (own_found Byte0 m.addr (sym aligned)) refl)

-- each word lies at a multiple of four, within the mailbox
word_place : (m : Mailbox) (n : ℕ) → IsMailbox m → (word_at m n % 4 ≡ 0) × (word_at m n + 4 ≤ m.addr + 16 + 4 * m.slots)
word_place m n is = by_rest (n % m.slots) (mod_below n m.slots (omega (arith, is.some_slot)))
  where
    by_rest : (rest : ℕ) → rest < m.slots → ((m.addr + 16 + 4 * rest) % 4 ≡ 0) × (m.addr + 16 + 4 * rest + 4 ≤ m.addr + 16 + 4 * m.slots)
    by_rest rest less = (omega (arith, is.aligned), omega (arith, less))

-- each transfer of an accepted mailbox is lawful
mailbox_lawful : (m : Mailbox) (stage : Stage) → IsMailbox m → Looked m → Placed m → IsLawfulRequest (mailbox_request m stage)
mailbox_lawful m stages.Locks is looked at = looked.lock
mailbox_lawful m stages.ReadsPutCount is looked at = quad_read m (put_count_at m) at (omega (arith, is.aligned)) (omega arith)
mailbox_lawful m (stages.ReadsTakeCount p) is looked at = quad_read m (take_count_at m) at (omega (arith, is.aligned)) (omega arith)
mailbox_lawful m (stages.WritesWord p word) is looked at = let place = word_place m p is in quad_write m (word_at m p) word at place.0 place.1
mailbox_lawful m (stages.RaisesPutCount p) is looked at = quad_write m (put_count_at m) (raised p) at (omega (arith, is.aligned)) (omega arith)
mailbox_lawful m (stages.ReadsWord t) is looked at = let place = word_place m t is in quad_read m (word_at m t) at place.0 place.1
mailbox_lawful m (stages.RaisesTakeCount t word) is looked at =
    quad_write m (take_count_at m) (raised t) at (omega (arith, is.aligned)) (omega arith)
mailbox_lawful m (stages.Unlocks end) is looked at = clear_lawful m at is.aligned

-- no transfer of an accepted request is refused
pub stage_lawful : (request : SharedRequest) (stage : Stage) → IsWellFormed request → shared_refusal request ≡ None
    → IsLawfulRequest (stage_request request stage)
stage_lawful (Lock am addr) stage is none = no_refusal (set_lock am addr) _ refl none
stage_lawful (Unlock am addr) stage is none = no_refusal (clear_lock am addr) _ refl none
stage_lawful (Put mailbox word) stage is none =
    let look = looked mailbox none in mailbox_lawful mailbox stage is look (placed mailbox is look)
stage_lawful (Take mailbox) stage is none =
    let look = looked mailbox none in mailbox_lawful mailbox stage is look (placed mailbox is look)

-- each stage of an accepted request has its bus job
pub all_lawful : (s : SharedJob) (stage : Stage) → IsWellFormed s.request → shared_refusal s.request ≡ None
    → (job : Job) × (stage_job s stage ≡ Ok job)
all_lawful s stage is none = let one = stage_lawful s.request stage is none in (_, ap (checked_job s) one.1)

-- the first transfer of an accepted request is lawful, wherever its mailbox lies
pub first_lawful : (request : SharedRequest) → shared_refusal request ≡ None → IsLawfulRequest (stage_request request (first_stage request))
first_lawful (Lock am addr) none = no_refusal (set_lock am addr) _ refl none
first_lawful (Unlock am addr) none = no_refusal (clear_lock am addr) _ refl none
first_lawful (Put mailbox word) none = (looked mailbox none).lock
first_lawful (Take mailbox) none = (looked mailbox none).lock

-- an accepted request has not started before its first call
pub rests : (s : SharedJob) → shared_refusal s.request ≡ None → shared_next s [] ≡ NotStarted
rests s none =
    let one = first_lawful s.request none in
    ap (λ job. next_at (stage_begun (first_stage s.request) [] job)) (ap (checked_job s) one.1)

-- the first call of an accepted request requests the bus
pub asks : (s : SharedJob) → shared_refusal s.request ≡ None → shared_next s (None ∷ []) ≡ Invokes (OnBus (Ask s.slot s.level))
asks s none =
    let one = first_lawful s.request none in
    ap (λ job. next_at (progress_given s None (stage_begun (first_stage s.request) [] job))) (ap (checked_job s) one.1)
