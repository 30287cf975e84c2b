-- Where the parts of a mailbox lie, and which transfers a lock, an unlock, a put or a take makes.
use Rattle.std.specs.Prelude.{ℕ, ◌≡◌, ◌+◌, ◌-◌, ◌%◌, ◌^◌, ◌≤◌, [], ◌∷◌, Option, Some, None, Result, Ok, Err}
use Rattle.vme_cycle.specs.declared.fault.CycleFault.{CycleFault}
use Rattle.vme_cycle.specs.declared.modify.Modify.TheVariants.{Set}
use Rattle.vme_cycle.specs.declared.request.Request.{Request}
use Rattle.vme_cycle.specs.declared.request.Request.TheVariants as cycles
use Rattle.vme_cycle.specs.Functions.{number_bytes}
use Rattle.vme_cycle.specs.Refusals.{first_of}
use Rattle.vme_cycle.specs.Lawful.{transfer_of}
use Rattle.vme_shared.specs.Layout.{put_count_from, take_count_from, word_from, mailbox_len}
use Rattle.vme_shared.specs.declared.mailbox.Mailbox.{Mailbox}
use Rattle.vme_shared.specs.declared.request.SharedRequest.{SharedRequest}
use Rattle.vme_shared.specs.declared.request.SharedRequest.TheVariants.{Lock, Unlock, Put, Take}
use Rattle.vme_shared.specs.declared.stage.Stage.{Stage}
use Rattle.vme_shared.specs.declared.stage.Stage.TheVariants as stages

-- the address of the count of words put
abbrev pub put_count_at : Mailbox → ℕ
put_count_at m = put_count_from m.addr

-- the address of the count of words taken
abbrev pub take_count_at : Mailbox → ℕ
take_count_at m = take_count_from m.addr

-- the address of the word with number n
abbrev pub word_at : Mailbox → ℕ → ℕ
word_at m n = word_from m.addr m.slots n

-- the address after the last byte
abbrev pub mailbox_end : Mailbox → ℕ
mailbox_end m = m.addr + mailbox_len m.slots

-- a count plus one, modulo 2 ^ 32
abbrev pub raised : ℕ → ℕ
raised count = (count + 1) % 2 ^ 32

-- a mailbox lies at a multiple of four, has 1 to 64 slots, and ends within the 32-bit addresses
pub record IsMailbox (m : Mailbox) : Type 0 where
  pub aligned : m.addr % 4 ≡ 0
  pub some_slot : 1 ≤ m.slots
  pub few_slots : m.slots ≤ 64
  pub within : mailbox_end m ≤ 2 ^ 32

-- the mailbox of a put or a take satisfies `IsMailbox`
abbrev pub IsWellFormed : SharedRequest → Type 0
IsWellFormed (Lock am addr) = Unit {0}
IsWellFormed (Unlock am addr) = Unit {0}
IsWellFormed (Put mailbox word) = IsMailbox mailbox
IsWellFormed (Take mailbox) = IsMailbox mailbox

-- a lock is taken by one read-modify-write of its byte, which sets bit 7
abbrev pub set_lock : ℕ → ℕ → Request
set_lock am addr = cycles.Modify am addr 1 Set

-- a lock is released by one write of zero
abbrev pub clear_lock : ℕ → ℕ → Request
clear_lock am addr = cycles.Write am addr (record { items = 0 ∷ [] })

-- a count or a word is read as four bytes
abbrev pub read_word : ℕ → ℕ → Request
read_word am addr = cycles.Read am addr 4

-- a count or a word is written as four bytes, the most significant first
abbrev pub write_word : ℕ → ℕ → ℕ → Request
write_word am addr n = cycles.Write am addr (record { items = number_bytes 4 n })

-- the transfer of each stage of a put or a take
abbrev pub mailbox_request : Mailbox → Stage → Request
mailbox_request m stages.Locks = set_lock m.am m.addr
mailbox_request m stages.ReadsPutCount = read_word m.am (put_count_at m)
mailbox_request m (stages.ReadsTakeCount p) = read_word m.am (take_count_at m)
mailbox_request m (stages.WritesWord p word) = write_word m.am (word_at m p) word
mailbox_request m (stages.RaisesPutCount p) = write_word m.am (put_count_at m) (raised p)
mailbox_request m (stages.ReadsWord t) = read_word m.am (word_at m t)
mailbox_request m (stages.RaisesTakeCount t word) = write_word m.am (take_count_at m) (raised t)
mailbox_request m (stages.Unlocks end) = clear_lock m.am m.addr

-- the transfer of a stage; a lock and an unlock have one transfer each
abbrev pub stage_request : SharedRequest → Stage → Request
stage_request (Lock am addr) stage = set_lock am addr
stage_request (Unlock am addr) stage = clear_lock am addr
stage_request (Put mailbox word) stage = mailbox_request mailbox stage
stage_request (Take mailbox) stage = mailbox_request mailbox stage

-- the refusal in a result, if there is one
abbrev pub refusal_in : {T : Type 0} → Result T CycleFault → Option CycleFault
refusal_in (Ok x) = None
refusal_in (Err fault) = Some fault

-- the refusal of a mailbox: that of the lock's transfer, else that of a read of the last word
abbrev pub mailbox_refusal : Mailbox → Option CycleFault
mailbox_refusal m =
    first_of
    (refusal_in (transfer_of (set_lock m.am m.addr))
    ∷ refusal_in (transfer_of (read_word m.am (word_at m (m.slots - 1))))
    ∷ [])

-- the refusal of a request to a lock or a mailbox, if there is one
abbrev pub shared_refusal : SharedRequest → Option CycleFault
shared_refusal (Lock am addr) = refusal_in (transfer_of (set_lock am addr))
shared_refusal (Unlock am addr) = refusal_in (transfer_of (clear_lock am addr))
shared_refusal (Put mailbox word) = mailbox_refusal mailbox
shared_refusal (Take mailbox) = mailbox_refusal mailbox
