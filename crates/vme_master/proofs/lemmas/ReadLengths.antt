-- The buffer's capacity is enough for the bytes that are read, and the offset of each datum is equal to its address
-- modulo four.
use Rattle.std.proofs.Common.{◌≡◌, ℕ, zero, suc, ◌+◌, ◌*◌, ◌%◌, ◌<◌, ◌≤◌, true, List, ◌++◌, length, Option, Some, None, refl, subst, arith, inl, inr, length-append}
use Rattle.std.specs.Prelude.{nat_lt, unwrap_or, IsSome}
use Rattle.std.proofs.Math.Nat.{mul-le-mul_left}
use Rattle.std.proofs.lemmas.Bool.{cases_Bool, ltb-true, eqb-true}
use Rattle.vme_cycle.specs.declared.request.Request.{Request}
use Rattle.vme_cycle.specs.declared.request.Request.TheVariants as requests
use Rattle.vme_cycle.specs.Requests.{datum_len, count_of, read_len}
use Rattle.vme_memory.specs.declared.reply.Reply.{Reply}
use Rattle.vme_memory.specs.declared.reply.Reply.TheVariants.{Bytes, Done, Berr}
use Rattle.vme_memory.specs.Data.{has_form}
use Rattle.vme_master.specs.declared.job.BusJob.{BusJob}
use Rattle.vme_master.specs.declared.job.Job.{Job}
use Rattle.vme_master.specs.declared.job.Job.TheVariants.{Bus, Local}
use Rattle.vme_master.specs.declared.phase.Phase.TheVariants.{Transferring}
use Rattle.vme_master.specs.Jobs.{request_expected}
use Rattle.vme_master.specs.Machine.{job_expected, expected_len, bytes_of, phase_at, datum_phase, phase_broken, phase_replied, IsPlaced, HasRead, IsSound, call_count, most_bytes, job_read_len}

-- one more datum of at most r bytes stays within n data
pub one_more : (r i n : ℕ) → i < n → r * i + r ≤ r * n
one_more r i n less =
    let upto : r * suc i ≤ r * n = mul-le-mul_left r less in
    let split : r * suc i ≡ r * i + r = grind arith in
    omega arith

-- the offset of a datum is below the end of the space
pub offset_below : (offset addr n count i most : ℕ) → offset ≤ addr → i < count → 1 ≤ n → addr + n * count ≤ most → offset + i * n < most
offset_below offset addr n count i most within less some end =
    let more = one_more n i count less in
    let same : n * i ≡ i * n = grind arith in
    omega arith

-- a datum's offset has the same remainder modulo four as its address
pub same_place : (offset addr distance : ℕ) → offset % 4 ≡ addr % 4 → (offset + distance) % 4 ≡ (addr + distance) % 4
same_place offset addr distance same = omega arith

-- the most bytes of one call, times the number of calls, are the bytes that the job reads at most
pub all_bytes : (job : Job) → most_bytes job * call_count job ≡ job_read_len job
all_bytes (Bus job) = bus_bytes job.transfer.request
  where
    bus_bytes : (request : Request) → unwrap_or (expected_len (request_expected request)) 0 * count_of request ≡ read_len request
    bus_bytes (requests.Read am addr n) = grind arith
    bus_bytes (requests.BlockRead am addr n count) = refl
    bus_bytes (requests.Modify am addr n f) = grind arith
    bus_bytes (requests.Write am addr bytes) = grind arith
    bus_bytes (requests.BlockWrite am addr n bytes) = grind arith
    bus_bytes (requests.BlockFill am addr n count bytes) = grind arith
all_bytes (Local job) = refl

-- a request reads no more bytes than all its data have
pub reads_within : (request : Request) → read_len request ≤ datum_len request * count_of request
reads_within (requests.Read am addr n) = omega arith
reads_within (requests.BlockRead am addr n count) = omega arith
reads_within (requests.Modify am addr n f) = omega arith
reads_within (requests.Write am addr bytes) = omega arith
reads_within (requests.BlockWrite am addr n bytes) = omega arith
reads_within (requests.BlockFill am addr n count bytes) = omega arith

-- a reply of the expected form has no more bytes than a datum
form_within :
    (request : Request) (reply : Reply) → has_form (expected_len (request_expected request)) reply ≡ true
    → length (bytes_of reply) ≤ unwrap_or (expected_len (request_expected request)) 0
form_within (requests.Read am addr n) (Bytes datum) form = let same = eqb-true (length datum.items) n form in omega arith
form_within (requests.BlockRead am addr n count) (Bytes datum) form = let same = eqb-true (length datum.items) n form in omega arith
form_within (requests.Modify am addr n f) (Bytes datum) form = let same = eqb-true (length datum.items) n form in omega arith
form_within (requests.Write am addr bytes) (Bytes datum) form = absurd cc
form_within (requests.BlockWrite am addr n bytes) (Bytes datum) form = absurd cc
form_within (requests.BlockFill am addr n count bytes) (Bytes datum) form = absurd cc
form_within request Done form = omega arith
form_within request Berr form = omega arith

-- a reply of the expected form has no more bytes than one call of the job reads
pub replied_within : (job : Job) (reply : Reply) → has_form (expected_len (job_expected job)) reply ≡ true → length (bytes_of reply) ≤ 8
    → length (bytes_of reply) ≤ most_bytes job
replied_within (Bus job) reply form short = form_within job.transfer.request reply form
replied_within (Local job) reply form short = short

-- the buffer's capacity is enough for the bytes of one more reply
pub buffer_before : (job : Job) (i capacity : ℕ) (read : List ℕ) (reply : Reply) → HasRead job (Transferring i) read
    → has_form (expected_len (job_expected job)) reply ≡ true → length (bytes_of reply) ≤ 8 → job_read_len job ≤ capacity
    → length read + length (bytes_of reply) ≤ capacity
buffer_before job i capacity read reply had form small all =
    let next = one_more (most_bytes job) i (call_count job) had.0 in
    let more = replied_within job reply form small in
    let whole = all_bytes job in
    omega (arith, next, more, had.1, all, whole)

-- a bus error keeps the bound on the bytes that were read
broken_buffer : (job : Job) (i : ℕ) (read : List ℕ) → length read ≤ job_read_len job → HasRead job (phase_broken job i) read
broken_buffer (Bus job) i read capacity = capacity
broken_buffer (Local job) i read capacity = capacity

-- the bound on the bytes that were read holds in the phase at a datum
datum_buffer : (job : BusJob) (place : Option (ℕ × ℕ)) (i : ℕ) (read : List ℕ) → place ≡ job.place
    → length read ≤ most_bytes (Bus job) * i → length read ≤ job_read_len (Bus job)
    → HasRead (Bus job) (datum_phase job place i) read
datum_buffer job None i read same so_far capacity = capacity
datum_buffer job (Some place) i read same so_far capacity =
    elim (cases_Bool (nat_lt i (count_of job.transfer.request))) [
      | inl less ↦ rw less (ltb-true i (count_of job.transfer.request) less, so_far, subst IsSome same refl)
      | inr past ↦ rw past capacity
    ]

-- the bound on the bytes that were read holds in the phase at the next call
next_buffer : (job : Job) (i : ℕ) (read : List ℕ) → i < call_count job → length read ≤ most_bytes job * (i + 1)
    → length read ≤ job_read_len job → HasRead job (phase_at job (i + 1)) read
next_buffer (Bus job) i read less so_far capacity = datum_buffer job job.place (i + 1) read refl so_far capacity
next_buffer (Local job) zero read less so_far capacity = capacity
next_buffer (Local job) (suc i) read less so_far capacity = absurd (omega arith)

-- a board's reply keeps the bound on the bytes that were read
replied_buffer : (job : Job) (i : ℕ) (read : List ℕ) (reply : Reply) → i < call_count job → length read ≤ most_bytes job * (i + 1)
    → length read ≤ job_read_len job → HasRead job (phase_replied job i reply) read
replied_buffer job i read (Bytes datum) less so_far capacity = next_buffer job i read less so_far capacity
replied_buffer job i read Done less so_far capacity = next_buffer job i read less so_far capacity
replied_buffer job i read Berr less so_far capacity = broken_buffer job i read capacity

-- the bound on the bytes that were read holds in the phase after a board's reply
pub buffer_after : (job : Job) (i : ℕ) (read : List ℕ) (reply : Reply) → i < call_count job → length read ≤ most_bytes job * i
    → length (bytes_of reply) ≤ most_bytes job → HasRead job (phase_replied job i reply) (read ++ bytes_of reply)
buffer_after job i read reply less had more =
    let next = one_more (most_bytes job) i (call_count job) less in
    let split : most_bytes job * (i + 1) ≡ most_bytes job * i + most_bytes job = grind arith in
    let all = length-append read (bytes_of reply) in
    let whole = all_bytes job in
    replied_buffer job i (read ++ bytes_of reply) reply less (omega (arith, all, split)) (omega (arith, all, next, whole))

-- a task is sound after a board's reply
pub sound_after : (job : Job) (i capacity : ℕ) (read : List ℕ) (reply : Reply) → IsPlaced job → HasRead job (Transferring i) read
    → has_form (expected_len (job_expected job)) reply ≡ true → length (bytes_of reply) ≤ 8 → job_read_len job ≤ capacity
    → IsSound (record { job = job; phase = phase_replied job i reply; read = read ++ bytes_of reply }) capacity
sound_after job i capacity read reply placed had form small enough = record {
  placed = placed;
  read = buffer_after job i read reply had.0 had.1 (replied_within job reply form small);
  enough = enough;
}
