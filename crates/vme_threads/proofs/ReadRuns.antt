-- Reads over the bus: the calls of a read's task as one run of a processor.
use Rattle.std.proofs.Common.{◌≡◌, ℕ, zero, suc, ◌<◌, ◌≤◌, ◌+◌, ◌*◌, ◌%◌, ◌^◌, arith, true, false, List, [], ◌∷◌, ◌++◌, length, Bool, Option, Some, None, Result, Ok, Err, refl, ap, sym, subst, ◌∙◌}
use Rattle.std.specs.Prelude.{nat_lt, IfOk}
use Rattle.std.proofs.lemmas.Bool.{lt-ltb, ltb-true, false_from_ne_true}
use Rattle.std.proofs.lemmas.List.{length-append}
use Rattle.std.proofs.Math.Nat.{mul-le-mul_left}
use Rattle.vme_cycle.specs.Requests.{count_of}
use Rattle.vme_memory.specs.declared.reply.Reply.{Reply}
use Rattle.vme_arbiter.specs.declared.command.ArbCmd.TheVariants.{Ask, Look, Done}
use Rattle.vme_arbiter.specs.declared.command.ArbReply.{ArbReply}
use Rattle.vme_arbiter.specs.declared.command.ArbReply.TheVariants as arb_replies
use Rattle.vme_core.specs.declared.event.Event.{Event}
use Rattle.vme_core.specs.declared.event.Event.TheVariants as events
use Rattle.vme_core.specs.declared.event.EventReply.{EventReply}
use Rattle.vme_core.specs.declared.event.EventReply.TheVariants as replies
use Rattle.vme_core.specs.Calls.{call_of}
use Rattle.vme_core.specs.NextSteps.{call_in}
use Rattle.vme_core.specs.Runs.{Transition, move}
use Rattle.vme_master.specs.Jobs.{datum_call, request_expected}
use Rattle.vme_master.specs.declared.expected.ExpectedReply.TheVariants as expected_replies
use Rattle.vme_master.specs.declared.job.BusJob.{BusJob}
use Rattle.vme_master.specs.declared.job.Job.TheVariants.{Bus}
use Rattle.vme_master.specs.declared.phase.Phase.{Phase}
use Rattle.vme_master.specs.declared.phase.Phase.TheVariants.{Requesting, Polling, Transferring, Releasing, Finished, Denied}
use Rattle.vme_master.specs.Machine.{TaskView, advance, to_do, phase_at, phase_answered, datum_phase}
use Rattle.vme_port.specs.declared.fault.Spent.{Spent}
use Rattle.vme_threads.specs.declared.read.ReadEnd.{ReadEnd}
use Rattle.vme_threads.specs.declared.take.Taken.{Taken}
use Rattle.vme_threads.specs.declared.processor_pass.ProcessorPass.{ProcessorPass}
use Rattle.vme_threads.specs.declared.ports.Ports.{Ports}
use Rattle.vme_threads.specs.ProcessorPasses.{MatchesPorts, AddsTransitions, AddsCall}
use Rattle.vme_threads.specs.Reads.{read_task, Takes, RunsTask, phase_asked, phase_read, phase_freed, phase_taken, IsTaken}
use Rattle.vme_threads.proofs.Taken.{taken_behind}
use Rattle.vme_threads.proofs.ProcessorPasses.{made_none, made_more, fits_after}

-- a task without a further call stays where it is
pub runs_none : (t : TaskView) (d : ProcessorPass) → RunsTask t t d d
runs_none t d = record { run = []; made = made_none d; takes = refl }

-- a task takes replies and then others
takes_more : (a b c : TaskView) (r s : List Transition) → Takes a r b → Takes b s c → Takes a (r ++ s) c
takes_more a b c [] s first then = subst (λ (t : TaskView). Takes t s c) (sym first) then
takes_more a b c (m ∷ r) s first then = (first.0, takes_more (advance a (Some m.reply)) b c r s first.1 then)

-- a task that goes from one state to another, and from there to a third, goes to the third
pub runs_more : (a b c : TaskView) (d e f : ProcessorPass) → RunsTask a b d e → RunsTask b c e f → RunsTask a c d f
runs_more a b c d e f first then = record {
  run = first.run ++ then.run;
  made = made_more first.run then.run d e f first.made then.made;
  takes = takes_more a b c first.run then.run first.takes then.takes;
}

-- one call of a task
pub runs_one :
    (old new : TaskView) (event : Event) (reply : EventReply) (d e : ProcessorPass) → AddsTransitions (move d.who event reply ∷ []) d e
    → call_in (to_do old) ≡ Some (call_of event) → advance old (Some reply) ≡ new → RunsTask old new d e
runs_one old new event reply d e made calls is =
    record { run = move d.who event reply ∷ []; made = made; takes = (calls, is) }

-- after a task's calls, the pass is still that of the ports
pub runs_fit : (ports : Ports) (a b : TaskView) (d e : ProcessorPass) → RunsTask a b d e → MatchesPorts ports d → MatchesPorts ports e
runs_fit ports a b d e runs fits = fits_after ports runs.run d e runs.made fits

-- the request of the bus
pub asks_once :
    (job : BusJob) (reply : ArbReply) (d e : ProcessorPass)
    → AddsTransitions (move d.who (events.Bus (Ask job.slot job.level)) (replies.Bus reply) ∷ []) d e
    → RunsTask (read_task job Requesting []) (read_task job (phase_answered (Bus job) reply) []) d e
asks_once job reply d e made =
    runs_one (read_task job Requesting []) (read_task job (phase_answered (Bus job) reply) [])
    (events.Bus (Ask job.slot job.level)) (replies.Bus reply) d e made refl refl

-- a poll of the bus
pub polls_once :
    (job : BusJob) (reply : ArbReply) (d e : ProcessorPass)
    → AddsTransitions (move d.who (events.Bus (Look job.slot)) (replies.Bus reply) ∷ []) d e
    → RunsTask (read_task job Polling []) (read_task job (phase_answered (Bus job) reply) []) d e
polls_once job reply d e made =
    runs_one (read_task job Polling []) (read_task job (phase_answered (Bus job) reply) []) (events.Bus (Look job.slot))
    (replies.Bus reply) d e made refl refl

-- a read without a board releases the bus at once
pub no_board :
    (job : BusJob) (bytes : List ℕ) (d : ProcessorPass) → job.place ≡ None → bytes ≡ []
    → RunsTask (read_task job (phase_at (Bus job) 0) []) (read_task job (Releasing (Some 0)) bytes) d d
no_board job bytes d none empty =
    subst (λ (b : List ℕ). RunsTask (read_task job (phase_at (Bus job) 0) []) (read_task job (Releasing (Some 0)) b) d d) (sym empty)
    (subst (λ (p : Phase). RunsTask (read_task job p []) (read_task job (Releasing (Some 0)) []) d d)
    (sym (ap (λ (place : Option (ℕ × ℕ)). datum_phase job place 0) none)) (runs_none (read_task job (Releasing (Some 0)) []) d))

-- offsets of data have the remainders of their addresses
pub same_place : (offset addr i n m : ℕ) → offset % 4 ≡ addr % 4 → n ≡ m → (offset + i * n) % 4 ≡ (addr + i * m) % 4
same_place offset addr i n m same is =
    let base : (offset + i * n) % 4 ≡ (addr + i * n) % 4 = omega (arith, same) in
    base ∙ ap (λ k. (addr + i * k) % 4) is

-- offsets of data are at most their addresses, which have 32 bits
pub same_range :
    (offset addr i n m count : ℕ) → offset ≤ addr → offset < 2 ^ 32 → i < count → n ≡ m → addr + m * count ≤ 2 ^ 32
    → offset + i * n < 2 ^ 32
same_range offset addr i n zero count least range less is end =
    let same : i * n ≡ i * zero = ap (λ k. i * k) is in
    let none : i * zero ≡ 0 = grind arith in
    omega (arith, range, same, none)
same_range offset addr i n (suc m) count least range less is end =
    let up : suc m * suc i ≤ suc m * count = mul-le-mul_left (suc m) less in
    let split : suc m * suc i ≡ i * suc m + suc m = grind arith in
    let same : i * n ≡ i * suc m = ap (λ k. i * k) is in
    omega (arith, least, up, split, same, end)

-- the phase after the arbiter's reply to the release of the bus
abbrev pub phase_done : Option ℕ → ArbReply → Phase
phase_done berr arb_replies.Freed = Finished berr
phase_done berr reply = Denied

-- the release of the bus
pub releases_once :
    (job : BusJob) (berr : Option ℕ) (bytes : List ℕ) (reply : ArbReply) (d e : ProcessorPass)
    → AddsTransitions (move d.who (events.Bus (Done job.slot)) (replies.Bus reply) ∷ []) d e
    → RunsTask (read_task job (Releasing berr) bytes) (read_task job (phase_done berr reply) bytes) d e
releases_once job berr bytes reply d e made =
    runs_one (read_task job (Releasing berr) bytes) (read_task job (phase_done berr reply) bytes) (events.Bus (Done job.slot))
    (replies.Bus reply) d e made refl (is reply)
  where
    is : (reply : ArbReply)
        → advance (read_task job (Releasing berr) bytes) (Some (replies.Bus reply)) ≡ read_task job (phase_done berr reply) bytes
    is arb_replies.Granted = refl
    is arb_replies.Waiting = refl
    is arb_replies.Freed = refl
    is arb_replies.Denied = refl

-- the phase of a read at a datum that it has, if a board is selected
pub at_datum : (job : BusJob) (place : ℕ × ℕ) (i : ℕ) → job.place ≡ Some place → i < count_of job.transfer.request
    → phase_at (Bus job) i ≡ Transferring i
at_datum job place i is less =
    ap (λ (p : Option (ℕ × ℕ)). datum_phase job p i) is ∙ rw (lt-ltb i (count_of job.transfer.request) less) refl

-- one more datum of a read, whose bytes come behind those that were read before
pub reads_more :
    (job : BusJob) (place : ℕ × ℕ) (i n : ℕ) (reply : Reply) (d e f : ProcessorPass) (before old new : List ℕ) (taken : Taken)
    → job.place ≡ Some place → i < count_of job.transfer.request
    → request_expected job.transfer.request ≡ expected_replies.Read n
    → RunsTask (read_task job (phase_at (Bus job) 0) []) (read_task job (phase_at (Bus job) i) (before ++ old)) d e
    → AddsCall (datum_call job job.place i) (replies.Board reply) e f → IsTaken n reply old new taken
    → RunsTask (read_task job (phase_at (Bus job) 0) []) (read_task job (phase_taken job i taken) (before ++ new)) d f
reads_more job place i n reply d e f before old new taken is less expected runs one took =
    let at : phase_at (Bus job) i ≡ Transferring i = at_datum job place i is less in
    runs_more (read_task job (phase_at (Bus job) 0) []) (read_task job (Transferring i) (before ++ old))
    (read_task job (phase_taken job i taken) (before ++ new)) d e f
    (subst (λ (p : Phase). RunsTask (read_task job (phase_at (Bus job) 0) []) (read_task job p (before ++ old)) d e) at runs)
    (runs_one (read_task job (Transferring i) (before ++ old)) (read_task job (phase_taken job i taken) (before ++ new)) one.event
    (replies.Board reply) e f one.made (ap Some (sym one.calls)) (taken_behind job i n reply before old new taken expected took))

-- the request of the bus, by the phase after the reply
pub asked :
    (job : BusJob) (reply : ArbReply) (phase : Phase) (d e : ProcessorPass) → phase_answered (Bus job) reply ≡ phase
    → AddsTransitions (move d.who (events.Bus (Ask job.slot job.level)) (replies.Bus reply) ∷ []) d e
    → RunsTask (read_task job Requesting []) (read_task job phase []) d e
asked job reply phase d e is made =
    subst (λ (p : Phase). RunsTask (read_task job Requesting []) (read_task job p []) d e) is (asks_once job reply d e made)

-- one more poll of the bus, by the phase after the reply
pub polled :
    (job : BusJob) (reply : ArbReply) (phase : Phase) (d e f : ProcessorPass) → phase_answered (Bus job) reply ≡ phase
    → RunsTask (read_task job Polling []) (read_task job Polling []) d e
    → AddsTransitions (move e.who (events.Bus (Look job.slot)) (replies.Bus reply) ∷ []) e f
    → RunsTask (read_task job Polling []) (read_task job phase []) d f
polled job reply phase d e f is runs made =
    runs_more (read_task job Polling []) (read_task job Polling []) (read_task job phase []) d e f runs
    (subst (λ (p : Phase). RunsTask (read_task job Polling []) (read_task job p []) e f) is (polls_once job reply e f made))

-- the release of the bus, by the phase after the reply
pub released :
    (job : BusJob) (berr : Option ℕ) (reply : ArbReply) (phase : Phase) (d e : ProcessorPass) → phase_done berr reply ≡ phase
    → AddsTransitions (move d.who (events.Bus (Done job.slot)) (replies.Bus reply) ∷ []) d e → (bytes : List ℕ)
    → RunsTask (read_task job (Releasing berr) bytes) (read_task job phase bytes) d e
released job berr reply phase d e is made bytes =
    subst (λ (p : Phase). RunsTask (read_task job (Releasing berr) bytes) (read_task job p bytes) d e) is
    (releases_once job berr bytes reply d e made)

-- the request of the bus and the polls after it
pub then_polled :
    (job : BusJob) (reply : ArbReply) (result : Result Bool Spent) (d e f : ProcessorPass)
    → phase_answered (Bus job) reply ≡ Polling
    → AddsTransitions (move d.who (events.Bus (Ask job.slot job.level)) (replies.Bus reply) ∷ []) d e
    → IfOk result (λ granted. RunsTask (read_task job Polling []) (read_task job (phase_asked job granted) []) e f)
    → IfOk result (λ granted. RunsTask (read_task job Requesting []) (read_task job (phase_asked job granted) []) d f)
then_polled job reply (Ok granted) d e f is made runs =
    runs_more (read_task job Requesting []) (read_task job Polling []) (read_task job (phase_asked job granted) []) d e f
    (asked job reply Polling d e is made) runs
then_polled job reply (Err fault) d e f is made runs = tt

-- the bytes of one more datum are within those of all data
pub len_more : (n i count before after : ℕ) → before ≤ n * i → after ≤ before + n → i < count → after ≤ n * count
len_more n i count before after had more less =
    let up : n * suc i ≤ n * count = mul-le-mul_left n less in
    let split : n * suc i ≡ n * i + n = grind arith in
    omega (arith, had, more, up, split)

-- the bytes of the next data fit where those of all fit
pub room_more : (n i count before capacity : ℕ) → before ≤ n * i → i < count → n * count ≤ capacity → before + n ≤ capacity
room_more n i count before capacity had less all =
    let up : n * suc i ≤ n * count = mul-le-mul_left n less in
    let split : n * suc i ≡ n * i + n = grind arith in
    omega (arith, had, up, split, all)

-- one more datum of a read, by what became of its reply
pub reads_on :
    (job : BusJob) (board offset i n : ℕ) (reply : Reply) (d e f : ProcessorPass) (read before old new : List ℕ)
    (taken which : Taken)
    → taken ≡ which → job.place ≡ Some (board, offset) → i < count_of job.transfer.request
    → request_expected job.transfer.request ≡ expected_replies.Read n → before ++ old ≡ read
    → RunsTask (read_task job (phase_at (Bus job) 0) []) (read_task job (phase_at (Bus job) i) read) d e
    → AddsCall (datum_call job job.place i) (replies.Board reply) e f → IsTaken n reply old new taken
    → RunsTask (read_task job (phase_at (Bus job) 0) []) (read_task job (phase_taken job i which) (before ++ new)) d f
reads_on job board offset i n reply d e f read before old new taken which same is less expected moved runs one took =
    subst (λ (t : Taken). RunsTask (read_task job (phase_at (Bus job) 0) []) (read_task job (phase_taken job i t) (before ++ new)) d f)
    same
    (reads_more job (board, offset) i n reply d e f before old new taken is less expected
    (subst (λ (l : List ℕ). RunsTask (read_task job (phase_at (Bus job) 0) []) (read_task job (phase_at (Bus job) i) l) d e)
    (sym moved) runs) one took)

-- a read at its first datum has read no bytes
pub reads_none :
    (job : BusJob) (bytes : List ℕ) (d : ProcessorPass) → bytes ≡ []
    → RunsTask (read_task job (phase_at (Bus job) 0) []) (read_task job (phase_at (Bus job) 0) bytes) d d
reads_none job bytes d empty =
    subst (λ (b : List ℕ). RunsTask (read_task job (phase_at (Bus job) 0) []) (read_task job (phase_at (Bus job) 0) b) d d) (sym empty)
    (runs_none (read_task job (phase_at (Bus job) 0) []) d)

-- no bytes are no more than those of no data
pub len_none : (bytes : List ℕ) (n : ℕ) → bytes ≡ [] → length bytes ≤ n * 0
len_none bytes n empty = subst (λ (b : List ℕ). length b ≤ n * 0) (sym empty) (omega arith)

-- the bytes that were moved, and those of one more datum behind them, are within those of so many data and one more
pub len_next :
    (n i : ℕ) (read before old new : List ℕ) → length read ≤ n * i → before ++ old ≡ read → length new ≤ length old + n
    → length (before ++ new) ≤ n * (i + 1)
len_next n i read before old new had moved more =
    let split : n * (i + 1) ≡ n * i + n = grind arith in
    omega (arith, had, ap length moved, length-append before old, length-append before new, more, split)

-- a read past its last datum, with a board, releases the bus
pub reads_all :
    (job : BusJob) (board offset i : ℕ) (bytes : List ℕ) (d e : ProcessorPass) → job.place ≡ Some (board, offset)
    → i ≡ count_of job.transfer.request
    → RunsTask (read_task job (phase_at (Bus job) 0) []) (read_task job (phase_at (Bus job) i) bytes) d e
    → RunsTask (read_task job (phase_at (Bus job) 0) []) (read_task job (Releasing None) bytes) d e
reads_all job board offset i bytes d e is all runs =
    let last : phase_at (Bus job) i ≡ Releasing None =
    ap (λ (p : Option (ℕ × ℕ)). datum_phase job p i) is ∙ rw (past i (count_of job.transfer.request) all) refl in
    subst (λ (p : Phase). RunsTask (read_task job (phase_at (Bus job) 0) []) (read_task job p bytes) d e) last runs
  where
    past : (i n : ℕ) → i ≡ n → nat_lt i n ≡ false
    past i n same = false_from_ne_true (nat_lt i n) (λ less. let wrong : i < n = ltb-true i n less in omega (arith, wrong, same))

-- the data of a read that has requested the bus, by how they end
pub then_read :
    (job : BusJob) (granted : Bool) (end which : ReadEnd) (bytes : List ℕ) (d e f : ProcessorPass) → granted ≡ true → end ≡ which
    → RunsTask (read_task job Requesting []) (read_task job (phase_asked job granted) []) d e
    → RunsTask (read_task job (phase_at (Bus job) 0) []) (read_task job (phase_read end) bytes) e f
    → RunsTask (read_task job Requesting []) (read_task job (phase_read which) bytes) d f
then_read job granted end which bytes d e f grants is first then =
    runs_more (read_task job Requesting []) (read_task job (phase_at (Bus job) 0) []) (read_task job (phase_read which) bytes) d e f
    (subst (λ (g : Bool). RunsTask (read_task job Requesting []) (read_task job (phase_asked job g) []) d e) grants first)
    (subst (λ (r : ReadEnd). RunsTask (read_task job (phase_at (Bus job) 0) []) (read_task job (phase_read r) bytes) e f) is then)

-- the release of the bus after the data of a read
pub then_released :
    (job : BusJob) (berr : Option ℕ) (freed which : Bool) (bytes : List ℕ) (d e f : ProcessorPass) → freed ≡ which
    → RunsTask (read_task job Requesting []) (read_task job (Releasing berr) bytes) d e
    → RunsTask (read_task job (Releasing berr) bytes) (read_task job (phase_freed berr freed) bytes) e f
    → RunsTask (read_task job Requesting []) (read_task job (phase_freed berr which) bytes) d f
then_released job berr freed which bytes d e f is first then =
    runs_more (read_task job Requesting []) (read_task job (Releasing berr) bytes) (read_task job (phase_freed berr which) bytes) d e f
    first
    (subst (λ (g : Bool). RunsTask (read_task job (Releasing berr) bytes) (read_task job (phase_freed berr g) bytes) e f) is then)
