-- Between two data of a line that requests a transfer, all its transitions move data over the bus.
use Rattle.std.proofs.Common.{◌≡◌, ℕ, List, [], ◌∷◌, ◌++◌, map, Some, Result, Ok, Err, refl, ap, sym, subst, ◌∙◌, append_assoc}
use Rattle.std.specs.Prelude.{All}
use Rattle.std.proofs.lemmas.List.Elements.{All-nil, All-cons}
use Rattle.vme_cycle.specs.declared.fault.CycleFault.{CycleFault}
use Rattle.vme_cycle.specs.declared.request.Request.{Request}
use Rattle.vme_cycle.specs.declared.request.Request.TheVariants as requests
use Rattle.vme_cycle.specs.Requests.{addr_of}
use Rattle.vme_cycle.specs.Lawful.{Transfer, transfer_of}
use Rattle.vme_decode.specs.Select.{selection_at}
use Rattle.vme_memory.specs.Data.{datum_command}
use Rattle.vme_core.specs.declared.event.EventReply.{EventReply}
use Rattle.vme_core.specs.Calls.{Call, OnBoard, OnBus, call_of}
use Rattle.vme_core.specs.Runs.{Transition}
use Rattle.vme_core.specs.NextSteps.{NextStep, Invokes, Returns}
use Rattle.vme_master.specs.declared.job.BusJob.{BusJob}
use Rattle.vme_master.specs.declared.job.Job.{Job}
use Rattle.vme_master.specs.declared.job.Job.TheVariants as jobs
use Rattle.vme_master.specs.declared.outcome.Outcome.{Outcome}
use Rattle.vme_master.specs.Tables.{Inputs, next_of}
use Rattle.vme_master.proofs.lemmas.Tenures.{data_go_on}
use Rattle.vme_shared.specs.declared.reply.LineReply.{LineReply}
use Rattle.vme_shared.specs.declared.reply.LineReply.TheVariants.{Refused}
use Rattle.vme_grammar.specs.declared.line.Line.{Line}
use Rattle.vme_grammar.specs.declared.line.Line.TheVariants as lines
use Rattle.vme_script.specs.Boards.{entries_of}
use Rattle.vme_script.specs.Configurations.{Configuration}
use Rattle.vme_line_task.specs.Scripts.{slot_at, level_at}
use Rattle.vme_line_task.specs.Tables.{transferring_next, next_given, line_next, given_of}
use Rattle.vme_line_task.specs.Tenures.{IsLocal}
use Rattle.vme_line_task.specs.Traces.{Continues}
use Rattle.vme_line_task.proofs.lemmas.Below.{transferring_makes}
use Rattle.vme_line_task.proofs.lemmas.Once.{all_given}
use Rattle.vme_runner.specs.OrderLaws.{IsOverBus, MovesData}
use Rattle.vme_runner.specs.TransferTenures.{CallsBoard}
use Rattle.vme_runner.proofs.OneAfterAnother.{at_datum}

-- the command of a datum is none of the local port
not_local : (request : Request) (i at : ℕ) → IsLocal (Some (datum_command request i at)) → ⊥
not_local (requests.Read am addr n) i at local = local
not_local (requests.Write am addr bytes) i at local = local
not_local (requests.BlockRead am addr n count) i at local = local
not_local (requests.BlockWrite am addr n bytes) i at local = local
not_local (requests.BlockFill am addr n count bytes) i at local = local
not_local (requests.Modify am addr n f) i at local = local

-- a call on a board that a transfer makes goes over the bus
goes_over : (j : BusJob) (g : Inputs) (call : Call) → next_of (jobs.Bus j) g ≡ Invokes call → CallsBoard {R = Outcome} (Invokes call)
    → IsOverBus call
goes_over j g (OnBoard place command) made at =
    let datum = data_go_on j g place command made in
    λ local. not_local j.transfer.request _ _ (subst IsLocal datum.own local)
goes_over j g (OnBus cmd) made at = absurd at

-- a call over the bus is on a board
over_calls : (call : Call) → IsOverBus call → CallsBoard {R = Outcome} (Invokes call)
over_calls (OnBoard place command) over = tt
over_calls (OnBus cmd) over = absurd over

-- the replies to a line after these transitions
abbrev pub replied : List Transition → List EventReply → List EventReply
replied [] replies = replies
replied (m ∷ moves) replies = replied moves (m.reply ∷ replies)

-- they are the replies before, and newer ones
newer_replies : (moves : List Transition) (replies : List EventReply) → (newer : List EventReply) × (replied moves replies ≡ newer ++ replies)
newer_replies [] replies = ([], refl)
newer_replies (m ∷ moves) replies =
    let more = newer_replies moves (m.reply ∷ replies) in
    (more.0 ++ m.reply ∷ [], more.1 ∙ sym (append_assoc more.0 (m.reply ∷ []) replies))

-- what a line was given, by the newer replies and those before
given_newer : (newer replies : List EventReply) → given_of (newer ++ replies) ≡ map Some newer ++ given_of replies
given_newer [] replies = refl
given_newer (one ∷ newer) replies = ap (λ (g : Inputs). Some one ∷ g) (given_newer newer replies)

-- a line continues after the first of its transitions
pub after_first : (config : Configuration) (board : ℕ) (line : Line) (before : List EventReply) (first rest : List Transition) (last : List EventReply)
    → Continues config board line before (first ++ rest) last → Continues config board line (replied first before) rest last
after_first config board line before [] rest last goes = goes
after_first config board line before (m ∷ first) rest last goes =
    after_first config board line (m.reply ∷ before) first rest last goes.1

-- an end is no call
ends_not : (answer : LineReply) (call : Call) → ◌≡◌ {A = NextStep LineReply} (Returns answer) (Invokes call) → ⊥
ends_not answer call same = cc

-- the transfer of a processor's lawful request
abbrev own_job : Configuration → ℕ → Transfer → BusJob
own_job config board t = record {
  slot = slot_at config board;
  level = level_at config board;
  transfer = t;
  place = selection_at (entries_of config.boards) t.am (addr_of t.request);
}

-- a line that requests a transfer does next what the transfer does
request_next : (config : Configuration) (board : ℕ) (request : Request) (t : Transfer) (replies : List EventReply) → transfer_of request ≡ Ok t
    → line_next config board (lines.Bus request) replies ≡ transferring_next (next_of (jobs.Bus (own_job config board t)) (given_of replies))
unfolding next_given
request_next config board request t replies lawful =
    rw lawful (ap (λ (g : Inputs). transferring_next (next_of (jobs.Bus (own_job config board t)) g))
    (all_given (jobs.Bus (own_job config board t)) config.tries (given_of replies)))

-- so its call is the transfer's
request_makes : (config : Configuration) (board : ℕ) (request : Request) (t : Transfer) (replies : List EventReply) (call : Call)
    → transfer_of request ≡ Ok t → line_next config board (lines.Bus request) replies ≡ Invokes call
    → next_of (jobs.Bus (own_job config board t)) (given_of replies) ≡ Invokes call
request_makes config board request t replies call lawful made =
    transferring_makes (next_of (jobs.Bus (own_job config board t)) (given_of replies)) call
    (sym (request_next config board request t replies lawful) ∙ made)

-- a line whose request is refused makes no call
refused_next : (config : Configuration) (board : ℕ) (request : Request) (fault : CycleFault) (replies : List EventReply)
    → transfer_of request ≡ Err fault → line_next config board (lines.Bus request) replies ≡ Returns (Refused fault)
unfolding next_given
refused_next config board request fault replies refused = rw refused refl

-- a transition over the bus that a line makes is at a datum of its transfer
at_call : (config : Configuration) (board : ℕ) (request : Request) (t : Transfer) (replies : List EventReply) (m : Transition)
    → transfer_of request ≡ Ok t → line_next config board (lines.Bus request) replies ≡ Invokes (call_of m.event) → MovesData m
    → CallsBoard (next_of (jobs.Bus (own_job config board t)) (given_of replies))
at_call config board request t replies m lawful made over =
    subst CallsBoard (sym (request_makes config board request t replies (call_of m.event) lawful made)) (over_calls (call_of m.event) over)

-- the transitions of a line before a datum, from a datum on, are data
data_until : (config : Configuration) (board : ℕ) (request : Request) (t : Transfer) → transfer_of request ≡ Ok t
    → (moves : List Transition) (start newer last : List EventReply) (n : Transition) (rest : List Transition)
    → CallsBoard (next_of (jobs.Bus (own_job config board t)) (given_of start))
    → Continues config board (lines.Bus request) (newer ++ start) (moves ++ n ∷ rest) last → MovesData n → All MovesData moves
data_until config board request t lawful [] start newer last n rest first goes over = All-nil MovesData
data_until config board request t lawful (o ∷ moves) start newer last n rest first goes over =
    let j = own_job config board t in
    let end = after_first config board (lines.Bus request) (newer ++ start) (o ∷ moves) (n ∷ rest) last goes in
    let more = newer_replies (o ∷ moves) (newer ++ start) in
    let there : CallsBoard (next_of (jobs.Bus j) (given_of (replied (o ∷ moves) (newer ++ start)))) =
    at_call config board request t (replied (o ∷ moves) (newer ++ start)) n lawful end.0 over in
    let given : given_of (replied (o ∷ moves) (newer ++ start)) ≡ map Some more.0 ++ (map Some newer ++ given_of start) =
    ap given_of more.1 ∙ given_newer more.0 (newer ++ start) ∙ ap (λ (g : Inputs). map Some more.0 ++ g) (given_newer newer start) in
    let at : CallsBoard (next_of (jobs.Bus j) (map Some newer ++ given_of start)) =
    at_datum j (given_of start) (map Some newer) (map Some more.0) first
    (subst (λ (g : Inputs). CallsBoard (next_of (jobs.Bus j) g)) given there) in
    let here : CallsBoard (next_of (jobs.Bus j) (given_of (newer ++ start))) =
    subst (λ (g : Inputs). CallsBoard (next_of (jobs.Bus j) g)) (sym (given_newer newer start)) at in
    let made = request_makes config board request t (newer ++ start) (call_of o.event) lawful goes.0 in
    All-cons MovesData o moves (goes_over j (given_of (newer ++ start)) (call_of o.event) made (subst CallsBoard made here))
    (data_until config board request t lawful moves start (o.reply ∷ newer) last n rest first goes.1 over)

-- the transitions of a line between two of its data are data
pub data_between : (config : Configuration) (board : ℕ) (request : Request) (first between rest : List Transition) (m n : Transition)
    (last : List EventReply)
    → Continues config board (lines.Bus request) [] (first ++ m ∷ (between ++ n ∷ rest)) last → MovesData m → MovesData n
    → All MovesData between
data_between config board request first between rest m n last goes over over_n =
    let at = after_first config board (lines.Bus request) [] first (m ∷ (between ++ n ∷ rest)) last goes in
    by_transfer (transfer_of request) refl at
  where
    by_transfer : (transfer : Result Transfer CycleFault) → transfer_of request ≡ transfer
        → Continues config board (lines.Bus request) (replied first []) (m ∷ (between ++ n ∷ rest)) last → All MovesData between
    by_transfer (Err fault) is at =
        absurd (ends_not (Refused fault) (call_of m.event) (sym (refused_next config board request fault (replied first []) is) ∙ at.0))
    by_transfer (Ok t) is at =
        data_until config board request t is between (replied first []) (m.reply ∷ []) last n rest
        (at_call config board request t (replied first []) m is at.0 over) at.1 over_n
