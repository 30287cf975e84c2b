-- A call of a line is a call of its attempt.
use Rattle.std.proofs.Common.{◌≡◌, ℕ, List, Result, Ok, Err}
use Rattle.vme_cycle.specs.declared.fault.CycleFault.{CycleFault}
use Rattle.vme_core.specs.declared.event.EventReply.{EventReply}
use Rattle.vme_core.specs.Calls.{Call}
use Rattle.vme_core.specs.NextSteps.{Invokes}
use Rattle.vme_master.specs.declared.job.Job.{Job}
use Rattle.vme_master.specs.Tables.{Inputs, next_of}
use Rattle.vme_shared.specs.Tables.{SharedJob, shared_next}
use Rattle.vme_grammar.specs.declared.line.Line.{Line}
use Rattle.vme_script.specs.Configurations.{Configuration}
use Rattle.vme_line_task.specs.Scripts.{Attempt, Transferring, Awaiting, Sharing, line_attempt}
use Rattle.vme_line_task.specs.Tables.{attempts_of, lawful_next, next_given, given_of, line_next}
use Rattle.vme_line_task.proofs.lemmas.Below.{transferring_makes, waits_makes, shares_makes}

-- a job makes a call, for some replies
abbrev pub JobCalls : Job → Call → Type 0
JobCalls job call = (g : Inputs) × (next_of job g ≡ Invokes call)

-- a job of a lock or a mailbox makes a call, for some replies
abbrev pub SharedCalls : SharedJob → Call → Type 0
SharedCalls s call = (g : Inputs) × (shared_next s g ≡ Invokes call)

-- an attempt makes a call, if it is not refused
abbrev pub Calls : Result Attempt CycleFault → Call → Type 0
Calls (Ok (Transferring job)) call = JobCalls job call
Calls (Ok (Awaiting job want)) call = JobCalls job call
Calls (Ok (Sharing s)) call = SharedCalls s call
Calls (Err fault) call = ⊥

-- each call of an attempt that may be made again is a call of the attempt
lawful_calls : (tries : ℕ) (attempt : Result Attempt CycleFault) (given : Inputs) (call : Call)
    → lawful_next tries attempt given ≡ Invokes call → Calls attempt call
lawful_calls tries (Ok (Transferring job)) given call made =
    let g = (attempts_of (Transferring job) tries given).given in (g, transferring_makes (next_of job g) call made)
lawful_calls tries (Ok (Awaiting job want)) given call made =
    let g = (attempts_of (Awaiting job want) tries given).given in (g, waits_makes want (next_of job g) call made)
lawful_calls tries (Ok (Sharing s)) given call made =
    let g = (attempts_of (Sharing s) tries given).given in (g, shares_makes (shared_next s g) call made)
lawful_calls tries (Err fault) given call made = absurd cc

-- each call of a line is a call of its attempt
pub line_calls : (config : Configuration) (who : ℕ) (line : Line) (replies : List EventReply) (call : Call)
    → line_next config who line replies ≡ Invokes call → Calls (line_attempt config who line) call
unfolding next_given
line_calls config who line replies call made =
    lawful_calls config.tries (line_attempt config who line) (given_of replies) call made
