-- The outcome of a transfer of one datum: as many bytes as it expects, or a bus error. A denial comes only from a reply
-- that does not fit, or from the arbiter.
use Rattle.std.proofs.Common.{◌≡◌, ◌≢◌, ℕ, ◌+◌, true, List, [], ◌∷◌, length, Option, Some, None, refl, ap, sym, subst, ◌∙◌, inl, inr}
use Rattle.std.specs.Prelude.{is_some}
use Rattle.std.specs.Option.{option_and_then}
use Rattle.std.proofs.lemmas.Bool.{cases_Bool, eqb-true}
use Rattle.vme_cycle.specs.Requests.{count_of}
use Rattle.arrayvec.specs.ArrayVec.{ArrayVec}
use Rattle.vme_memory.specs.declared.reply.Reply.{Reply}
use Rattle.vme_memory.specs.declared.reply.Reply.TheVariants.{Bytes, Done, Berr}
use Rattle.vme_memory.specs.Steps.{Command}
use Rattle.vme_memory.specs.Data.{reply_len, has_form}
use Rattle.vme_arbiter.specs.declared.command.ArbCmd.TheVariants as arb_commands
use Rattle.vme_arbiter.specs.declared.command.ArbReply.TheVariants as arb_replies
use Rattle.vme_core.specs.declared.event.EventReply.{EventReply}
use Rattle.vme_core.specs.declared.event.EventReply.TheVariants as replies
use Rattle.vme_core.specs.Calls.{Call, OnBoard, OnBus}
use Rattle.vme_core.specs.NextSteps.{NextStep, NotStarted, Invokes, Returns}
use Rattle.vme_master.specs.declared.expected.ExpectedReply.{ExpectedReply}
use Rattle.vme_master.specs.declared.expected.ExpectedReply.TheVariants as expected_replies
use Rattle.vme_master.specs.declared.job.BusJob.{BusJob}
use Rattle.vme_master.specs.declared.job.Job.TheVariants.{Bus}
use Rattle.vme_master.specs.declared.outcome.Outcome.{Outcome}
use Rattle.vme_master.specs.declared.outcome.Outcome.TheVariants as outcomes
use Rattle.vme_master.specs.Jobs.{datum_call, fits_call, request_expected, expected_outcome}
use Rattle.vme_master.specs.Tables.{Inputs, data_in, bytes_in, datum_or_done, outcome_by, bus_row, next_after, next_of}
use Rattle.vme_master.specs.Machine.{expected_len}
use Rattle.vme_master.proofs.lemmas.Expected.{datum_len_wanted}
use Rattle.vme_shared.proofs.lemmas.Granted.{outcome_granted}

-- two equal ends have the same outcome
same_end : (a b : Outcome) → Returns a ≡ Returns b → a ≡ b
same_end a b same = cc

-- a transfer that ends by a reply that is no denial ends with no denial
row_granted : (j : BusJob) (g : Inputs) (reply : EventReply) (outcome : Outcome) → reply ≢ replies.Bus arb_replies.Denied
    → bus_row j reply g ≡ Returns outcome → outcome ≢ outcomes.Denied
row_granted j g (replies.Bus arb_replies.Waiting) outcome good row = λ denied. absurd cc
row_granted j g (replies.Bus arb_replies.Granted) outcome good row = λ denied. absurd cc
row_granted j g (replies.Bus arb_replies.Freed) outcome good row = λ denied.
    outcome_granted j j.place g (same_end (outcome_by j j.place g) outcome row ∙ denied)
row_granted j g (replies.Bus arb_replies.Denied) outcome good row = λ denied. good refl
row_granted j g (replies.Board (Bytes datum)) outcome good row = λ denied. absurd cc
row_granted j g (replies.Board Done) outcome good row = λ denied. absurd cc
row_granted j g (replies.Board Berr) outcome good row = λ denied. absurd cc

-- after a reply that fits and is no denial, the outcome is no denial
pub good_end : (j : BusJob) (g : Inputs) (call : Call) (reply : EventReply) (outcome : Outcome) → next_of (Bus j) g ≡ Invokes call
    → fits_call call reply ≡ true → reply ≢ replies.Bus arb_replies.Denied → next_of (Bus j) (Some reply ∷ g) ≡ Returns outcome → outcome ≢ outcomes.Denied
good_end j g call reply outcome made fit good ends = row_granted j g reply outcome good (let after = rw (made, fit) at ends in after)

-- an outcome has as many bytes as are expected
abbrev pub IsFormed : ExpectedReply → Outcome → Type 0
IsFormed (expected_replies.Read n) (outcomes.Read bytes) = length bytes.items ≡ n
IsFormed (expected_replies.Modify n) (outcomes.Old bytes) = length bytes.items ≡ n
IsFormed expected_replies.Write outcomes.Done = Unit {0}
IsFormed expected (outcomes.Berr count bytes) = Unit {0}
IsFormed expected outcomes.Denied = Unit {0}
IsFormed expected outcome = ⊥

-- a bus error has the form of any outcome
berr_formed : (expected : ExpectedReply) (count : ℕ) (bytes : List ℕ) → IsFormed expected (outcomes.Berr count (record { items = bytes }))
berr_formed (expected_replies.Read n) count bytes = tt
berr_formed (expected_replies.Modify n) count bytes = tt
berr_formed expected_replies.Write count bytes = tt

-- a denial has the form of any outcome
denied_formed : (expected : ExpectedReply) → IsFormed expected outcomes.Denied
denied_formed (expected_replies.Read n) = tt
denied_formed (expected_replies.Modify n) = tt
denied_formed expected_replies.Write = tt

-- no datum was answered yet
abbrev IsBare : Inputs → Type 0
IsBare g = (data_in g ≡ 0) × (bytes_in g ≡ [])

-- what a transfer does next has its form
abbrev Formed : BusJob → Inputs → NextStep Outcome → Type 0
Formed j g NotStarted = g ≡ []
Formed j g (Invokes (OnBus (arb_commands.Ask slot level))) = IsBare g
Formed j g (Invokes (OnBus (arb_commands.Look slot))) = IsBare g
Formed j g (Invokes (OnBus (arb_commands.Done slot))) = IsFormed (request_expected j.transfer.request) (outcome_by j j.place g)
Formed j g (Invokes (OnBoard board command)) =
    IsBare g × (is_some j.place ≡ true) × (option_and_then reply_len command ≡ expected_len (request_expected j.transfer.request))
Formed j g (Returns outcome) = IsFormed (request_expected j.transfer.request) outcome

-- the call of the one datum has its form
datum_formed : (j : BusJob) (place : Option (ℕ × ℕ)) (g : Inputs) → j.place ≡ place → IsBare g → Formed j g (Invokes (datum_call j place 0))
datum_formed j None g placed bare = rw placed (berr_formed (request_expected j.transfer.request) 0 [])
datum_formed j (Some p) g placed bare = (bare, rw placed refl, datum_len_wanted j.transfer.request 0 _)

-- the first datum has its form
first_formed : (j : BusJob) (g : Inputs) → count_of j.transfer.request ≡ 1 → IsBare g → Formed j g (Invokes (datum_or_done j 0))
first_formed j g single bare = rw single (datum_formed j j.place g refl bare)

-- the release of the bus after the one datum has its form
last_formed : (j : BusJob) (g : Inputs) (count : ℕ) → count_of j.transfer.request ≡ 1 → count ≡ 0
    → IsFormed (request_expected j.transfer.request) (outcome_by j j.place g) → Formed j g (Invokes (datum_or_done j (count + 1)))
last_formed j g count single none formed = rw (single, none) formed

-- the outcome of a reply that fits has its form
expected_formed : (expected : ExpectedReply) (bytes : List ℕ) (wanted : Option ℕ) → wanted ≡ expected_len expected
    → (n : ℕ) → wanted ≡ Some n → length bytes ≡ n → IsFormed expected (expected_outcome expected bytes)
expected_formed (expected_replies.Read m) bytes wanted same n is len = let one : Some m ≡ Some n = sym same ∙ is in cc
expected_formed (expected_replies.Modify m) bytes wanted same n is len = let one : Some m ≡ Some n = sym same ∙ is in cc
expected_formed expected_replies.Write bytes wanted same n is len = let one : None ≡ Some n = sym same ∙ is in absurd cc

-- the outcome of bytes that fit has its form
bytes_formed : (expected : ExpectedReply) (wanted : Option ℕ) (datum : ArrayVec ℕ) → wanted ≡ expected_len expected → has_form wanted (Bytes datum) ≡ true
    → IsFormed expected (expected_outcome expected datum.items)
bytes_formed expected None datum same form = absurd cc
bytes_formed expected (Some n) datum same form = expected_formed expected datum.items (Some n) same n refl (eqb-true (length datum.items) n form)

-- the outcome of a write that fits has its form
done_formed : (expected : ExpectedReply) (wanted : Option ℕ) → wanted ≡ expected_len expected → has_form wanted Done ≡ true → IsFormed expected (expected_outcome expected [])
done_formed (expected_replies.Read n) None same form = absurd cc
done_formed (expected_replies.Modify n) None same form = absurd cc
done_formed expected_replies.Write None same form = tt
done_formed expected (Some n) same form = absurd cc

-- what follows a board's reply has its form
board_formed : (j : BusJob) (g : Inputs) (board : ℕ) (command : Option Command) (reply : Reply) → count_of j.transfer.request ≡ 1
    → Formed j g (Invokes (OnBoard board command)) → has_form (option_and_then reply_len command) reply ≡ true
    → Formed j (Some (replies.Board reply) ∷ g) (bus_row j (replies.Board reply) g)
board_formed j g board command (Bytes datum) single ((none, empty), some, wanted) form =
    last_formed j (Some (replies.Board (Bytes datum)) ∷ g) (data_in g) single none (by_place j.place some)
  where
    by_place : (place : Option (ℕ × ℕ)) → is_some place ≡ true
        → IsFormed (request_expected j.transfer.request) (outcome_by j place (Some (replies.Board (Bytes datum)) ∷ g))
    by_place None some = absurd cc
    by_place (Some p) some = rw empty (bytes_formed (request_expected j.transfer.request) (option_and_then reply_len command) datum wanted form)
board_formed j g board command Done single ((none, empty), some, wanted) form =
    last_formed j (Some (replies.Board Done) ∷ g) (data_in g) single none (by_place j.place some)
  where
    by_place : (place : Option (ℕ × ℕ)) → is_some place ≡ true
        → IsFormed (request_expected j.transfer.request) (outcome_by j place (Some (replies.Board Done) ∷ g))
    by_place None some = absurd cc
    by_place (Some p) some = rw empty (done_formed (request_expected j.transfer.request) (option_and_then reply_len command) wanted form)
board_formed j g board command Berr single ((none, empty), some, wanted) form = by_place j.place some
  where
    by_place : (place : Option (ℕ × ℕ)) → is_some place ≡ true
        → IsFormed (request_expected j.transfer.request) (outcome_by j place (Some (replies.Board Berr) ∷ g))
    by_place None some = absurd cc
    by_place (Some p) some = berr_formed (request_expected j.transfer.request) (data_in g) (bytes_in g)

-- what follows one more reply has its form
step_formed : (j : BusJob) (g : Inputs) (next : NextStep Outcome) (last : Option EventReply) → count_of j.transfer.request ≡ 1 → Formed j g next
    → Formed j (last ∷ g) (next_after (Bus j) next last g)
step_formed j g NotStarted None single formed = (ap data_in formed, ap bytes_in formed)
step_formed j g NotStarted (Some reply) single formed = denied_formed (request_expected j.transfer.request)
step_formed j g (Invokes call) None single formed = denied_formed (request_expected j.transfer.request)
step_formed j g (Invokes (OnBus (arb_commands.Ask slot level))) (Some (replies.Bus arb_replies.Granted)) single formed =
    first_formed j (Some (replies.Bus arb_replies.Granted) ∷ g) single formed
step_formed j g (Invokes (OnBus (arb_commands.Ask slot level))) (Some (replies.Bus arb_replies.Waiting)) single formed = formed
step_formed j g (Invokes (OnBus (arb_commands.Ask slot level))) (Some (replies.Bus arb_replies.Freed)) single formed = denied_formed (request_expected j.transfer.request)
step_formed j g (Invokes (OnBus (arb_commands.Ask slot level))) (Some (replies.Bus arb_replies.Denied)) single formed = denied_formed (request_expected j.transfer.request)
step_formed j g (Invokes (OnBus (arb_commands.Look slot))) (Some (replies.Bus arb_replies.Granted)) single formed =
    first_formed j (Some (replies.Bus arb_replies.Granted) ∷ g) single formed
step_formed j g (Invokes (OnBus (arb_commands.Look slot))) (Some (replies.Bus arb_replies.Waiting)) single formed = formed
step_formed j g (Invokes (OnBus (arb_commands.Look slot))) (Some (replies.Bus arb_replies.Freed)) single formed = denied_formed (request_expected j.transfer.request)
step_formed j g (Invokes (OnBus (arb_commands.Look slot))) (Some (replies.Bus arb_replies.Denied)) single formed = denied_formed (request_expected j.transfer.request)
step_formed j g (Invokes (OnBus (arb_commands.Done slot))) (Some (replies.Bus arb_replies.Freed)) single formed = formed
step_formed j g (Invokes (OnBus (arb_commands.Done slot))) (Some (replies.Bus arb_replies.Granted)) single formed = denied_formed (request_expected j.transfer.request)
step_formed j g (Invokes (OnBus (arb_commands.Done slot))) (Some (replies.Bus arb_replies.Waiting)) single formed = denied_formed (request_expected j.transfer.request)
step_formed j g (Invokes (OnBus (arb_commands.Done slot))) (Some (replies.Bus arb_replies.Denied)) single formed = denied_formed (request_expected j.transfer.request)
step_formed j g (Invokes (OnBus cmd)) (Some (replies.Board reply)) single formed = denied_formed (request_expected j.transfer.request)
step_formed j g (Invokes (OnBoard board command)) (Some (replies.Bus reply)) single formed = denied_formed (request_expected j.transfer.request)
step_formed j g (Invokes (OnBoard board command)) (Some (replies.Board reply)) single formed =
    elim (cases_Bool (fits_call (OnBoard board command) (replies.Board reply))) [
      | inl fit ↦ rw fit (board_formed j g board command reply single formed fit)
      | inr misfit ↦ rw misfit (denied_formed (request_expected j.transfer.request))
    ]
step_formed j g (Returns outcome) last single formed = formed

-- what a transfer does next after any replies has its form
next_formed : (j : BusJob) (g : Inputs) → count_of j.transfer.request ≡ 1 → Formed j g (next_of (Bus j) g)
next_formed j [] single = refl
next_formed j (last ∷ g) single = step_formed j g (next_of (Bus j) g) last single (next_formed j g single)

-- the outcome of a transfer of one datum has its form
pub ends_formed : (j : BusJob) (g : Inputs) (outcome : Outcome) → count_of j.transfer.request ≡ 1 → next_of (Bus j) g ≡ Returns outcome
    → IsFormed (request_expected j.transfer.request) outcome
ends_formed j g outcome single ends = subst (Formed j g) ends (next_formed j g single)
