-- A put or a take is in the phase that its commands lead to.
use Rattle.std.proofs.Common.{◌≡◌, ℕ, ◌≤◌, ◌⊎◌, true, List, [], ◌∷◌, ◌++◌, Option, Some, None, Result, Ok, Err, refl, ap, sym, subst, ◌∙◌, inl, inr}
use Rattle.std.specs.Prelude.{◌==◌}
use Rattle.std.proofs.lemmas.Bool.{eq-eqb}
use Rattle.std.proofs.lemmas.List.{append-nil}
use Rattle.vme_cycle.specs.declared.fault.CycleFault.{CycleFault}
use Rattle.std.specs.Prelude.{is_some}
use Rattle.vme_memory.specs.Steps.{Command}
use Rattle.vme_shared.specs.declared.outcome.SharedOutcome.TheVariants as shared
use Rattle.vme_memory.specs.declared.reply.Reply.{Reply}
use Rattle.vme_core.specs.declared.event.EventReply.{EventReply}
use Rattle.vme_core.specs.declared.event.EventReply.TheVariants as replies
use Rattle.vme_core.specs.Calls.{Call, OnBoard}
use Rattle.vme_core.specs.NextSteps.{NextStep, NotStarted, Invokes, Returns}
use Rattle.vme_master.specs.declared.job.BusJob.{BusJob}
use Rattle.vme_master.specs.declared.job.Job.{Job}
use Rattle.vme_master.specs.declared.job.Job.TheVariants.{Bus}
use Rattle.vme_master.specs.Jobs.{ask_call, look_call, done_call, expected_outcome}
use Rattle.vme_master.specs.Tables.{Inputs, next_of}
use Rattle.vme_shared.specs.MailboxSteps.{BoardMailbox}
use Rattle.vme_shared.specs.Phases.{Phase, Idle, after_command}
use Rattle.vme_shared.specs.Words.{put_by, taken_by}
use Rattle.vme_shared.proofs.lemmas.Quiet.{no_put, no_taken}
use Rattle.vme_shared.specs.declared.mailbox.Mailbox.{Mailbox}
use Rattle.vme_shared.specs.declared.outcome.SharedOutcome.{SharedOutcome}
use Rattle.vme_shared.specs.declared.request.SharedRequest.{SharedRequest}
use Rattle.vme_shared.specs.declared.request.SharedRequest.TheVariants as shared_requests
use Rattle.vme_shared.specs.declared.stage.Stage.{Stage}
use Rattle.vme_shared.specs.declared.stage.Stage.TheVariants.{Locks}
use Rattle.vme_shared.specs.declared.stage.Stage.TheVariants as stages
use Rattle.vme_shared.specs.declared.stage.StageResult.{StageResult}
use Rattle.vme_shared.specs.declared.stage.StageResult.TheVariants.{Continue, Finish}
use Rattle.vme_shared.specs.Mailboxes.{IsWellFormed}
use Rattle.vme_shared.proofs.lemmas.Starts.{all_lawful}
use Rattle.vme_shared.specs.Steps.{first_stage, step_after}
use Rattle.vme_shared.specs.Tables.{SharedJob, Progress, At, Over, stage_job, stage_begun, step_begun, progress_by, progress_given, progress_of, task_shown, next_at}
use Rattle.vme_mailbox_laws.specs.Along.{mailbox_in, UsesMailbox, IsGood, AllGood, IsCount, AllCounts, phase_given, phase_along, words_given, put_by_outcome, taken_by_outcome}
use Rattle.vme_mailbox_laws.proofs.Single.{IsGoodTo, Waits, Answered, reply_bytes, waits_fresh, waits_called, waits_reported, answered_by, ended}
use Rattle.vme_mailbox_laws.proofs.Stages.{IsStage, is_stage, stage_command, stage_expected}
use Rattle.vme_mailbox_laws.proofs.Rows.{Before, Words, Leads, IsFine, IsFineEnd, goes}

-- the current stage in this phase: its datum has no reply yet, or has one whose outcome leads to the next step
abbrev pub IsCurrentStage : BoardMailbox → SharedRequest → Stage → BusJob → Inputs → Phase → List ℕ → List ℕ → Type 0
IsCurrentStage m request stage bus g phase put taken =
    (Waits bus g × (Before m request stage phase × Words request stage put taken))
    ⊎ ((reply : Reply) × Answered bus reply g
    × Leads m request (step_after request stage (expected_outcome (stage_expected stage) (reply_bytes reply))) phase put taken)

-- the current stage of a put or a take, with its phase and its words
pub record IsAt (m : BoardMailbox) (board : ℕ) (request : SharedRequest) (stage : Stage) (job : Job) (g : Inputs) (at : Option Phase)
    (put taken : List ℕ) : Type 0 where
  pub phase : Phase
  pub is : at ≡ Some phase
  pub own : IsStage m board stage job
  pub work : IsCurrentStage m request stage own.bus g phase put taken

-- the end of a put or a take: the phase is idle, and the words are those of the outcome
pub record IsOver (request : SharedRequest) (end : SharedOutcome) (at : Option Phase) (put taken : List ℕ) : Type 0 where
  pub is : at ≡ Some Idle
  pub put_is : put ≡ put_by_outcome end request
  pub taken_is : taken ≡ taken_by_outcome end
  pub fine : IsFineEnd end

-- the progress of a put or a take matches a phase and words
abbrev pub Stands : BoardMailbox → ℕ → SharedRequest → Progress → Option Phase → List ℕ → List ℕ → Type 0
Stands m board request (At stage job g) at put taken = IsAt m board request stage job g at put taken
Stands m board request (Over end) at put taken = IsOver request end at put taken

-- the progress still matches if the phase is the same, and no word is put or taken
unmoved : (m : BoardMailbox) (board : ℕ) (request : SharedRequest) (progress : Progress) (at after : Option Phase) (put taken : List ℕ) → after ≡ at
    → Stands m board request progress at put taken
    → Stands m board request progress after (put ++ put_by at after) (taken ++ taken_by at after)
unmoved m board request progress at after put taken same stands =
    rw same (subst (λ ps. Stands m board request progress at ps (taken ++ taken_by at at)) (sym (ap (λ ws. put ++ ws) (no_put at) ∙ append-nil put))
    (subst (λ ts. Stands m board request progress at put ts) (sym (ap (λ ws. taken ++ ws) (no_taken at) ∙ append-nil taken)) stands))

-- a mailbox of a put or a take has a slot
asked_slot : (request : SharedRequest) (mailbox : Mailbox) → mailbox_in request ≡ Some mailbox → IsWellFormed request → 1 ≤ mailbox.slots
asked_slot (shared_requests.Lock am addr) mailbox is formed = absurd cc
asked_slot (shared_requests.Unlock am addr) mailbox is formed = absurd cc
asked_slot (shared_requests.Put own word) mailbox is formed = let same : own ≡ mailbox = cc in subst (λ (o : Mailbox). 1 ≤ o.slots) same formed.some_slot
asked_slot (shared_requests.Take own) mailbox is formed = let same : own ≡ mailbox = cc in subst (λ (o : Mailbox). 1 ≤ o.slots) same formed.some_slot

-- the mailbox that a put or a take uses has a slot
pub some_slot : (s : SharedJob) (board : ℕ) (m : BoardMailbox) → UsesMailbox s board m → 1 ≤ m.slots
some_slot s board m uses = rw uses.lies.slots (asked_slot s.request uses.mailbox uses.asked uses.formed)

module _ (s : SharedJob) (board : ℕ) (m : BoardMailbox) (uses : UsesMailbox s board m) where
  -- the progress matches its phase and its words when a stage begins
  begun : (stage : Stage) (g : Inputs) (result : Result Job CycleFault) (at : Option Phase) (phase : Phase) (put taken : List ℕ) → stage_job s stage ≡ result
      → at ≡ Some phase → Before m s.request stage phase → Words s.request stage put taken → ((bus : BusJob) → Waits bus g)
      → Stands m board s.request (stage_begun stage g result) at put taken
  begun stage g (Ok job) at phase put taken made there before words waits =
      let own = is_stage s uses.mailbox board m stage job (some_slot s board m uses) uses.asked uses.lies made in
      record { phase = phase; is = there; own = own; work = inl (waits own.bus, (before, words)) }
  begun stage g (Err fault) at phase put taken made there before words waits =
      let lawful = all_lawful s stage uses.formed uses.started in let refused = sym made ∙ lawful.1 in absurd cc

  -- the progress matches its phase and its words after a step
  stepped : (step : StageResult) (at : Option Phase) (phase : Phase) (put taken : List ℕ) → at ≡ Some phase → Leads m s.request step phase put taken
      → Stands m board s.request (step_begun s step) at put taken
  stepped (Continue stage) at phase put taken there leads =
      begun stage (None ∷ []) (stage_job s stage) at phase put taken refl there leads.0 leads.1 (λ bus. waits_called bus [] (waits_fresh bus) refl)
  stepped (Finish end) at phase put taken there leads =
      record { is = there ∙ ap Some leads.0; put_is = leads.1; taken_is = leads.2; fine = leads.3 }

  -- the first stage begins in the idle phase
  pub opening : Stands m board s.request (progress_of s []) (Some Idle) [] []
  opening = by_request s.request refl
    where
      by_request : (request : SharedRequest) → s.request ≡ request
          → Stands m board s.request (stage_begun (first_stage s.request) [] (stage_job s (first_stage s.request))) (Some Idle) [] []
      by_request (shared_requests.Lock am addr) same = let none = ap mailbox_in (sym same) ∙ uses.asked in absurd cc
      by_request (shared_requests.Unlock am addr) same = let none = ap mailbox_in (sym same) ∙ uses.asked in absurd cc
      by_request (shared_requests.Put own word) same =
          let first : first_stage s.request ≡ Locks = ap first_stage same in
          rw first (begun Locks [] (stage_job s Locks) (Some Idle) Idle [] [] refl refl refl (refl, refl) (λ bus. waits_fresh bus))
      by_request (shared_requests.Take own) same =
          let first : first_stage s.request ≡ Locks = ap first_stage same in
          rw first (begun Locks [] (stage_job s Locks) (Some Idle) Idle [] [] refl refl refl (refl, refl) (λ bus. waits_fresh bus))

  -- the progress after one more reply matches the phase and the words after it
  abbrev pub Moved : Progress → Option EventReply → Option Phase → List ℕ → List ℕ → Type 0
  Moved progress last at put taken =
      Stands m board s.request (progress_given s last progress) (phase_given m board (next_at progress) last at)
      (put ++ put_by at (phase_given m board (next_at progress) last at)) (taken ++ taken_by at (phase_given m board (next_at progress) last at))

  -- the progress matches after a reply, if the progress that the reply leads to matches
  moved_to : (progress to : Progress) (last : Option EventReply) (at next : Option Phase) (put taken : List ℕ) → progress_given s last progress ≡ to
      → phase_given m board (next_at progress) last at ≡ next
      → Stands m board s.request to next (put ++ put_by at next) (taken ++ taken_by at next) → Moved progress last at put taken
  moved_to progress to last at next put taken goes_to phase_is stands =
      rw goes_to (subst (λ p. Stands m board s.request to p (put ++ put_by at p) (taken ++ taken_by at p)) (sym phase_is) stands)

  -- a stage whose datum has no reply yet stays the current one
  waits_stays : (stage : Stage) (job : Job) (bus : BusJob) (g : Inputs) → job ≡ Bus bus → Waits bus g
      → progress_by s stage job g (next_of job g) ≡ At stage job g
  waits_stays stage job bus g made waits =
      ap (λ j. progress_by s stage job g (next_of j g)) made
      ∙ elim waits.next [
        | inl rests ↦ ap (progress_by s stage job g) rests
        | inr (inl asks) ↦ ap (progress_by s stage job g) asks
        | inr (inr (inl looks)) ↦ ap (progress_by s stage job g) looks
        | inr (inr (inr moves)) ↦ ap (progress_by s stage job g) moves
      ]

  -- the progress still matches after a reply that keeps the phase, while the datum has no reply
  waits_on : (stage : Stage) (job : Job) (g : Inputs) (at : Option Phase) (put taken : List ℕ) (last : Option EventReply)
      (stands : IsAt m board s.request stage job g at put taken) → Waits stands.own.bus (last ∷ g)
      → Before m s.request stage stands.phase × Words s.request stage put taken
      → phase_given m board (next_at (At stage job g)) last at ≡ at → Moved (At stage job g) last at put taken
  waits_on stage job g at put taken last stands waits before same =
      moved_to (At stage job g) (At stage job (last ∷ g)) last at at put taken (waits_stays stage job stands.own.bus (last ∷ g) stands.own.is waits) same
      (unmoved m board s.request (At stage job (last ∷ g)) at at put taken refl
      (record { phase = stands.phase; is = stands.is; own = stands.own; work = inl (waits, before) }))

  -- the progress still matches after a reply of the arbiter to a request or a poll
  turned_on : (stage : Stage) (job : Job) (g : Inputs) (at : Option Phase) (put taken : List ℕ) (last : Option EventReply) (call : Call)
      (stands : IsAt m board s.request stage job g at put taken) → Waits stands.own.bus g
      → Before m s.request stage stands.phase × Words s.request stage put taken
      → ((call ≡ ask_call stands.own.bus) ⊎ (call ≡ look_call stands.own.bus)) → next_of job g ≡ Invokes call
      → IsGood (next_at (At stage job g)) last → Moved (At stage job g) last at put taken
  turned_on stage job g at put taken None call stands waits before which makes good =
      absurd (subst (λ n. IsGood (task_shown n) None) makes good)
  turned_on stage job g at put taken (Some (replies.Board reply)) call stands waits before which makes good =
      let fine = subst (λ n. IsGood (task_shown n) (Some (replies.Board reply))) makes good in
      elim which [
        | inl asks ↦ let fit = subst (λ c. IsGood (Invokes c) (Some (replies.Board reply))) asks fine in let no_fit = fit.0 in absurd cc
        | inr looks ↦ let fit = subst (λ c. IsGood (Invokes c) (Some (replies.Board reply))) looks fine in let no_fit = fit.0 in absurd cc
      ]
  turned_on stage job g at put taken (Some (replies.Bus reply)) call stands waits before which makes good =
      let fine = subst (λ n. IsGood (task_shown n) (Some (replies.Bus reply))) makes good in
      let makes_bus : next_of (Bus stands.own.bus) g ≡ Invokes call = ap (λ j. next_of j g) (sym stands.own.is) ∙ makes in
      let same : phase_given m board (next_at (At stage job g)) (Some (replies.Bus reply)) at ≡ at =
      ap (λ n. phase_given m board (task_shown n) (Some (replies.Bus reply)) at) makes
      ∙ elim which [
        | inl asks ↦ ap (λ c. phase_given m board (Invokes c) (Some (replies.Bus reply)) at) asks
        | inr looks ↦ ap (λ c. phase_given m board (Invokes c) (Some (replies.Bus reply)) at) looks
      ] in
      waits_on stage job g at put taken (Some (replies.Bus reply)) stands (waits_reported stands.own.bus stands.own.one g call reply which waits makes_bus fine)
      before same

  -- the progress still matches after the reply of the board to the datum
  datum_on : (stage : Stage) (job : Job) (g : Inputs) (at : Option Phase) (put taken : List ℕ) (last : Option EventReply)
      (stands : IsAt m board s.request stage job g at put taken) → Waits stands.own.bus g
      → Before m s.request stage stands.phase × Words s.request stage put taken
      → next_of job g ≡ Invokes (OnBoard board (Some (stage_command m stage))) → IsGood (next_at (At stage job g)) last
      → IsCount (phase_given m board (next_at (At stage job g)) last at) → Moved (At stage job g) last at put taken
  datum_on stage job g at put taken None stands waits before makes good count = absurd (subst (λ n. IsGood (task_shown n) None) makes good)
  datum_on stage job g at put taken (Some (replies.Bus reply)) stands waits before makes good count =
      let fine = subst (λ n. IsGood (task_shown n) (Some (replies.Bus reply))) makes good in let no_fit = fine.0 in absurd cc
  datum_on stage job g at put taken (Some (replies.Board reply)) stands waits before makes good count =
      let fine = subst (λ n. IsGood (task_shown n) (Some (replies.Board reply))) makes good in
      let makes_bus : next_of (Bus stands.own.bus) g ≡ Invokes (OnBoard board (Some (stage_command m stage))) =
      ap (λ j. next_of j g) (sym stands.own.is) ∙ makes in
      let answered = answered_by stands.own.bus stands.own.one g (OnBoard board (Some (stage_command m stage))) reply waits makes_bus fine in
      let fine_reply : IsFine m stage reply = record { form = fine.0; good = λ error. fine.1 (ap replies.Board error) } in
      let went = goes m s.request uses.mailbox uses.asked uses.lies.slots (some_slot s board m uses) put taken stage stands.phase reply before.0 before.1 fine_reply in
      let own_board : (board == board) ≡ true = eq-eqb board board refl in
      let after : phase_given m board (next_at (At stage job g)) (Some (replies.Board reply)) at ≡ Some went.next =
      ap (λ n. phase_given m board (task_shown n) (Some (replies.Board reply)) at) makes ∙ rw own_board (rw stands.is went.is) in
      let leads = went.leads (subst IsCount after count) in
      let stays : progress_by s stage job (Some (replies.Board reply) ∷ g) (next_of job (Some (replies.Board reply) ∷ g)) ≡ At stage job (Some (replies.Board reply) ∷ g) =
      ap (λ j. progress_by s stage job (Some (replies.Board reply) ∷ g) (next_of j (Some (replies.Board reply) ∷ g))) stands.own.is
      ∙ ap (progress_by s stage job (Some (replies.Board reply) ∷ g)) answered.next in
      moved_to (At stage job g) (At stage job (Some (replies.Board reply) ∷ g)) (Some (replies.Board reply)) at (Some went.next) put taken stays after
      (record {
        phase = went.next;
        is = refl;
        own = stands.own;
        work = inr (reply, answered, rw stands.is leads);
      })

  -- the progress still matches after the release of the bus, which ends the stage
  freed : (stage : Stage) (job : Job) (g : Inputs) (at : Option Phase) (put taken : List ℕ) (last : Option EventReply) (reply : Reply)
      (stands : IsAt m board s.request stage job g at put taken) → Answered stands.own.bus reply g
      → Leads m s.request (step_after s.request stage (expected_outcome (stage_expected stage) (reply_bytes reply))) stands.phase put taken
      → IsGood (next_at (At stage job g)) last → Moved (At stage job g) last at put taken
  freed stage job g at put taken last reply stands answered leads good =
      let makes : next_of job g ≡ Invokes (done_call stands.own.bus) = ap (λ j. next_of j g) stands.own.is ∙ answered.next in
      let fine : IsGoodTo (next_of (Bus stands.own.bus) g) last =
      subst (λ n. IsGoodTo n last) (sym answered.next) (subst (λ n. IsGood (task_shown n) last) makes good) in
      let end = ended stands.own.bus stands.own.one g last reply stands.own.place stands.own.placed answered fine in
      let outcome = expected_outcome (stage_expected stage) (reply_bytes reply) in
      let ends : next_of job (last ∷ g) ≡ Returns outcome =
      ap (λ j. next_of j (last ∷ g)) stands.own.is ∙ end.1 ∙ ap (λ a. Returns (expected_outcome a (reply_bytes reply))) stands.own.expected in
      let to : progress_given s last (At stage job g) ≡ step_begun s (step_after s.request stage outcome) =
      ap (progress_by s stage job (last ∷ g)) ends in
      let same : phase_given m board (next_at (At stage job g)) last at ≡ at =
      ap (λ n. phase_given m board (task_shown n) last at) makes ∙ ap (λ l. phase_given m board (Invokes (done_call stands.own.bus)) l at) end.0 in
      moved_to (At stage job g) (step_begun s (step_after s.request stage outcome)) last at at put taken to same
      (unmoved m board s.request (step_begun s (step_after s.request stage outcome)) at at put taken refl
      (stepped (step_after s.request stage outcome) at stands.phase put taken stands.is leads))

  -- the progress still matches after the first call of a stage
  called : (stage : Stage) (job : Job) (g : Inputs) (at : Option Phase) (put taken : List ℕ) (last : Option EventReply)
      (stands : IsAt m board s.request stage job g at put taken) → Waits stands.own.bus g
      → Before m s.request stage stands.phase × Words s.request stage put taken → next_of job g ≡ NotStarted
      → IsGood (next_at (At stage job g)) last → Moved (At stage job g) last at put taken
  called stage job g at put taken (Some reply) stands waits before rests good =
      let none = subst (λ n. IsGood (task_shown n) (Some reply)) rests good in absurd cc
  called stage job g at put taken None stands waits before rests good =
      let rests_bus : next_of (Bus stands.own.bus) g ≡ NotStarted = ap (λ j. next_of j g) (sym stands.own.is) ∙ rests in
      waits_on stage job g at put taken None stands (waits_called stands.own.bus g waits rests_bus) before
      (ap (λ n. phase_given m board (task_shown n) None at) rests)

  -- the progress still matches after one more good reply, at any stage
  pub moves : (progress : Progress) (last : Option EventReply) (at : Option Phase) (put taken : List ℕ) → Stands m board s.request progress at put taken
      → IsGood (next_at progress) last → IsCount (phase_given m board (next_at progress) last at) → Moved progress last at put taken
  moves (Over end) last at put taken stands good count = unmoved m board s.request (Over end) at at put taken refl stands
  moves (At stage job g) last at put taken stands good count =
      let to_job = ap (λ j. next_of j g) stands.own.is in
      elim stands.work [
        | inl waiting ↦
            elim waiting.0.next [
              | inl rests ↦ called stage job g at put taken last stands waiting.0 waiting.1 (to_job ∙ rests) good
              | inr (inl asks) ↦
                  turned_on stage job g at put taken last (ask_call stands.own.bus) stands waiting.0 waiting.1 (inl refl) (to_job ∙ asks) good
              | inr (inr (inl looks)) ↦
                  turned_on stage job g at put taken last (look_call stands.own.bus) stands waiting.0 waiting.1 (inr refl) (to_job ∙ looks) good
              | inr (inr (inr datum)) ↦
                  datum_on stage job g at put taken last stands waiting.0 waiting.1 (to_job ∙ datum ∙ ap Invokes stands.own.datum) good count
            ]
        | inr answered ↦ freed stage job g at put taken last answered.0 stands answered.1 answered.2 good
      ]

  -- in the phase before a stage, a put count that was read is a number of four bytes
  before_count : (stage : Stage) (phase : Phase) → Before m s.request stage phase → IsCount (Some phase)
  before_count stages.Locks phase before = subst (λ p. IsCount (Some p)) (sym before) tt
  before_count stages.ReadsPutCount phase before = subst (λ p. IsCount (Some p)) (sym before) tt
  before_count (stages.ReadsTakeCount p) phase before = subst (λ q. IsCount (Some q)) (sym before.0) before.1
  before_count (stages.WritesWord p word) phase before = subst (λ q. IsCount (Some q)) (sym before.2) tt
  before_count (stages.RaisesPutCount p) phase before = subst (λ q. IsCount (Some q)) (sym before.2) tt
  before_count (stages.ReadsWord t) phase before = subst (λ q. IsCount (Some q)) (sym before.1) tt
  before_count (stages.RaisesTakeCount t word) phase before = subst (λ q. IsCount (Some q)) (sym before) tt
  before_count (stages.Unlocks shared.Put) phase before = subst (λ q. IsCount (Some q)) (sym before) tt
  before_count (stages.Unlocks (shared.Took word)) phase before = subst (λ q. IsCount (Some q)) (sym before) tt
  before_count (stages.Unlocks shared.Full) phase before = subst (λ q. IsCount (Some q)) (sym before.2) tt
  before_count (stages.Unlocks shared.Empty) phase before = subst (λ q. IsCount (Some q)) (sym before.2) tt
  before_count (stages.Unlocks shared.Spent) phase before = subst (λ q. IsCount (Some q)) (sym before.2) tt
  before_count (stages.Unlocks end) phase before = absurd before

  -- in the phase of a step, a put count that was read is a number of four bytes
  leads_count : (step : StageResult) (phase : Phase) (put taken : List ℕ) → Leads m s.request step phase put taken → IsCount (Some phase)
  leads_count (Continue stage) phase put taken leads = before_count stage phase leads.0
  leads_count (Finish end) phase put taken leads = subst (λ p. IsCount (Some p)) (sym leads.0) tt

  -- in the phase of a progress, a put count that was read is a number of four bytes
  pub stands_count : (progress : Progress) (at : Option Phase) (put taken : List ℕ) → Stands m board s.request progress at put taken → IsCount at
  stands_count (Over end) at put taken stands = subst IsCount (sym stands.is) tt
  stands_count (At stage job g) at put taken stands =
      subst IsCount (sym stands.is)
      (elim stands.work [
        | inl waiting ↦ before_count stage stands.phase waiting.1.0
        | inr answered ↦ leads_count (step_after s.request stage (expected_outcome (stage_expected stage) (reply_bytes answered.0))) stands.phase put taken answered.2
      ])

  -- the command of a stage, with a good reply, follows the protocol
  datum_goes : (stage : Stage) (job : Job) (g : Inputs) (at : Option Phase) (put taken : List ℕ) (reply : Reply)
      (stands : IsAt m board s.request stage job g at put taken) → Waits stands.own.bus g
      → Before m s.request stage stands.phase × Words s.request stage put taken
      → IsGood (Invokes (OnBoard board (Some (stage_command m stage)))) (Some (replies.Board reply))
      → is_some (after_command m at (Some (stage_command m stage)) reply) ≡ true
  datum_goes stage job g at put taken reply stands waits before fine =
      let fine_reply : IsFine m stage reply = record { form = fine.0; good = λ error. fine.1 (ap replies.Board error) } in
      let went =
      goes m s.request uses.mailbox uses.asked uses.lies.slots (some_slot s board m uses) put taken stage stands.phase reply before.0 before.1 fine_reply in
      rw stands.is (rw went.is refl)

  -- at each progress a command with a good reply follows the protocol
  pub command_goes : (progress : Progress) (at : Option Phase) (put taken : List ℕ) (x : ℕ) (command : Option Command) (reply : Reply)
      → Stands m board s.request progress at put taken → next_at progress ≡ Invokes (OnBoard x command)
      → IsGood (Invokes (OnBoard x command)) (Some (replies.Board reply)) → is_some (after_command m at command reply) ≡ true
  command_goes (Over end) at put taken x command reply stands makes good = absurd cc
  command_goes (At stage job g) at put taken x command reply stands makes good =
      let to_job = ap (λ j. task_shown (next_of j g)) (sym stands.own.is) ∙ makes in
      elim stands.work [
        | inl waiting ↦
            elim waiting.0.next [
              | inl rests ↦ let no_call : NotStarted ≡ Invokes (OnBoard x command) = ap task_shown (sym rests) ∙ to_job in absurd cc
              | inr (inl asks) ↦
                  let other : Invokes (ask_call stands.own.bus) ≡ Invokes (OnBoard x command) = ap task_shown (sym asks) ∙ to_job in absurd cc
              | inr (inr (inl looks)) ↦
                  let other : Invokes (look_call stands.own.bus) ≡ Invokes (OnBoard x command) = ap task_shown (sym looks) ∙ to_job in absurd cc
              | inr (inr (inr datum)) ↦
                  let call : Invokes (OnBoard board (Some (stage_command m stage))) ≡ Invokes (OnBoard x command) =
                  ap Invokes (sym stands.own.datum) ∙ ap task_shown (sym datum) ∙ to_job in
                  let own : command ≡ Some (stage_command m stage) = cc in
                  let fine = subst (λ n. IsGood n (Some (replies.Board reply))) (sym call) good in
                  rw own (datum_goes stage job g at put taken reply stands waiting.0 waiting.1 fine)
            ]
        | inr answered ↦
            let other : Invokes (done_call stands.own.bus) ≡ Invokes (OnBoard x command) = ap task_shown (sym answered.1.next) ∙ to_job in absurd cc
      ]

  -- the progress matches its phase and its words, for all good replies
  pub stands_along : (given : Inputs) → AllGood s given → AllCounts m board s given
      → Stands m board s.request (progress_of s given) (phase_along m board s given) (words_given put_by m board s given) (words_given taken_by m board s given)
  stands_along [] good counts = opening
  stands_along (last ∷ before) good counts =
      moves (progress_of s before) last (phase_along m board s before) (words_given put_by m board s before) (words_given taken_by m board s before)
      (stands_along before good.1 counts.1) good.0 counts.0
