-- The phase in which a put or a take ends, and its words.
use Rattle.std.proofs.Common.{◌≡◌, ℕ, true, List, Option, refl, ap, subst, ◌∙◌, inl, inr}
use Rattle.std.specs.Prelude.{is_some}
use Rattle.vme_core.specs.NextSteps.{Returns}
use Rattle.vme_master.specs.declared.job.Job.{Job}
use Rattle.vme_master.specs.Tables.{Inputs, next_of}
use Rattle.vme_shared.specs.MailboxSteps.{BoardMailbox}
use Rattle.vme_shared.specs.Phases.{Phase}
use Rattle.vme_shared.specs.Words.{put_by, taken_by}
use Rattle.vme_shared.specs.declared.outcome.SharedOutcome.{SharedOutcome}
use Rattle.vme_shared.specs.declared.request.SharedRequest.{SharedRequest}
use Rattle.vme_shared.specs.declared.stage.Stage.{Stage}
use Rattle.vme_shared.specs.Tables.{SharedJob, Progress, At, Over, progress_of, task_shown, next_at, shared_next}
use Rattle.vme_mailbox_laws.specs.Along.{UsesMailbox, AllGood, AllCounts, phase_along, words_given}
use Rattle.vme_mailbox_laws.proofs.Courses.{IsAt, IsOver, Stands, stands_along}

-- a put or a take is always in some phase
some_phase : (m : BoardMailbox) (board : ℕ) (request : SharedRequest) (progress : Progress) (at : Option Phase) (put taken : List ℕ)
    → Stands m board request progress at put taken → is_some at ≡ true
some_phase m board request (At stage job g) at put taken stands = rw stands.is refl
some_phase m board request (Over end) at put taken stands = rw stands.is refl

-- the current stage of a put or a take has not returned an outcome
goes_on_yet : (m : BoardMailbox) (board : ℕ) (request : SharedRequest) (stage : Stage) (job : Job) (g : Inputs) (at : Option Phase) (put taken : List ℕ)
    (outcome : SharedOutcome) → IsAt m board request stage job g at put taken → task_shown (next_of job g) ≡ Returns outcome → ⊥
goes_on_yet m board request stage job g at put taken outcome stands is =
    let to_job = ap (λ j. next_of j g) stands.own.is in
    elim stands.work [
      | inl waiting ↦
          elim waiting.0.next [
            | inl rests ↦ let here = subst (λ n. task_shown n ≡ Returns outcome) (to_job ∙ rests) is in absurd cc
            | inr (inl asks) ↦ let here = subst (λ n. task_shown n ≡ Returns outcome) (to_job ∙ asks) is in absurd cc
            | inr (inr (inl looks)) ↦ let here = subst (λ n. task_shown n ≡ Returns outcome) (to_job ∙ looks) is in absurd cc
            | inr (inr (inr datum)) ↦ let here = subst (λ n. task_shown n ≡ Returns outcome) (to_job ∙ datum) is in absurd cc
          ]
      | inr answered ↦ let here = subst (λ n. task_shown n ≡ Returns outcome) (to_job ∙ answered.1.next) is in absurd cc
    ]

-- at the end the phase is idle, and the words are those of the outcome
pub ends_in : (m : BoardMailbox) (board : ℕ) (request : SharedRequest) (progress : Progress) (at : Option Phase) (put taken : List ℕ)
    (outcome : SharedOutcome) → Stands m board request progress at put taken → next_at progress ≡ Returns outcome
    → IsOver request outcome at put taken
ends_in m board request (At stage job g) at put taken outcome stands is =
    absurd (goes_on_yet m board request stage job g at put taken outcome stands is)
ends_in m board request (Over end) at put taken outcome stands is =
    let same : end ≡ outcome = cc in subst (λ e. IsOver request e at put taken) same stands

module _ (s : SharedJob) (given : Inputs) (board : ℕ) (m : BoardMailbox) (uses : UsesMailbox s board m) (good : AllGood s given)
    (counts : AllCounts m board s given) where
  -- with good replies, a put or a take follows the protocol
  pub goes_on : is_some (phase_along m board s given) ≡ true
  goes_on = some_phase m board s.request (progress_of s given) _ _ _ (stands_along s board m uses given good counts)

  -- with good replies, a put or a take leaves the mailbox at its end and reports its words
  pub ends : (outcome : SharedOutcome) → shared_next s given ≡ Returns outcome
      → IsOver s.request outcome (phase_along m board s given) (words_given put_by m board s given) (words_given taken_by m board s given)
  ends outcome is_end = ends_in m board s.request (progress_of s given) _ _ _ outcome (stands_along s board m uses given good counts) is_end
