-- The outcome of a transfer that had the bus is no denial.
use Rattle.std.proofs.Common.{◌≢◌, ℕ, List, [], ◌∷◌, Option, Some, None}
use Rattle.vme_memory.specs.declared.reply.Reply.TheVariants.{Bytes, Done, Berr}
use Rattle.vme_core.specs.declared.event.EventReply.TheVariants as replies
use Rattle.vme_master.specs.declared.expected.ExpectedReply.{ExpectedReply}
use Rattle.vme_master.specs.declared.expected.ExpectedReply.TheVariants as expected_replies
use Rattle.vme_master.specs.declared.job.BusJob.{BusJob}
use Rattle.vme_master.specs.declared.outcome.Outcome.TheVariants as outcomes
use Rattle.vme_master.specs.Jobs.{expected_outcome}
use Rattle.vme_master.specs.Tables.{Inputs, outcome_by}

-- the outcome of expected bytes is no denial
pub expected_granted : (expected : ExpectedReply) (bytes : List ℕ) → expected_outcome expected bytes ≢ outcomes.Denied
expected_granted (expected_replies.Read n) bytes = λ same. absurd cc
expected_granted (expected_replies.Modify n) bytes = λ same. absurd cc
expected_granted expected_replies.Write bytes = λ same. absurd cc

-- the outcome at the release of the bus is no denial
pub outcome_granted : (j : BusJob) (place : Option (ℕ × ℕ)) (g : Inputs) → outcome_by j place g ≢ outcomes.Denied
outcome_granted j None g = λ same. absurd cc
outcome_granted j (Some place) [] = expected_granted _ _
outcome_granted j (Some place) (None ∷ before) = expected_granted _ _
outcome_granted j (Some place) (Some (replies.Bus reply) ∷ before) = expected_granted _ _
outcome_granted j (Some place) (Some (replies.Board (Bytes datum)) ∷ before) = expected_granted _ _
outcome_granted j (Some place) (Some (replies.Board Done) ∷ before) = expected_granted _ _
outcome_granted j (Some place) (Some (replies.Board Berr) ∷ before) = λ same. absurd cc
