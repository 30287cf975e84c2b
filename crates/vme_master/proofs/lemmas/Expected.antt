-- The replies that requests and commands expect.
use Rattle.std.proofs.Common.{◌≡◌, ℕ, Option, Some, None, refl, ap}
use Rattle.std.specs.Prelude.{if◌then◌else◌, is_some}
use Rattle.std.specs.Option.{option_and_then}
use Rattle.vme_cycle.specs.declared.request.Request.{Request}
use Rattle.vme_cycle.specs.declared.request.Request.TheVariants as requests
use Rattle.vme_cycle.specs.Requests.{datum_len, function_of, reads}
use Rattle.vme_memory.specs.declared.reply.Reply.{Reply}
use Rattle.vme_memory.specs.Steps.{Command, LocalRead, LocalWrite, LocalModify, Read, Write, Modify, BlockRead, BlockWrite}
use Rattle.vme_memory.specs.Locals.{command_given}
use Rattle.vme_memory.specs.Data.{datum_command, reply_len, has_form}
use Rattle.vme_core.specs.declared.event.EventReply.TheVariants as replies
use Rattle.vme_master.specs.declared.expected.ExpectedReply.TheVariants as expected_replies
use Rattle.vme_master.specs.declared.job.LocalJob.{LocalJob}
use Rattle.vme_master.specs.declared.job.Job.TheVariants.{Local}
use Rattle.vme_master.specs.Jobs.{local_call, fits_call, request_expected, command_expected}
use Rattle.vme_master.specs.Machine.{expected_len, job_expected}

-- a request expects the reply that its two tests, for a read and for a function, give
pub expected_by_tests : (request : Request)
    → (if reads request then expected_replies.Read (datum_len request) else if is_some (function_of request) then expected_replies.Modify (datum_len request) else expected_replies.Write)
    ≡ request_expected request
expected_by_tests (requests.Read am addr n) = refl
expected_by_tests (requests.Write am addr bytes) = refl
expected_by_tests (requests.BlockRead am addr n count) = refl
expected_by_tests (requests.BlockWrite am addr n bytes) = refl
expected_by_tests (requests.BlockFill am addr n count bytes) = refl
expected_by_tests (requests.Modify am addr n f) = refl

-- the reply to the command of a datum has as many bytes as its request expects
pub datum_len_wanted : (request : Request) (i at : ℕ) → reply_len (datum_command request i at) ≡ expected_len (request_expected request)
datum_len_wanted (requests.Read am addr n) i at = refl
datum_len_wanted (requests.Write am addr bytes) i at = refl
datum_len_wanted (requests.BlockRead am addr n count) i at = refl
datum_len_wanted (requests.BlockWrite am addr n bytes) i at = refl
datum_len_wanted (requests.BlockFill am addr n count bytes) i at = refl
datum_len_wanted (requests.Modify am addr n f) i at = refl

-- the reply to a board command has as many bytes as the command expects
command_len_wanted : (command : Option Command) → option_and_then reply_len command ≡ expected_len (command_expected command)
command_len_wanted None = refl
command_len_wanted (Some (LocalRead at n)) = refl
command_len_wanted (Some (LocalWrite at new)) = refl
command_len_wanted (Some (LocalModify at n f)) = refl
command_len_wanted (Some (Read at n)) = refl
command_len_wanted (Some (Write at new)) = refl
command_len_wanted (Some (Modify at n f)) = refl
command_len_wanted (Some (BlockRead at n)) = refl
command_len_wanted (Some (BlockWrite at new)) = refl

-- a reply fits a local command exactly if it has the form that the command expects
pub local_len_wanted : (j : LocalJob) (reply : Reply) → fits_call (local_call j) (replies.Board reply) ≡ has_form (expected_len (job_expected (Local j))) reply
local_len_wanted j reply = ap (λ wanted. has_form wanted reply) (command_len_wanted (command_given j.cmd))
