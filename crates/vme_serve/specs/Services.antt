-- A service: the boards and the arbiter of a configuration's file, and its answer to each line.
use Rattle.std.specs.Prelude.{ℕ, ◌≡◌, ◌-◌, ◌^◌, List, [], ◌∷◌, ◌++◌, length, map, codes, None, unwrap_or}
use Rattle.vme_arbiter.specs.Arbitration.{opening_bus}
use Rattle.vme_core.specs.Runs.{Machine}
use Rattle.vme_core.specs.Machines.{opening, process_count}
use Rattle.vme_core.specs.NextSteps.{NextStep, result_in}
use Rattle.vme_master.specs.Tables.{Inputs}
use Rattle.vme_shared.specs.declared.reply.LineReply.{LineReply}
use Rattle.vme_shared.specs.declared.reply.LineReply.TheVariants.{Unfinished}
use Rattle.vme_grammar.specs.declared.line.Line.{Line}
use Rattle.vme_grammar.specs.Texts.{line_fault_text, output_line}
use Rattle.vme_script.specs.ReplyTexts.{reply_text}
use Rattle.vme_script.specs.Configurations.{Configuration, opening_memory}
use Rattle.vme_script.specs.Lawful.{IsLawful}
use Rattle.vme_line_task.specs.Tables.{next_given_with}
use Rattle.vme_serve.specs.declared.request.Asked.{Asked}
use Rattle.vme_serve.specs.declared.request.Asked.TheVariants.{NoBoard, Refused, Nothing, Request}
use Rattle.vme_serve.specs.Requests.{asked_of}
use Rattle.vme_serve.specs.Calls.{CallsMade, CanCountMore, calls_made}

-- the boards and the arbiter with their counts, and how many more calls can be counted
pub record ServiceView : Type 0 where
  pub config : Configuration
  pub machine : Machine
  pub left : ℕ

-- a service's boards and processors are those of its configuration, and each object can count the calls that are left
pub record IsSound (service : ServiceView) : Type 0 where
  pub lawful : IsLawful service.config
  pub boards : length service.machine.boards ≡ length service.config.boards
  pub process_count : process_count service.machine ≡ length service.config.boards
  pub steps : CanCountMore service.left service.machine

-- a service before its first line: memories of zeros, a free bus, and no step counted
abbrev pub opening_service : Configuration → ServiceView
opening_service config = record {
  config = config;
  machine = opening (map opening_memory config.boards) (opening_bus config.arbiter) (length config.boards);
  left = 2 ^ 64 - 1;
}

-- the reply to a line, and the service after it
pub record Served : Type 0 where
  pub reply : LineReply
  pub service : ServiceView

-- a line after its calls; one that has not ended is unfinished
abbrev pub line_end : ServiceView → (Inputs → NextStep LineReply) → CallsMade → Served
line_end service next made = record {
  reply = unwrap_or (result_in (next made.given)) Unfinished;
  service = record { config = service.config; machine = made.machine; left = made.left };
}

-- a line of a board's processor, which has one attempt, from its first call to its end
unfoldable pub line_served : ServiceView → ℕ → Line → Served
line_served service board line =
    let next : Inputs → NextStep LineReply = next_given_with service.config board 1 line in
    line_end service next (calls_made next board service.left service.machine (None ∷ []))

-- the answer to a line of a session, a line of text, and the service after it
pub record Answer : Type 0 where
  pub text : List ℕ
  pub service : ServiceView

-- an answer that changes nothing
abbrev pub unchanged : ServiceView → List ℕ → Answer
unchanged service text = record { text = output_line text; service = service }

-- the answer to a line that was served: the text of its reply
abbrev pub replied : Served → Answer
replied served = record { text = output_line (reply_text served.reply); service = served.service }

-- the answer to what a line asks for
abbrev pub answer_to : ServiceView → Asked → Answer
answer_to service NoBoard = unchanged service (codes "slot refused")
answer_to service (Refused fault) = unchanged service (codes "line refused " ++ line_fault_text fault)
answer_to service Nothing = unchanged service (codes "nothing")
answer_to service (Request board line) = replied (line_served service board line)

-- the answer to a line
abbrev pub answer : ServiceView → List ℕ → Answer
answer service line = answer_to service (asked_of service.config line)
