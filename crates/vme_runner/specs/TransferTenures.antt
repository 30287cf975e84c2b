-- Defines the place of a line's transitions in one order, and one tenure of the bus.
use Rattle.std.specs.Prelude.{ℕ, ◌≡◌, ◌+◌, ◌≤◌, ◌<◌, List, ◌∷◌, ◌++◌, length, take, slice_get, Option, Some, All}
use Rattle.vme_memory.specs.declared.reply.Reply.TheVariants.{Bytes, Done}
use Rattle.vme_core.specs.declared.event.EventReply.{EventReply}
use Rattle.vme_core.specs.declared.event.EventReply.TheVariants as replies
use Rattle.vme_core.specs.Runs.{Transition}
use Rattle.vme_core.specs.Calls.{OnBoard}
use Rattle.vme_core.specs.NextSteps.{NextStep, Invokes}
use Rattle.vme_shared.specs.declared.reply.LineReply.{LineReply}
use Rattle.vme_grammar.specs.declared.line.Line.{Line}
use Rattle.vme_script.specs.Configurations.{Configuration}
use Rattle.vme_line_task.specs.Scripts.{slot_at, lines_at}
use Rattle.vme_line_task.specs.Traces.{LineTrace, IsTrace}
use Rattle.vme_bus_objects.specs.Runs.{transitions_of}
use Rattle.vme_run.specs.Orders.{machine_after}
use Rattle.vme_runner.specs.OrderLaws.{MovesData}

-- the next call is one on a board
abbrev pub CallsBoard : {R : Type 0} → NextStep R → Type 0
CallsBoard (Invokes (OnBoard place command)) = Unit {0}
CallsBoard next = ⊥

-- a reply is a board's, and no bus error
abbrev pub AnswersDatum : Option EventReply → Type 0
AnswersDatum (Some (replies.Board (Bytes datum))) = Unit {0}
AnswersDatum (Some (replies.Board Done)) = Unit {0}
AnswersDatum given = ⊥

-- the line at an index of a processor's script in a run: of the processor's transitions, these are its trace, the earlier
-- ones the trace of the lines before it
pub record IsLineIn (config : Configuration) (run : List Transition) (who index : ℕ) (line : Line)
    (earlier own later : List Transition) : Type 0 where
  pub found : slice_get (lines_at config who) index ≡ Some line
  pub answers : List LineReply
  pub before : IsTrace config who (take index (lines_at config who)) earlier answers
  pub answer : LineReply
  pub trace : LineTrace config who line own answer
  pub whole : transitions_of who run ≡ earlier ++ (own ++ later)

-- the transition that comes after these in a run is one of the line's, by how many of its processor come before it
pub record IsOfLine (who : ℕ) (earlier own before : List Transition) (m : Transition) : Type 0 where
  pub processor : m.who ≡ who
  pub begins : length earlier ≤ length (transitions_of who before)
  pub ends : length (transitions_of who before) < length earlier + length own

-- between two transitions of a processor that move data over the bus, with `before` and `m` up to the first of them: all that
-- the processor does is move data over the bus, no other processor does so, and its slot holds the bus throughout
pub record IsOneTenure (config : Configuration) (who : ℕ) (before : List Transition) (m : Transition)
    (between : List Transition) :
    Type 0 where
  pub own : All (λ o. o.who ≡ who → MovesData o) between
  pub others : All (λ o. MovesData o → o.who ≡ who) between
  pub holder :
      (first rest : List Transition) → between ≡ first ++ rest
      → (machine_after config (before ++ m ∷ first)).bus.object.holder ≡ Some (slot_at config who)
