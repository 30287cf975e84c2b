-- Defines runs of the processors' scripts that share one history of a board.
use Rattle.std.specs.Prelude.{ℕ, ◌≡◌, ◌≢◌, ◌<◌, List, [], ◌∷◌, length, All, IsTrue}
use Rattle.vme_object.specs.declared.history.Entry.{Entry}
use Rattle.vme_object.specs.History.{own}
use Rattle.vme_object.specs.Each.{Each, AllAt}
use Rattle.vme_memory.specs.declared.command.BoardCmd.{BoardCmd}
use Rattle.vme_memory.specs.declared.reply.Reply.{Reply}
use Rattle.vme_arbiter.specs.declared.command.ArbReply.TheVariants.{Denied}
use Rattle.vme_core.specs.declared.event.Event.{Event}
use Rattle.vme_core.specs.declared.event.Event.TheVariants as events
use Rattle.vme_core.specs.declared.event.EventReply.{EventReply}
use Rattle.vme_core.specs.declared.event.EventReply.TheVariants as replies
use Rattle.vme_core.specs.Runs.{Transition, board_part}
use Rattle.vme_core.specs.Calls.{OnBus}
use Rattle.vme_master.specs.Jobs.{fits_call}
use Rattle.vme_shared.specs.declared.reply.LineReply.{LineReply}
use Rattle.vme_script.specs.Configurations.{Configuration}
use Rattle.vme_line_task.specs.Scripts.{lines_at}
use Rattle.vme_line_task.specs.Traces.{IsTrace}

-- a reply is of its event's kind; a reply of the arbiter also fits its command and is no denial
abbrev pub IsFittingReply : Event → EventReply → Type 0
IsFittingReply (events.Bus cmd) (replies.Bus reply) =
    IsTrue (fits_call (OnBus cmd) (replies.Bus reply)) × (replies.Bus reply ≢ replies.Bus Denied)
IsFittingReply (events.Board x cmd) (replies.Board reply) = Unit {0}
IsFittingReply event reply = ⊥

-- all replies of a run satisfy `IsFittingReply`
abbrev pub AllFittingReplies : List Transition → Type 0
AllFittingReplies [] = Unit {0}
AllFittingReplies (m ∷ run) = IsFittingReply m.event m.reply × AllFittingReplies run

-- a board's history is shared by one run of each processor; each run is the trace of its script with these replies, and
-- all its replies satisfy `IsFittingReply`
pub record ShareHistory (config : Configuration) (board : ℕ) (h : List (Entry BoardCmd Reply)) (runs : List (List Transition))
    (answers : List (List LineReply)) : Type 0 where
  pub known : All (λ e. e.who < length runs) h
  pub owns : Each (λ who run. own who h ≡ board_part board run) runs
  pub trace : AllAt (λ who run reported. IsTrace config who (lines_at config who) run reported) runs answers
  pub fitting_replies : Each (λ who run. AllFittingReplies run) runs
