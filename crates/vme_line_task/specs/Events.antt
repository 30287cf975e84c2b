-- What a line does next, and its reply, by the results of its functions.
use Rattle.std.specs.Prelude.{ℕ, ◌<◌, Option, Some, None}
use Rattle.vme_core.specs.declared.event.Event.{Event}
use Rattle.vme_core.specs.declared.event.Event.TheVariants as events
use Rattle.vme_core.specs.Calls.{Call, OnBoard, OnBus, call_of}
use Rattle.vme_master.specs.Events.{outcome_in}
use Rattle.vme_shared.specs.declared.reply.LineReply.{LineReply}
use Rattle.vme_shared.specs.declared.reply.LineReply.TheVariants as replies
use Rattle.vme_line_task.specs.declared.reply.LineReplyRef.{LineReplyRef}
use Rattle.vme_line_task.specs.declared.reply.LineReplyRef.TheVariants as refs
use Rattle.vme_line_task.specs.declared.todo.LineTodo.{LineTodo}
use Rattle.vme_line_task.specs.declared.todo.LineTodo.TheVariants as todos

-- the call of the event that a `LineTodo` states, if it states one
abbrev pub call_of_todo : LineTodo → Option Call
call_of_todo (todos.Call event) = Some (call_of event)
call_of_todo todos.Ended = None

-- the reply whose bytes a `LineReplyRef` borrows
abbrev pub reply_in : LineReplyRef → LineReply
reply_in (refs.Transfer outcome) = replies.Transfer (outcome_in outcome)
reply_in (refs.Refused fault) = replies.Refused fault
reply_in refs.Met = replies.Met
reply_in refs.Timeout = replies.Timeout
reply_in (refs.Shared outcome) = replies.Shared outcome

-- a call goes to the arbiter, or to one of the first n boards
abbrev pub IsCallBelow : ℕ → Call → Type 0
IsCallBelow n (OnBoard board command) = board < n
IsCallBelow n (OnBus cmd) = Unit {0}

-- an event goes to the arbiter, or to one of the first n boards
abbrev pub IsEventBelow : ℕ → Event → Type 0
IsEventBelow n (events.Board board cmd) = board < n
IsEventBelow n (events.Bus cmd) = Unit {0}

-- the next event, if there is one, goes to the arbiter or to one of the first n boards
abbrev pub IsTodoBelow : ℕ → LineTodo → Type 0
IsTodoBelow n (todos.Call event) = IsEventBelow n event
IsTodoBelow n todos.Ended = Unit {0}
