-- No reply of the arbiter in a report is a denial, and no line of it is denied the bus.
use Rattle.std.proofs.Common.{◌≢◌, ℕ, List, [], ◌∷◌, slice_index_or, ap, sym, subst, ◌∙◌}
use Rattle.std.specs.Prelude.{All}
use Rattle.std.specs.Global.{Vec}
use Rattle.std.proofs.lemmas.List.Elements.{All-nil, All-cons}
use Rattle.std.proofs.lemmas.Option.{slice_get-get_or}
use Rattle.vme_object.specs.declared.history.Entry.{Entry}
use Rattle.vme_object.specs.History.{entry}
use Rattle.vme_object.specs.Each.{Each}
use Rattle.vme_memory.specs.Locals.{command_given}
use Rattle.vme_arbiter.specs.declared.command.ArbCmd.{ArbCmd}
use Rattle.vme_arbiter.specs.declared.command.ArbReply.{ArbReply}
use Rattle.vme_arbiter.specs.declared.command.ArbReply.TheVariants as arb_replies
use Rattle.vme_core.specs.declared.event.Event.{Event}
use Rattle.vme_core.specs.declared.event.Event.TheVariants as events
use Rattle.vme_core.specs.declared.event.EventReply.{EventReply}
use Rattle.vme_core.specs.declared.event.EventReply.TheVariants as event_replies
use Rattle.vme_core.specs.Runs.{Transition, move, bus_part}
use Rattle.vme_core.specs.Calls.{OnBus}
use Rattle.vme_master.proofs.lemmas.Locals.{arbiter_fits}
use Rattle.vme_shared.specs.declared.reply.LineReply.{LineReply}
use Rattle.vme_script.specs.Configurations.{Configuration}
use Rattle.vme_script.specs.Lawful.{IsLawful}
use Rattle.vme_line_task.specs.Scripts.{slot_at}
use Rattle.vme_mailbox_laws.specs.Runs.{IsFittingReply, AllFittingReplies}
use Rattle.vme_stepper.specs.Turns.{SystemState, script_state, turn, initial_state}
use Rattle.vme_threads.specs.declared.report.Report.{Report}
use Rattle.vme_threads.specs.Rans.{replies_of_lines}
use Rattle.vme_threads.specs.OneOrder.{IsReportOfOneOrder}
use Rattle.vme_run.specs.Orders.{ended_state}
use Rattle.vme_run.proofs.lemmas.Lists.{map_at}
use Rattle.vme_run.proofs.lemmas.Turns.{one_order}
use Rattle.vme_run.proofs.lemmas.Reports.{answers, last, order}
use Rattle.vme_runner.specs.Granted.{AreGranted}
use Rattle.vme_runner.proofs.Called.{board_called}
use Rattle.vme_runner.proofs.Runs.{AllStand, opening_stand, turn_stand, after_stand, granted_is}
use Rattle.vme_runner.proofs.Orders.{AtTurn, Along, report_along}

-- the reply of a turn's call is of its event's kind; one of the arbiter fits its command and is not a denial
one_turned : (config : Configuration) (system : SystemState) (who : ℕ) (event : Event) (reply : EventReply) → IsLawful config
    → AllStand config system
    → AtTurn config system (move who event reply) → IsFittingReply event reply
one_turned config system who (events.Board x cmd) reply lawful stand at =
    subst (IsFittingReply (events.Board x cmd)) (sym (at.reply ∙ (board_called system.machine who x (command_given cmd)).replied)) tt
one_turned config system who (events.Bus cmd) reply lawful stand at =
    subst (IsFittingReply (events.Bus cmd)) (sym at.reply)
    (arbiter_fits system.machine.bus.object cmd, granted_is config system (slot_at config who) who (OnBus cmd) lawful stand at.call)

-- all replies of the calls of turns satisfy `IsFittingReply`
along_turned : (config : Configuration) (run : List Transition) (system : SystemState) → IsLawful config → AllStand config system
    → Along config system run → AllFittingReplies run
along_turned config [] system lawful stand along = tt
along_turned config (m ∷ run) system lawful stand along = (
  one_turned config system m.who m.event m.reply lawful stand along.0,
  along_turned config run (turn config system (slot_at config m.who)) lawful (turn_stand config system (slot_at config m.who) lawful stand) along.1,
)

-- all replies in the order of a report satisfy `IsFittingReply`
pub run_turned : (config : Configuration) (report : Report) → IsLawful config → (is : IsReportOfOneOrder config report)
    → AllFittingReplies is.run
run_turned config report lawful is =
    along_turned config is.run (initial_state config) lawful (opening_stand config lawful) (report_along config report lawful is)

-- an entry of the arbiter whose reply is no denial
abbrev IsNotDenied : Entry ArbCmd ArbReply → Type 0
IsNotDenied e = e.reply ≢ arb_replies.Denied

-- one more transition adds no denial to the part of the arbiter
one_granted : (who : ℕ) (event : Event) (reply : EventReply) (run : List Transition) → IsFittingReply event reply
    → All IsNotDenied (bus_part run)
    → All IsNotDenied (bus_part (move who event reply ∷ run))
one_granted who (events.Board x cmd) reply run fitting_replies rest = rest
one_granted who (events.Bus cmd) (event_replies.Board reply) run fitting_replies rest = absurd fitting_replies
one_granted who (events.Bus cmd) (event_replies.Bus reply) run fitting_replies rest =
    All-cons IsNotDenied (entry who cmd reply) (bus_part run) (λ denied. fitting_replies.1 (ap (λ (r : ArbReply). event_replies.Bus r) denied)) rest

-- if all replies satisfy `IsFittingReply`, no reply of the arbiter is a denial
all_granted : (run : List Transition) → AllFittingReplies run → All IsNotDenied (bus_part run)
all_granted [] fitting_replies = All-nil IsNotDenied
all_granted (m ∷ run) fitting_replies = one_granted m.who m.event m.reply run fitting_replies.0 (all_granted run fitting_replies.1)

-- the arbiter of a report denies no command
pub report_turns : (config : Configuration) (report : Report) → IsLawful config → (is : IsReportOfOneOrder config report)
    → All (λ e. e.reply ≢ arb_replies.Denied) (bus_part is.run)
report_turns config report lawful is = all_granted is.run (run_turned config report lawful is)

-- no line of a report is denied, since none is after any turns
pub report_granted : (config : Configuration) (report : Report) → IsLawful config → IsReportOfOneOrder config report
    → Each (λ who lines. AreGranted lines.items) report.lines.items
report_granted config report lawful is who d below =
    let replies = answers config report lawful is in
    let end = last config report lawful is in
    let turns = one_order config is.run replies end lawful (order config report lawful is) in
    let stand : AllStand config (ended_state end replies) = subst (AllStand config) turns.1 (after_stand config turns.0 lawful) in
    let lines = slice_index_or report.lines.items who d in
    let own : List LineReply = replies_of_lines lines.items in
    let there = map_at (λ (lines : Vec (ℕ × LineReply)). replies_of_lines lines.items) report.lines.items who lines
    (slice_get-get_or report.lines.items who d below) in
    (stand.each who (script_state own []) (map_at (λ own. script_state own []) replies who own there)).granted
