-- In one order the holder of the bus alone moves data over it, until it gives the bus back.
use Rattle.std.proofs.Common.{◌≡◌, ◌≢◌, ℕ, ◌<◌, false, List, [], ◌∷◌, ◌++◌, length, Option, Some, None, refl, ap, sym, subst, ◌∙◌, inl, inr}
use Rattle.std.specs.Prelude.{All, ◌==◌}
use Rattle.std.specs.Option.{option_map_or}
use Rattle.std.proofs.lemmas.Bool.{cases_Bool, cases_eq, ne_eqb}
use Rattle.std.proofs.lemmas.List.Elements.{All-head, All-tail}
use Rattle.std.proofs.lemmas.Option.{same_Some}
use Rattle.vme_memory.specs.Locals.{command_given}
use Rattle.vme_arbiter.specs.declared.command.ArbCmd.{ArbCmd}
use Rattle.vme_arbiter.specs.declared.command.ArbCmd.TheVariants.{Ask, Look, Done}
use Rattle.vme_arbiter.specs.Requests.{BusRequest, bus_request}
use Rattle.vme_arbiter.specs.Arbitration.{Arbitration, holds, can_ask, lawful_ask, arbiter_step}
use Rattle.vme_arbiter.specs.Orderly.{IsOrderly}
use Rattle.vme_arbiter.specs.Masters.{slot_of, MatchesReply}
use Rattle.vme_core.specs.declared.event.Event.{Event}
use Rattle.vme_core.specs.declared.event.Event.TheVariants as events
use Rattle.vme_core.specs.declared.event.EventReply.{EventReply}
use Rattle.vme_core.specs.Runs.{Machine, Transition, move}
use Rattle.vme_core.specs.Calls.{Call, OnBoard, OnBus, call_of, machine_step}
use Rattle.vme_core.specs.NextSteps.{Invokes}
use Rattle.vme_grammar.specs.declared.line.Line.{Line}
use Rattle.vme_grammar.specs.Grammar.{IsOwnLine}
use Rattle.vme_script.specs.Configurations.{Configuration}
use Rattle.vme_script.specs.Lawful.{IsLawful}
use Rattle.vme_line_task.specs.Scripts.{slot_at}
use Rattle.vme_line_task.specs.Tables.{line_next}
use Rattle.vme_line_task.specs.Tenures.{line_arb_reply}
use Rattle.vme_line_task.proofs.lemmas.Kept.{line_command_allowed}
use Rattle.vme_stepper.specs.Turns.{SystemState, lines_left, turn, run as take_turns, initial_state}
use Rattle.vme_threads.specs.declared.report.Report.{Report}
use Rattle.vme_threads.specs.OneOrder.{IsReportOfOneOrder}
use Rattle.vme_run.specs.Orders.{machine_after, slots_of}
use Rattle.vme_runner.specs.TurnCalls.{turn_call}
use Rattle.vme_runner.specs.OrderLaws.{IsOverBus, MovesData, IsRelease, Releases}
use Rattle.vme_runner.proofs.Places.{lawful_level, slots_apart, place_is, left_own}
use Rattle.vme_runner.proofs.Called.{own_slot, board_called}
use Rattle.vme_runner.proofs.Turned.{first_is}
use Rattle.vme_runner.proofs.Runs.{AllStand, turn_stand, run_stand, call_is, holder_is}
use Rattle.vme_runner.proofs.Orders.{AtTurn, Along, dropped, turn_moves, place_in}

-- a command to the arbiter names this slot
abbrev NamesSlot : ℕ → Call → Type 0
NamesSlot slot (OnBoard place command) = Unit {0}
NamesSlot slot (OnBus cmd) = slot_of cmd ≡ slot

-- a line's command to the arbiter names the slot of the line's processor
line_names : (config : Configuration) (lawful : IsLawful config) (board : ℕ) → board < length config.boards
    → (bus : Arbitration) (line : Line)
    (replies : List EventReply) (call : Call) → IsOwnLine line → MatchesReply bus (slot_at config board) (line_arb_reply config board line replies)
    → line_next config board line replies ≡ Invokes call → NamesSlot (slot_at config board) call
line_names config lawful board there bus line replies (OnBoard place command) own stands made = tt
line_names config lawful board there bus line replies (OnBus cmd) own stands made =
    own_slot (slot_at config board) (line_arb_reply config board line replies) cmd
    (line_command_allowed config board line replies cmd (lawful_level config board lawful there) made)

-- a turn's command to the arbiter names the turn's slot
names_slot : (config : Configuration) (system : SystemState) (slot board : ℕ) (call : Call) → IsLawful config
    → AllStand config system
    → turn_call config system slot ≡ Some (board, call) → NamesSlot slot call
names_slot config system slot board call lawful stand is =
    let one = call_is config system slot board call is in
    let at = place_is config slot board one.place in
    let stands = stand.each board one.c one.found in
    let bus = system.machine.bus.object in
    let names : NamesSlot (slot_at config board) call =
    first_is config lawful board at.there (NamesSlot (slot_at config board)) bus (line_names config lawful board at.there bus)
    (lines_left config board one.c) one.c.replies call (left_own config board one.c lawful at.there) stands.stands stands.opens one.first in
    subst (λ (s : ℕ). NamesSlot s call) at.own names

-- the holder stays the holder when a slot requests the bus
asked : (holder : Option ℕ) (bus : Arbitration) (new : BusRequest) (slot : ℕ) → holder ≡ Some slot → bus.holder ≡ Some slot
    → (lawful_ask holder bus new).0.holder ≡ Some slot
asked None bus new slot is held = absurd cc
asked (Some other) bus new slot is held = held

-- the holder stays the holder until it gives the bus back
holder_stays : (bus : Arbitration) (cmd : ArbCmd) (slot : ℕ) → bus.holder ≡ Some slot → ((s : ℕ) → cmd ≡ Done s → s ≢ slot)
    → (arbiter_step bus cmd).0.holder ≡ Some slot
holder_stays bus (Ask s level) slot held other =
    elim (cases_Bool (can_ask bus s level)) [
      | inl can ↦ rw can (asked bus.holder bus (bus_request level s) slot held held)
      | inr cannot ↦ rw cannot held
    ]
holder_stays bus (Look s) slot held other = held
holder_stays bus (Done s) slot held other =
    let no : holds bus s ≡ false =
    ap (λ (h : Option ℕ). option_map_or (λ holder. holder == s) h false) held ∙ ne_eqb slot s (λ same. other s refl (sym same)) in
    rw no held

-- no two processors have one slot
same_who : (config : Configuration) (a b : ℕ) → IsLawful config → a < length config.boards → b < length config.boards
    → slot_at config a ≡ slot_at config b → a ≡ b
same_who config a b lawful first second same =
    elim (cases_eq a b) [
      | inl equal ↦ equal
      | inr apart ↦ absurd (slots_apart config a b lawful first second apart same)
    ]

-- a transition that moves data over the bus is made by the processor of the holder
pub over_bus : (config : Configuration) (system : SystemState) (who : ℕ) (event : Event) (reply : EventReply) → IsLawful config
    → AllStand config system
    → AtTurn config system (move who event reply) → IsOverBus (call_of event)
    → system.machine.bus.object.holder ≡ Some (slot_at config who)
over_bus config system who (events.Board x cmd) reply lawful stand at over =
    elim (holder_is config system (slot_at config who) who x (command_given cmd) lawful stand at.call) [
      | inl local ↦ absurd (over local)
      | inr held ↦ held
    ]
over_bus config system who (events.Bus cmd) reply lawful stand at over = absurd over

-- a transition that moves data over the bus does not give the bus back
pub no_release : (event : Event) → IsOverBus (call_of event) → IsRelease event → ⊥
no_release (events.Board x cmd) over release = release
no_release (events.Bus cmd) over release = over

-- after a transition that does not give the bus back for the holder, the holder is the same
pub held_after : (config : Configuration) (system : SystemState) (who : ℕ) (event : Event) (reply : EventReply) (slot : ℕ)
    → IsLawful config
    → AllStand config system → AtTurn config system (move who event reply) → system.machine.bus.object.holder ≡ Some slot
    → (slot_at config who ≡ slot → IsRelease event → ⊥)
    → (machine_step system.machine who (call_of event)).0.bus.object.holder ≡ Some slot
held_after config system who (events.Board x cmd) reply slot lawful stand at held kept =
    ap (λ b. b.object.holder) (board_called system.machine who x (command_given cmd)).bus ∙ held
held_after config system who (events.Bus cmd) reply slot lawful stand at held kept =
    let names : slot_of cmd ≡ slot_at config who = names_slot config system (slot_at config who) who (OnBus cmd) lawful stand at.call in
    holder_stays system.machine.bus.object cmd slot held
    (λ s done same. kept (sym names ∙ ap slot_of done ∙ same) (subst (λ (c : ArbCmd). IsRelease (events.Bus c)) (sym done) tt))

-- after transitions of which none gives the bus back for the holder, the holder is the same
pub held_along : (config : Configuration) (who : ℕ) (between rest : List Transition) (system : SystemState) → IsLawful config
    → who < length config.boards
    → AllStand config system → Along config system (between ++ rest)
    → system.machine.bus.object.holder ≡ Some (slot_at config who)
    → All (λ o. Releases who o → ⊥) between
    → (take_turns config system (slots_of config between)).machine.bus.object.holder ≡ Some (slot_at config who)
held_along config who [] rest system lawful there stand along held kept = held
held_along config who (o ∷ between) rest system lawful there stand along held kept =
    let next = turn config system (slot_at config o.who) in
    let free = All-head (λ (o : Transition). Releases who o → ⊥) o between kept in
    let after = held_after config system o.who o.event o.reply (slot_at config who) lawful stand along.0 held
    (λ same release. free (same_who config o.who who lawful along.0.there there same, release)) in
    held_along config who between rest next lawful there (turn_stand config system (slot_at config o.who) lawful stand) along.1
    (ap (λ (w : Machine). w.bus.object.holder) (turn_moves config system o along.0) ∙ after)
    (All-tail (λ (o : Transition). Releases who o → ⊥) o between kept)

-- the arbiter's state is orderly at each place of a report's order
pub order_orderly : (config : Configuration) (report : Report) (is : IsReportOfOneOrder config report) (before after : List Transition)
    → IsLawful config → is.run ≡ before ++ after → IsOrderly (machine_after config before).bus.object
order_orderly config report is before after lawful whole =
    let place = place_in config report is before after lawful whole in
    subst (λ (w : Machine). IsOrderly w.bus.object) place.machine place.stand.orderly

-- each transition of a report that moves data over the bus is made by the processor of the holder
pub order_holder : (config : Configuration) (report : Report) (is : IsReportOfOneOrder config report) (before after : List Transition) (m : Transition)
    → IsLawful config → is.run ≡ before ++ m ∷ after → MovesData m
    → (machine_after config before).bus.object.holder ≡ Some (slot_at config m.who)
order_holder config report is before after m lawful whole over =
    let place = place_in config report is before (m ∷ after) lawful whole in
    ap (λ (w : Machine). w.bus.object.holder) (sym place.machine)
    ∙ over_bus config (take_turns config (initial_state config) (slots_of config before)) m.who m.event m.reply lawful place.stand place.along.0 over

-- from data over the bus until its processor gives the bus back, all data over the bus are that processor's
pub order_apart : (config : Configuration) (report : Report) (is : IsReportOfOneOrder config report) (before between after : List Transition)
    (m n : Transition) → IsLawful config → is.run ≡ before ++ m ∷ (between ++ n ∷ after) → MovesData m → MovesData n
    → All (λ o. Releases m.who o → ⊥) between → n.who ≡ m.who
order_apart config report is before between after m n lawful whole first second kept =
    let place = place_in config report is before (m ∷ (between ++ n ∷ after)) lawful whole in
    let system = take_turns config (initial_state config) (slots_of config before) in
    let at : AtTurn config system m = place.along.0 in
    let next = turn config system (slot_at config m.who) in
    let stand : AllStand config next = turn_stand config system (slot_at config m.who) lawful place.stand in
    let held = over_bus config system m.who m.event m.reply lawful place.stand at first in
    let still = held_after config system m.who m.event m.reply (slot_at config m.who) lawful place.stand at held
    (λ same release. no_release m.event first release) in
    let later = held_along config m.who between (n ∷ after) next lawful at.there stand place.along.1
    (ap (λ (w : Machine). w.bus.object.holder) (turn_moves config system m at) ∙ still) kept in
    let end = take_turns config next (slots_of config between) in
    let rest : Along config end (n ∷ after) = dropped config between (n ∷ after) next place.along.1 in
    let stand_end : AllStand config end = run_stand config next (slots_of config between) lawful stand in
    let own = over_bus config end n.who n.event n.reply lawful stand_end rest.0 second in
    same_who config n.who m.who lawful rest.0.there at.there (same_Some (slot_at config n.who) (slot_at config m.who) (sym own ∙ later))
