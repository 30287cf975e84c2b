-- The effect of a turn on the state of the processors, and the call that it makes.
use Rattle.std.proofs.Common.{◌≡◌, ◌≢◌, ℕ, ◌<◌, List, [], ◌∷◌, ◌++◌, length, Option, Some, None, refl, ap, sym, subst, ◌∙◌, inl, inr, ◌⊎◌}
use Rattle.std.specs.Prelude.{All, option_map}
use Rattle.std.proofs.lemmas.List.Elements.{All-push}
use Rattle.vme_memory.specs.Steps.{Command}
use Rattle.vme_arbiter.specs.declared.command.ArbCmd.{ArbCmd}
use Rattle.vme_arbiter.specs.declared.command.ArbReply.{ArbReply}
use Rattle.vme_arbiter.specs.declared.command.ArbReply.TheVariants as arb_replies
use Rattle.vme_arbiter.specs.Arbitration.{Arbitration, arbiter_step}
use Rattle.vme_arbiter.specs.Orderly.{IsOrderly}
use Rattle.vme_arbiter.specs.Masters.{MatchesReply}
use Rattle.vme_arbiter.proofs.lemmas.Turns.{other-reply, holds-holder}
use Rattle.vme_core.specs.declared.event.EventReply.{EventReply}
use Rattle.vme_core.specs.declared.event.EventReply.TheVariants as event_replies
use Rattle.vme_core.specs.Runs.{Machine}
use Rattle.vme_core.specs.Calls.{Call, OnBoard, OnBus, machine_step}
use Rattle.vme_core.specs.NextSteps.{NextStep, NotStarted, Invokes, Returns}
use Rattle.vme_shared.specs.declared.reply.LineReply.{LineReply}
use Rattle.vme_grammar.specs.declared.line.Line.{Line}
use Rattle.vme_grammar.specs.Grammar.{IsOwnLine}
use Rattle.vme_script.specs.Configurations.{Configuration}
use Rattle.vme_script.specs.Lawful.{IsLawful}
use Rattle.vme_line_task.specs.Scripts.{slot_at}
use Rattle.vme_line_task.specs.Tables.{line_next}
use Rattle.vme_line_task.specs.Traces.{ScriptState}
use Rattle.vme_line_task.specs.Tenures.{line_arb_reply, IsLocal, IsGranted}
use Rattle.vme_line_task.proofs.lemmas.Kept.{line_first, line_command_allowed, line_holds, line_slot_state, line_datum}
use Rattle.vme_stepper.specs.Turns.{script_state, settled, call_made, turn_by, script_state_turn, lines_left}
use Rattle.vme_runner.specs.TurnCalls.{call_or, first_call}
use Rattle.vme_runner.proofs.Places.{lawful_slot, lawful_level, left_after, AllOwn}
use Rattle.vme_runner.proofs.Called.{board_called, bus_called, call_granted}
use Rattle.vme_runner.proofs.Standing.{arb_reply_left, IsOpen, ScriptStands, arb_reply_begins, opens_begins, rests_standing, ended_begins, settled_stands}

-- after a turn of a board's processor, the arbiter's state is orderly, the state of the processor's slot agrees with
-- the replies, and other slots still agree with theirs
pub record Stays (config : Configuration) (board : ℕ) (before : Arbitration) (after : Machine × ScriptState) : Type 0 where
  pub orderly : IsOrderly after.0.bus.object
  pub own : ScriptStands config after.0.bus.object board after.1
  pub others : (slot : ℕ) (last : Option ArbReply) → slot_at config board ≢ slot → MatchesReply before slot last
      → MatchesReply after.0.bus.object slot last

module _ (config : Configuration) (lawful : IsLawful config) (board : ℕ) (there : board < length config.boards) where
  -- a call of the next line on a board keeps the agreement of `Stays`
  board_call_stays : (machine : Machine) (c : ScriptState) (line : Line) (rest : List Line) (x : ℕ) (command : Option Command)
      → lines_left config board c ≡ line ∷ rest → IsOrderly machine.bus.object → All IsGranted c.ended
      → MatchesReply machine.bus.object (slot_at config board) (line_arb_reply config board line c.replies)
      → line_next config board line c.replies ≡ Invokes (OnBoard x command)
      → Stays config board machine.bus.object (call_made config board line machine c (OnBoard x command))
  board_call_stays machine c line rest x command left orderly granted stands made =
      let step = machine_step machine board (OnBoard x command) in
      let called = board_called machine board x command in
      let same : step.0.bus.object ≡ machine.bus.object = ap (λ b. b.object) called.bus in
      let same_arb_reply = line_datum config board line c.replies (OnBoard x command) called.reply made called.good in
      let own : ScriptStands config machine.bus.object board
      (settled c.ended (event_replies.Board called.reply ∷ c.replies) (line_next config board line (event_replies.Board called.reply ∷ c.replies))) =
      settled_stands config machine.bus.object board c.ended c.replies line rest (OnBoard x command) (event_replies.Board called.reply) _ left made
      called.good (subst (MatchesReply machine.bus.object (slot_at config board)) (sym same_arb_reply) stands) granted refl in
      let settled_by = λ (reply : EventReply). settled c.ended (reply ∷ c.replies) (line_next config board line (reply ∷ c.replies)) in
      record {
        orderly = subst IsOrderly (sym same) orderly;
        own = subst (λ (bus : Arbitration). ScriptStands config bus board (settled_by step.1)) (sym same)
            (subst (λ (reply : EventReply). ScriptStands config machine.bus.object board (settled_by reply)) (sym called.replied) own);
        others = λ slot last apart was. subst (λ (bus : Arbitration). MatchesReply bus slot last) (sym same) was;
      }

  -- a command of the next line to the arbiter keeps the agreement of `Stays`
  bus_call_stays : (machine : Machine) (c : ScriptState) (line : Line) (rest : List Line) (cmd : ArbCmd)
      → lines_left config board c ≡ line ∷ rest
      → IsOrderly machine.bus.object → All IsGranted c.ended
      → MatchesReply machine.bus.object (slot_at config board) (line_arb_reply config board line c.replies)
      → line_next config board line c.replies ≡ Invokes (OnBus cmd)
      → Stays config board machine.bus.object (call_made config board line machine c (OnBus cmd))
  bus_call_stays machine c line rest cmd left orderly granted stands made =
      let bus = machine.bus.object in
      let may = line_command_allowed config board line c.replies cmd (lawful_level config board lawful there) made in
      let called = bus_called bus (slot_at config board) (line_arb_reply config board line c.replies) cmd orderly
      (lawful_slot config board lawful there) stands may in
      record {
        orderly = called.orderly;
        own = settled_stands config (arbiter_step bus cmd).0 board c.ended c.replies line rest (OnBus cmd) (event_replies.Bus (arbiter_step bus cmd).1) _ left
            made called.good
            (line_slot_state config board line c.replies cmd (arbiter_step bus cmd).1 (arbiter_step bus cmd).0 (slot_at config board) made called.good
            called.stands) granted refl;
        others = λ slot last apart was. other-reply bus slot last cmd (λ same. apart (sym called.own ∙ same)) was;
      }

  -- each call of the next line keeps the agreement of `Stays`
  call_stays : (machine : Machine) (c : ScriptState) (line : Line) (rest : List Line) (call : Call)
      → lines_left config board c ≡ line ∷ rest
      → IsOrderly machine.bus.object → All IsGranted c.ended
      → MatchesReply machine.bus.object (slot_at config board) (line_arb_reply config board line c.replies)
      → line_next config board line c.replies ≡ Invokes call
      → Stays config board machine.bus.object (call_made config board line machine c call)
  call_stays machine c line rest (OnBoard x command) left orderly granted stands made =
      board_call_stays machine c line rest x command left orderly granted stands made
  call_stays machine c line rest (OnBus cmd) left orderly granted stands made =
      bus_call_stays machine c line rest cmd left orderly granted stands made

  -- a line that ends without a call keeps the agreement of its processor's slot
  refused_stands : (bus : Arbitration) (c : ScriptState) (line : Line) (rest : List Line) (answer : LineReply)
      → lines_left config board c ≡ line ∷ rest → ScriptStands config bus board c
      → line_next config board line c.replies ≡ Returns answer
      → ScriptStands config bus board (script_state (c.ended ++ answer ∷ []) [])
  refused_stands bus c line rest answer left stands ends =
      let opens : IsOpen config board (line ∷ rest) c.replies = subst (λ (ls : List Line). IsOpen config board ls c.replies) left stands.opens in
      let none = ended_begins config board line rest c.replies answer opens ends in
      let free : MatchesReply bus (slot_at config board) None =
      subst (MatchesReply bus (slot_at config board))
      (ap (arb_reply_left config board (lines_left config board c)) none ∙ arb_reply_begins config board (lines_left config board c)) stands.stands in
      rests_standing config bus board (c.ended ++ answer ∷ []) free
      (All-push IsGranted c.ended answer stands.granted
      (line_first config board line answer (ap (line_next config board line) (sym none) ∙ ends)))

  -- a turn keeps the agreement of `Stays`, by the next step of the first remaining line
  by_next : (machine : Machine) (c : ScriptState) (line : Line) (rest : List Line) (next : NextStep LineReply) (after : ScriptState → Machine × ScriptState)
      → lines_left config board c ≡ line ∷ rest → IsOrderly machine.bus.object → ScriptStands config machine.bus.object board c
      → line_next config board line c.replies ≡ next
      → ((now : ScriptState) → lines_left config board now ≡ rest → ScriptStands config machine.bus.object board now
      → Stays config board machine.bus.object (after now))
      → Stays config board machine.bus.object (turn_by config board line machine c next after)
  by_next machine c line rest (Invokes call) after left orderly stands is then =
      call_stays machine c line rest call left orderly stands.granted
      (subst (λ (ls : List Line). MatchesReply machine.bus.object (slot_at config board) (arb_reply_left config board ls c.replies)) left stands.stands) is
  by_next machine c line rest (Returns answer) after left orderly stands is then =
      then (script_state (c.ended ++ answer ∷ []) []) (left_after config board c.ended answer line rest left)
      (refused_stands machine.bus.object c line rest answer left stands is)
  by_next machine c line rest NotStarted after left orderly stands is then =
      record { orderly = orderly; own = stands; others = λ slot last apart was. was }

  -- a turn of a processor with these remaining lines keeps the agreement of `Stays`
  pub script_state_stays : (lines : List Line) (machine : Machine) (c : ScriptState) → lines_left config board c ≡ lines
      → IsOrderly machine.bus.object
      → ScriptStands config machine.bus.object board c
      → Stays config board machine.bus.object (script_state_turn config board lines machine c)
  script_state_stays [] machine c left orderly stands = record { orderly = orderly; own = stands; others = λ slot last apart was. was }
  script_state_stays (line ∷ rest) machine c left orderly stands =
      by_next machine c line rest (line_next config board line c.replies) (λ now. script_state_turn config board rest machine now) left orderly stands refl
      (λ now left_now stands_now. script_state_stays rest machine now left_now orderly stands_now)

  -- a property of the first line's call, and of the later lines' first call, holds for the next call
  by_first : (Q : Call → Type 0) (bus : Arbitration) (line : Line) (rest : List Line) (replies : List EventReply) (call : Call) (next : NextStep LineReply)
      → MatchesReply bus (slot_at config board) (line_arb_reply config board line replies)
      → IsOpen config board (line ∷ rest) replies
      → line_next config board line replies ≡ next → call_or next (first_call config board rest []) ≡ Some call
      → ((made : Call) → line_next config board line replies ≡ Invokes made → Q made)
      → (first_call config board rest [] ≡ Some call → MatchesReply bus (slot_at config board) None → Q call) → Q call
  by_first Q bus line rest replies call (Invokes made) stands opens is first now later =
      let same : made ≡ call = cc in
      subst Q same (now made is)
  by_first Q bus line rest replies call (Returns answer) stands opens is first now later =
      let none = ended_begins config board line rest replies answer opens is in
      later first (subst (MatchesReply bus (slot_at config board)) (ap (line_arb_reply config board line) none ∙ arb_reply_begins config board (line ∷ rest)) stands)
  by_first Q bus line rest replies call NotStarted stands opens is first now later = absurd cc

  -- a property of each line's call holds for the next call of these lines
  pub first_is : (Q : Call → Type 0) (bus : Arbitration)
      → ((line : Line) (replies : List EventReply) (made : Call) → IsOwnLine line
      → MatchesReply bus (slot_at config board) (line_arb_reply config board line replies) → line_next config board line replies ≡ Invokes made → Q made)
      → (lines : List Line) (replies : List EventReply) (call : Call) → AllOwn lines
      → MatchesReply bus (slot_at config board) (arb_reply_left config board lines replies) → IsOpen config board lines replies
      → first_call config board lines replies ≡ Some call → Q call
  first_is Q bus each [] replies call own stands opens first = absurd cc
  first_is Q bus each (line ∷ rest) replies call own stands opens first =
      by_first Q bus line rest replies call (line_next config board line replies) stands opens refl first
      (λ made is. each line replies made own.0 stands is)
      (λ later free. first_is Q bus each rest [] call own.1
      (subst (MatchesReply bus (slot_at config board)) (sym (arb_reply_begins config board rest)) free) (opens_begins config board rest) later)

  -- a call on a board is one of the local port, or the slot holds the bus
  abbrev pub HoldsFor : Arbitration → Call → Type 0
  HoldsFor bus (OnBoard x command) = IsLocal command ⊎ (bus.holder ≡ Some (slot_at config board))
  HoldsFor bus (OnBus cmd) = Unit {0}

  -- each call of a line is one of the local port, or its slot holds the bus
  pub call_holds : (bus : Arbitration) (line : Line) (replies : List EventReply) (call : Call) → IsOwnLine line
      → MatchesReply bus (slot_at config board) (line_arb_reply config board line replies)
      → line_next config board line replies ≡ Invokes call
      → HoldsFor bus call
  call_holds bus line replies (OnBus cmd) own stands made = tt
  call_holds bus line replies (OnBoard x command) own stands made =
      elim (line_holds config board line replies x command own made) [
        | inl local ↦ inl local
        | inr held ↦ inr (holds-holder bus (slot_at config board)
            (subst (MatchesReply bus (slot_at config board)) held stands))
      ]

  -- the reply to a call of a line is no denial
  pub replied_granted : (machine : Machine) → IsOrderly machine.bus.object
      → (line : Line) (replies : List EventReply) (call : Call)
      → IsOwnLine line → MatchesReply machine.bus.object (slot_at config board) (line_arb_reply config board line replies)
      → line_next config board line replies ≡ Invokes call
      → (machine_step machine board call).1 ≢ event_replies.Bus arb_replies.Denied
  replied_granted machine orderly line replies call own stands made =
      call_granted machine board (slot_at config board) (line_arb_reply config board line replies) call orderly
      (lawful_slot config board lawful there) stands
      (λ cmd same. line_command_allowed config board line replies cmd (lawful_level config board lawful there) (made ∙ ap Invokes same))

-- the machine after a call, if there is one
abbrev pub machine_called : Machine → Option (ℕ × Call) → Machine
machine_called machine None = machine
machine_called machine (Some one) = (machine_step machine one.0 one.1).0

-- a turn changes the machine as its call does, by the next step of the first remaining line
by_made : (config : Configuration) (board : ℕ) (line : Line) (rest : List Line) (machine : Machine) (c : ScriptState) (next : NextStep LineReply)
    (after : ScriptState → Machine × ScriptState)
    → ((now : ScriptState) → now.replies ≡ [] → (after now).0 ≡ machine_called machine (option_map (λ call. (board, call)) (first_call config board rest [])))
    → (turn_by config board line machine c next after).0
    ≡ machine_called machine (option_map (λ call. (board, call)) (call_or next (first_call config board rest [])))
by_made config board line rest machine c (Invokes call) after then = refl
by_made config board line rest machine c (Returns answer) after then = then (script_state (c.ended ++ answer ∷ []) []) refl
by_made config board line rest machine c NotStarted after then = refl

-- a turn of a processor with these remaining lines changes the machine as its call does
pub script_state_made : (config : Configuration) (board : ℕ) (lines : List Line) (machine : Machine) (c : ScriptState)
    → (script_state_turn config board lines machine c).0
    ≡ machine_called machine (option_map (λ call. (board, call)) (first_call config board lines c.replies))
script_state_made config board [] machine c = refl
script_state_made config board (line ∷ rest) machine c =
    by_made config board line rest machine c (line_next config board line c.replies) (λ now. script_state_turn config board rest machine now)
    (λ now none. script_state_made config board rest machine now
    ∙ ap (λ rs. machine_called machine (option_map (λ call. (board, call)) (first_call config board rest rs))) none)
