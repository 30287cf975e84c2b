-- A line that puts into a mailbox or takes from it follows the protocol; any other line leaves the mailbox alone.
use Rattle.std.proofs.Common.{◌≡◌, ℕ, true, false, List, [], ◌∷◌, ◌++◌, Option, Some, None, Ok, refl, ap, sym, subst, ◌∙◌, inl, inr}
use Rattle.std.specs.Prelude.{is_some, ◌==◌, ◌&&◌, nat_lt}
use Rattle.std.proofs.lemmas.Bool.{cases_Bool, and_parts, eqb-true}
use Rattle.std.proofs.lemmas.List.{append_assoc}
use Rattle.vme_object.specs.declared.history.Entry.{Entry}
use Rattle.vme_memory.specs.declared.command.BoardCmd.{BoardCmd}
use Rattle.vme_memory.specs.declared.reply.Reply.{Reply}
use Rattle.vme_memory.specs.Steps.{Command}
use Rattle.vme_memory.specs.Locals.{command_given}
use Rattle.vme_core.specs.declared.event.Event.{Event}
use Rattle.vme_core.specs.declared.event.Event.TheVariants as events
use Rattle.vme_core.specs.declared.event.EventReply.{EventReply}
use Rattle.vme_core.specs.declared.event.EventReply.TheVariants as event_replies
use Rattle.vme_core.specs.Runs.{Transition, move, board_entry, board_part}
use Rattle.vme_core.specs.Calls.{OnBoard, call_of}
use Rattle.vme_core.specs.NextSteps.{NextStep, NotStarted, Invokes, Returns}
use Rattle.vme_shared.specs.MailboxSteps.{BoardMailbox, touches}
use Rattle.vme_shared.specs.Phases.{Phase, Idle, after_command}
use Rattle.vme_shared.specs.Words.{put_by, taken_by}
use Rattle.vme_shared.specs.declared.request.SharedRequest.{SharedRequest}
use Rattle.vme_shared.specs.declared.outcome.SharedOutcome.{SharedOutcome}
use Rattle.vme_shared.specs.declared.outcome.SharedOutcome.TheVariants as shared
use Rattle.vme_shared.specs.declared.reply.LineReply.{LineReply}
use Rattle.vme_shared.specs.declared.reply.LineReply.TheVariants.{Shared}
use Rattle.vme_shared.specs.Tables.{SharedJob, progress_of, shared_next}
use Rattle.vme_shared.proofs.lemmas.Starts.{rests}
use Rattle.vme_grammar.specs.declared.line.Line.{Line}
use Rattle.vme_script.specs.Configurations.{Configuration}
use Rattle.vme_line_task.specs.Scripts.{Sharing, line_attempt}
use Rattle.vme_line_task.specs.Tables.{AttemptsGiven, sharing_next, attempt_next, next_wants_retry, next_attempt, attempts_of, lawful_next, next_given, given_of, line_next}
use Rattle.vme_line_task.specs.Traces.{Continues}
use Rattle.vme_line_task.proofs.lemmas.Below.{shares_makes}
use Rattle.vme_mailbox_laws.specs.Along.{UsesMailbox, IsGood, IsCount, phase_given, put_by_outcome, taken_by_outcome}
use Rattle.vme_mailbox_laws.proofs.Courses.{Stands, IsOver, opening, moves}
use Rattle.vme_mailbox_laws.proofs.Ends.{ends_in}
use Rattle.vme_mailbox_laws.specs.Names.{LeavesAlone}
use Rattle.vme_mailbox_laws.specs.Runs.{AllFittingReplies}
use Rattle.vme_mailbox_laws.proofs.Through.{Wanted, behind, Through}
use Rattle.vme_mailbox_laws.proofs.Tasks.{IsIn, move_on}

-- a board's part of a run is its part of the first transition followed by its part of the others
pub part_cons : (x : ℕ) (m : Transition) (run : List Transition) → board_part x (m ∷ run) ≡ board_part x (m ∷ []) ++ board_part x run
part_cons x m run = by_entry (board_entry x m.who m.event m.reply) refl
  where
    by_entry : (e : Option (Entry BoardCmd Reply)) → board_entry x m.who m.event m.reply ≡ e → board_part x (m ∷ run) ≡ board_part x (m ∷ []) ++ board_part x run
    by_entry None is = rw is refl
    by_entry (Some e) is = rw is refl

-- the reply of a line is the outcome of its last attempt
pub shares_ends : (n : NextStep SharedOutcome) (answer : LineReply) → sharing_next n ≡ Returns answer → (outcome : SharedOutcome) × (n ≡ Returns outcome) × (answer ≡ Shared outcome)
shares_ends NotStarted answer is = absurd cc
shares_ends (Invokes call) answer is = absurd cc
shares_ends (Returns outcome) answer is = (outcome, refl, cc)

-- an attempt that is followed by another has put and taken nothing
again_ends : (n : NextStep SharedOutcome) → next_wants_retry (sharing_next n) ≡ true
    → (outcome : SharedOutcome) × (n ≡ Returns outcome) × ((request : SharedRequest) → put_by_outcome outcome request ≡ []) × (taken_by_outcome outcome ≡ [])
again_ends NotStarted is = absurd cc
again_ends (Invokes call) is = absurd cc
again_ends (Returns shared.Busy) is = (shared.Busy, refl, λ request. refl, refl)
again_ends (Returns shared.Full) is = (shared.Full, refl, λ request. refl, refl)
again_ends (Returns shared.Empty) is = (shared.Empty, refl, λ request. refl, refl)
again_ends (Returns outcome) is = absurd cc

module _ (s : SharedJob) (board : ℕ) (m : BoardMailbox) (uses : UsesMailbox s board m) where
  -- a new attempt begins in the idle phase
  begins : IsIn s board m uses (None ∷ []) (Some Idle) [] []
  begins =
      let rest : shared_next s [] ≡ NotStarted = rests s uses.started in
      let good : IsGood (shared_next s []) None = subst (λ n. IsGood n None) (sym rest) refl in
      let same : phase_given m board (shared_next s []) None (Some Idle) ≡ Some Idle = ap (λ n. phase_given m board n None (Some Idle)) rest in
      subst (λ p. Stands m board s.request (progress_of s (None ∷ [])) p (put_by (Some Idle) p) (taken_by (Some Idle) p)) same
      (moves s board m uses (progress_of s []) None (Some Idle) [] [] (opening s board m uses) good (subst IsCount (sym same) tt))

  -- with the next attempt in the place of one that has ended without success, the progress still matches
  settles : (made : AttemptsGiven) (at : Option Phase) (put taken : List ℕ) → IsIn s board m uses made.given at put taken
      → IsIn s board m uses (next_attempt made (attempt_next (Sharing s) made.given)).given at put taken
  settles made at put taken stands =
      elim (cases_Bool (next_wants_retry (sharing_next (shared_next s made.given)) && nat_lt 1 made.left)) [
        | inl again ↦
            let end = again_ends (shared_next s made.given) (and_parts _ _ again).0 in
            let over : IsOver s.request end.0 at put taken = ends_in m board s.request (progress_of s made.given) at put taken end.0 stands end.1 in
            let no_put : put ≡ [] = over.put_is ∙ end.2 s.request in
            let no_taken : taken ≡ [] = over.taken_is ∙ end.3 in
            rw again (rw (over.is, no_put, no_taken) begins)
        | inr on ↦ rw on stands
      ]

  module _ (config : Configuration) (who : ℕ) (line : Line) (is : line_attempt config who line ≡ Ok (Sharing s)) where
    -- the progress of the line's current attempt, after the replies to the line's calls, matches a phase and words
    abbrev pub InLine : List EventReply → Option Phase → List ℕ → List ℕ → Type 0
    InLine replies at put taken = IsIn s board m uses (attempts_of (Sharing s) config.tries (given_of replies)).given at put taken

    -- a line does next what its current attempt does next
    own_next : (replies : List EventReply)
        → line_next config who line replies ≡ sharing_next (shared_next s (attempts_of (Sharing s) config.tries (given_of replies)).given)
    unfolding next_given
    own_next replies = ap (λ a. lawful_next config.tries a (given_of replies)) is

    -- a line begins in the idle phase
    pub line_begins : InLine [] (Some Idle) [] []
    line_begins = settles (record { given = None ∷ []; left = config.tries }) (Some Idle) [] [] begins

    -- all transitions of the line follow the protocol
    pub line_moves : (before : List EventReply) (run : List Transition) (replies : List EventReply) (at : Option Phase) (put taken : List ℕ)
        (rest : List (Entry BoardCmd Reply)) (wanted : Wanted) → InLine before at put taken → Continues config who line before run replies → AllFittingReplies run
        → ((next : Option Phase) (ps ts : List ℕ) → InLine replies next ps ts → Through m next rest (behind wanted ps ts))
        → Through m at (board_part board run ++ rest) (behind wanted put taken)
    line_moves before [] replies at put taken rest wanted stands goes fitting_replies leads =
        leads at put taken (subst (λ l. InLine l at put taken) goes stands)
    line_moves before (mv ∷ run) replies at put taken rest wanted stands goes fitting_replies leads =
        let made = attempts_of (Sharing s) config.tries (given_of before) in
        let makes = shares_makes (shared_next s made.given) (call_of mv.event) (sym (own_next before) ∙ goes.0) in
        let whole : (board_part board (mv ∷ []) ++ board_part board run) ++ rest ≡ board_part board (mv ∷ run) ++ rest =
        ap (λ es. es ++ rest) (sym (part_cons board mv run)) in
        subst (λ es. Through m at es (behind wanted put taken)) (sym (append_assoc (board_part board (mv ∷ [])) (board_part board run) rest) ∙ whole)
        (move_on s board m uses made.given at put taken mv.who mv.event mv.reply (board_part board run ++ rest) wanted stands makes fitting_replies.0
        (λ next ps ts after.
        line_moves (mv.reply ∷ before) run replies next ps ts rest wanted
        (settles (record { given = Some mv.reply ∷ made.given; left = made.left }) next ps ts after) goes.1 fitting_replies.1 leads))

    -- at the end of the line the phase is idle, and the words are those of the outcome
    pub line_over : (replies : List EventReply) (answer : LineReply) (at : Option Phase) (put taken : List ℕ) → InLine replies at put taken
        → line_next config who line replies ≡ Returns answer
        → (outcome : SharedOutcome) × (answer ≡ Shared outcome) × IsOver s.request outcome at put taken
    line_over replies answer at put taken stands ends =
        let made = attempts_of (Sharing s) config.tries (given_of replies) in
        let end = shares_ends (shared_next s made.given) answer (sym (own_next replies) ∙ ends) in
        (end.0, end.2, ends_in m board s.request (progress_of s made.given) at put taken end.0 stands end.1)

-- a command that does not touch the mailbox keeps the idle phase
beside : (m : BoardMailbox) (given : Option Command) (reply : Reply) → ((c : Command) → given ≡ Some c → touches m c ≡ false)
    → after_command m (Some Idle) given reply ≡ Some Idle
beside m None reply alone = refl
beside m (Some c) reply alone = rw (alone c refl) refl

-- a transition of a line that leaves the mailbox alone keeps the idle phase
move_beside : (m : BoardMailbox) (board : ℕ) (who : ℕ) (event : Event) (reply : EventReply) (more : List (Entry BoardCmd Reply)) (wanted : Wanted)
    → ((c : Command) → call_of event ≡ OnBoard board (Some c) → touches m c ≡ false) → Through m (Some Idle) more wanted
    → Through m (Some Idle) (board_part board (move who event reply ∷ []) ++ more) wanted
move_beside m board who (events.Bus cmd) (event_replies.Bus reply) more wanted alone through = through
move_beside m board who (events.Bus cmd) (event_replies.Board reply) more wanted alone through = through
move_beside m board who (events.Board x cmd) (event_replies.Bus reply) more wanted alone through = through
move_beside m board who (events.Board x cmd) (event_replies.Board reply) more wanted alone through =
    elim (cases_Bool (x == board)) [
      | inl same ↦
          let here : x ≡ board = eqb-true x board same in
          let stays : after_command m (Some Idle) (command_given cmd) reply ≡ Some Idle =
          beside m (command_given cmd) reply (λ c is. alone c (ap (λ b. OnBoard b (command_given cmd)) here ∙ ap (OnBoard board) is)) in
          rw same (λ answered.
          subst
          (λ after. (is_some after ≡ true) × (IsCount after → Through m after more (behind wanted (put_by (Some Idle) after) (taken_by (Some Idle) after))))
          (sym stays) (refl, λ count. through))
      | inr other ↦ rw other through
    ]

-- all transitions of a line that leaves the mailbox alone keep the idle phase
pub moves_beside : (config : Configuration) (who : ℕ) (line : Line) (board : ℕ) (m : BoardMailbox) (before : List EventReply) (run : List Transition)
    (replies : List EventReply) (more : List (Entry BoardCmd Reply)) (wanted : Wanted) → LeavesAlone config who line board m
    → Continues config who line before run replies → Through m (Some Idle) more wanted → Through m (Some Idle) (board_part board run ++ more) wanted
moves_beside config who line board m before [] replies more wanted alone goes through = through
moves_beside config who line board m before (mv ∷ run) replies more wanted alone goes through =
    let whole : (board_part board (mv ∷ []) ++ board_part board run) ++ more ≡ board_part board (mv ∷ run) ++ more =
    ap (λ es. es ++ more) (sym (part_cons board mv run)) in
    subst (λ es. Through m (Some Idle) es wanted) (sym (append_assoc (board_part board (mv ∷ [])) (board_part board run) more) ∙ whole)
    (move_beside m board mv.who mv.event mv.reply (board_part board run ++ more) wanted (λ c is. alone before c (goes.0 ∙ ap Invokes is))
    (moves_beside config who line board m (mv.reply ∷ before) run replies more wanted alone goes.1 through))
