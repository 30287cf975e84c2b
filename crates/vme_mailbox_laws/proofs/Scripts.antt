-- A processor's whole script follows the protocol, and puts and takes the words that its replies report.
use Rattle.std.proofs.Common.{◌≡◌, ℕ, true, false, List, [], ◌∷◌, ◌++◌, Option, Some, Ok, refl, ap, sym, subst, ◌∙◌, inl, inr}
use Rattle.std.specs.Prelude.{if◌then◌else◌}
use Rattle.std.proofs.lemmas.Bool.{cases_Bool, eqb-true}
use Rattle.std.proofs.lemmas.List.{append_assoc}
use Rattle.vme_object.specs.declared.history.Entry.{Entry}
use Rattle.vme_memory.specs.declared.command.BoardCmd.{BoardCmd}
use Rattle.vme_memory.specs.declared.reply.Reply.{Reply}
use Rattle.vme_core.specs.Runs.{Transition, board_part}
use Rattle.vme_shared.specs.MailboxSteps.{BoardMailbox}
use Rattle.vme_shared.specs.Phases.{Phase, Idle}
use Rattle.vme_shared.specs.declared.mailbox.Mailbox.{Mailbox}
use Rattle.vme_shared.specs.declared.outcome.SharedOutcome.{SharedOutcome}
use Rattle.vme_shared.specs.declared.outcome.SharedOutcome.TheVariants as shared
use Rattle.vme_shared.specs.declared.reply.LineReply.{LineReply}
use Rattle.vme_shared.specs.declared.reply.LineReply.TheVariants.{Shared}
use Rattle.vme_shared.specs.declared.request.SharedRequest.{SharedRequest}
use Rattle.vme_shared.specs.declared.request.SharedRequest.TheVariants as requests
use Rattle.vme_shared.specs.Tables.{SharedJob}
use Rattle.vme_grammar.specs.declared.line.Line.{Line}
use Rattle.vme_grammar.specs.declared.line.Line.TheVariants as lines
use Rattle.vme_script.specs.Configurations.{Configuration}
use Rattle.vme_line_task.specs.Scripts.{Sharing, shared_job, unless_refused, line_attempt, mailbox_at}
use Rattle.vme_line_task.specs.Traces.{LineTrace, IsTrace}
use Rattle.vme_mailbox_laws.specs.Along.{UsesMailbox, put_by_outcome, taken_by_outcome}
use Rattle.vme_mailbox_laws.proofs.Courses.{IsOver}
use Rattle.vme_mailbox_laws.specs.Names.{names, put_by_reply, taken_by_reply, lines_put, lines_taken, LeavesAlone, AllLeave, IsMailboxOf}
use Rattle.vme_mailbox_laws.proofs.Through.{Wanted, behind, Through}
use Rattle.vme_mailbox_laws.specs.Runs.{AllFittingReplies}
use Rattle.vme_mailbox_laws.proofs.Lines.{line_begins, line_moves, line_over, moves_beside, part_cons}

-- the put of a line that names the mailbox uses it
puts : (config : Configuration) (who box board word : ℕ) (m : BoardMailbox) → IsMailboxOf config box board m
    → UsesMailbox (shared_job config who (requests.Put (mailbox_at config box) word)) board m
puts config who box board word m is =
    record { mailbox = mailbox_at config box; asked = refl; lies = is.lies; formed = is.formed; started = is.lawful }

-- the take of a line that names the mailbox uses it
takes : (config : Configuration) (who box board : ℕ) (m : BoardMailbox) → IsMailboxOf config box board m
    → UsesMailbox (shared_job config who (requests.Take (mailbox_at config box))) board m
takes config who box board m is =
    record { mailbox = mailbox_at config box; asked = refl; lies = is.lies; formed = is.formed; started = is.lawful }

-- the words that the outcome of a put reports as put are those that the reply of its line reports
put_effect : (box word : ℕ) (mailbox : Mailbox) (outcome : SharedOutcome)
    → put_by_outcome outcome (requests.Put mailbox word) ≡ put_by_reply (lines.Put box word) (Shared outcome)
put_effect box word mailbox shared.Put = refl
put_effect box word mailbox outcome = refl

-- the words that the outcome of a take reports as put, none, are those that the reply of its line reports
take_puts_nothing : (box : ℕ) (mailbox : Mailbox) (outcome : SharedOutcome)
    → put_by_outcome outcome (requests.Take mailbox) ≡ put_by_reply (lines.Take box) (Shared outcome)
take_puts_nothing box mailbox shared.Put = refl
take_puts_nothing box mailbox outcome = refl

-- the words that an outcome reports as taken are those that the reply of the line reports
taken_shows : (outcome : SharedOutcome) → taken_by_outcome outcome ≡ taken_by_reply (Shared outcome)
taken_shows (shared.Took word) = refl
taken_shows outcome = refl

-- if all replies of a run in two parts satisfy `IsFittingReply`, those of each part do
fitting_parts : (a b : List Transition) → AllFittingReplies (a ++ b) → AllFittingReplies a × AllFittingReplies b
fitting_parts [] b fitting_replies = (tt, fitting_replies)
fitting_parts (mv ∷ a) b fitting_replies = let parts = fitting_parts a b fitting_replies.1 in ((fitting_replies.0, parts.0), parts.1)

-- a board's part of two runs is its part of the first followed by its part of the second
part_append : (x : ℕ) (a b : List Transition) → board_part x (a ++ b) ≡ board_part x a ++ board_part x b
part_append x [] b = refl
part_append x (mv ∷ a) b =
    part_cons x mv (a ++ b) ∙ ap (λ es. board_part x (mv ∷ []) ++ es) (part_append x a b)
    ∙ sym (append_assoc (board_part x (mv ∷ [])) (board_part x a) (board_part x b)) ∙ ap (λ es. es ++ board_part x b) (sym (part_cons x mv a))

module _ (config : Configuration) (who box board : ℕ) (m : BoardMailbox) (is : IsMailboxOf config box board m) where
  -- the goal after a line, for a goal at the end
  abbrev After : Line → LineReply → List (Entry BoardCmd Reply) → Wanted → Type 0
  After line answer rest wanted =
      Through m (Some Idle) rest
      (behind wanted (if names box line then put_by_reply line answer else []) (if names box line then taken_by_reply answer else []))

  -- the end of a put or a take reaches the goal
  at_end : (request : SharedRequest) (outcome : SharedOutcome) (next : Option Phase) (ps ts : List ℕ) (rest : List (Entry BoardCmd Reply))
      (wanted : Wanted) → IsOver request outcome next ps ts
      → Through m (Some Idle) rest (behind wanted (put_by_outcome outcome request) (taken_by_outcome outcome)) → Through m next rest (behind wanted ps ts)
  at_end request outcome next ps ts rest wanted over through = rw (over.is, over.put_is, over.taken_is) through

  -- a line whose attempt is a put or a take follows the protocol and reaches the goal
  shared_line : (line : Line) (s : SharedJob) (uses : UsesMailbox s board m) (run : List Transition) (answer : LineReply)
      (rest : List (Entry BoardCmd Reply)) (wanted : Wanted) → line_attempt config who line ≡ Ok (Sharing s) → LineTrace config who line run answer
      → AllFittingReplies run
      → ((outcome : SharedOutcome) → answer ≡ Shared outcome → Through m (Some Idle) rest (behind wanted (put_by_outcome outcome s.request) (taken_by_outcome outcome)))
      → Through m (Some Idle) (board_part board run ++ rest) wanted
  shared_line line s uses run answer rest wanted attempt trace fitting_replies leads =
      line_moves s board m uses config who line attempt [] run trace.replies (Some Idle) [] [] rest wanted
      (line_begins s board m uses config who line attempt) trace.goes fitting_replies
      (λ next ps ts stands.
      let over = line_over s board m uses config who line attempt trace.replies answer next ps ts stands trace.ends in
      at_end s.request over.0 next ps ts rest wanted over.2 (leads over.0 over.1))

  -- a line of any kind follows the protocol and reaches the goal
  one_line : (line : Line) (run : List Transition) (answer : LineReply) (rest : List (Entry BoardCmd Reply)) (wanted : Wanted)
      → (names box line ≡ false → LeavesAlone config who line board m) → LineTrace config who line run answer → AllFittingReplies run
      → After line answer rest wanted → Through m (Some Idle) (board_part board run ++ rest) wanted
  one_line line run answer rest wanted alone trace fitting_replies after =
      elim (cases_Bool (names box line)) [
        | inl named ↦ by_name line run answer rest wanted named trace fitting_replies (rw named at after)
        | inr other ↦ moves_beside config who line board m [] run trace.replies rest wanted (alone other) trace.goes (rw other at after)
      ]
    where
      by_name : (line : Line) (run : List Transition) (answer : LineReply) (rest : List (Entry BoardCmd Reply)) (wanted : Wanted)
          → names box line ≡ true → LineTrace config who line run answer → AllFittingReplies run
          → Through m (Some Idle) rest (behind wanted (put_by_reply line answer) (taken_by_reply answer))
          → Through m (Some Idle) (board_part board run ++ rest) wanted
      by_name (lines.Put other word) run answer rest wanted named trace fitting_replies after =
          let same : other ≡ box = eqb-true other box named in
          let attempt : line_attempt config who (lines.Put other word) ≡ Ok (Sharing (shared_job config who (requests.Put (mailbox_at config box) word))) =
          ap (λ b. line_attempt config who (lines.Put b word)) same
          ∙ ap (unless_refused (Sharing (shared_job config who (requests.Put (mailbox_at config box) word)))) is.lawful in
          shared_line (lines.Put other word) (shared_job config who (requests.Put (mailbox_at config box) word)) (puts config who box board word m is) run
          answer rest wanted attempt trace fitting_replies
          (λ outcome reported.
          rw (put_effect other word (mailbox_at config box) outcome, taken_shows outcome)
          (subst (λ a. Through m (Some Idle) rest (behind wanted (put_by_reply (lines.Put other word) a) (taken_by_reply a))) reported after))
      by_name (lines.Take other) run answer rest wanted named trace fitting_replies after =
          let same : other ≡ box = eqb-true other box named in
          let attempt : line_attempt config who (lines.Take other) ≡ Ok (Sharing (shared_job config who (requests.Take (mailbox_at config box)))) =
          ap (λ b. line_attempt config who (lines.Take b)) same
          ∙ ap (unless_refused (Sharing (shared_job config who (requests.Take (mailbox_at config box))))) is.lawful in
          shared_line (lines.Take other) (shared_job config who (requests.Take (mailbox_at config box))) (takes config who box board m is) run
          answer rest wanted attempt trace fitting_replies
          (λ outcome reported.
          rw (take_puts_nothing other (mailbox_at config box) outcome, taken_shows outcome)
          (subst (λ a. Through m (Some Idle) rest (behind wanted (put_by_reply (lines.Take other) a) (taken_by_reply a))) reported after))
      by_name line run answer rest wanted named trace fitting_replies after = absurd cc

  -- the whole script follows the protocol and reaches the goal
  pub script : (ls : List Line) (run : List Transition) (answers : List LineReply) (wanted : Wanted) → AllLeave config who box board m ls
      → IsTrace config who ls run answers → AllFittingReplies run → wanted (Some Idle) (lines_put box ls answers) (lines_taken box ls answers)
      → Through m (Some Idle) (board_part board run) wanted
  script [] run [] wanted alone trace fitting_replies done = rw trace done
  script [] run (answer ∷ answers) wanted alone trace fitting_replies done = absurd trace
  script (line ∷ ls) run [] wanted alone trace fitting_replies done = absurd trace
  script (line ∷ ls) run (answer ∷ answers) wanted alone (first, rest, whole, own, later) fitting_replies done =
      let split = fitting_parts first rest (subst AllFittingReplies whole fitting_replies) in
      let parts : board_part board run ≡ board_part board first ++ board_part board rest = ap (board_part board) whole ∙ part_append board first rest in
      rw parts
      (one_line line first answer (board_part board rest) wanted alone.0 own split.0
      (script ls rest answers
      (behind wanted (if names box line then put_by_reply line answer else []) (if names box line then taken_by_reply answer else [])) alone.1 later split.1 done))
