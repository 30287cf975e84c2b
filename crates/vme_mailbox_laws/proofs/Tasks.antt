-- The transitions of a put or a take follow the protocol of its mailbox.
use Rattle.std.proofs.Common.{◌≡◌, ℕ, true, List, [], ◌∷◌, ◌++◌, Option, Some, refl, ap, sym, subst, ◌∙◌}
use Rattle.std.specs.Prelude.{◌==◌}
use Rattle.std.proofs.lemmas.Bool.{eq-eqb}
use Rattle.std.proofs.lemmas.List.{append_assoc}
use Rattle.vme_object.specs.declared.history.Entry.{Entry}
use Rattle.vme_object.specs.History.{entry}
use Rattle.vme_memory.specs.declared.command.BoardCmd.{BoardCmd}
use Rattle.vme_memory.specs.declared.reply.Reply.{Reply}
use Rattle.vme_memory.specs.Locals.{command_given, answer_given}
use Rattle.vme_core.specs.declared.event.Event.{Event}
use Rattle.vme_core.specs.declared.event.Event.TheVariants as events
use Rattle.vme_core.specs.declared.event.EventReply.{EventReply}
use Rattle.vme_core.specs.declared.event.EventReply.TheVariants as replies
use Rattle.vme_core.specs.Runs.{move, board_part}
use Rattle.vme_core.specs.Calls.{Call, OnBoard, OnBus, call_of, command_step}
use Rattle.vme_core.specs.NextSteps.{Invokes}
use Rattle.vme_master.specs.Tables.{Inputs}
use Rattle.vme_shared.specs.MailboxSteps.{BoardMailbox}
use Rattle.vme_shared.specs.Phases.{Phase, after_command}
use Rattle.vme_shared.specs.Words.{put_by, taken_by}
use Rattle.vme_shared.specs.Tables.{SharedJob, progress_of, shared_next}
use Rattle.vme_shared.proofs.lemmas.Quiet.{no_put, no_taken}
use Rattle.vme_mailbox_laws.specs.Along.{UsesMailbox, IsGood, IsCount, phase_given}
use Rattle.vme_mailbox_laws.proofs.Datums.{commands, answered}
use Rattle.vme_mailbox_laws.proofs.Courses.{Stands, moves, stands_count, command_goes}
use Rattle.vme_mailbox_laws.specs.Runs.{IsFittingReply}
use Rattle.vme_mailbox_laws.proofs.Through.{IsAnswered, Wanted, behind, Through, through_map}

-- a goal after words and further words is the goal after all of them
pub joined : (wanted : Wanted) (put a taken b : List ℕ) (p : Option Phase) (ps ts : List ℕ) → behind wanted (put ++ a) (taken ++ b) p ps ts
    → behind (behind wanted put taken) a b p ps ts
joined wanted put a taken b p ps ts is =
    subst (λ l. wanted p l (taken ++ (b ++ ts))) (append_assoc put a ps) (subst (λ l. wanted p ((put ++ a) ++ ps) l) (append_assoc taken b ts) is)

module _ (s : SharedJob) (board : ℕ) (m : BoardMailbox) (uses : UsesMailbox s board m) where
  -- the progress of a put or a take after these replies matches a phase and words
  abbrev pub IsIn : Inputs → Option Phase → List ℕ → List ℕ → Type 0
  IsIn given at put taken = Stands m board s.request (progress_of s given) at put taken

  -- after a good reply to its call, the progress matches the next phase and its words
  given_on : (given : Inputs) (at : Option Phase) (put taken : List ℕ) (call : Call) (reply : EventReply) (next : Option Phase) → IsIn given at put taken
      → shared_next s given ≡ Invokes call → IsGood (Invokes call) (Some reply) → phase_given m board (Invokes call) (Some reply) at ≡ next → IsCount next
      → IsIn (Some reply ∷ given) next (put ++ put_by at next) (taken ++ taken_by at next)
  given_on given at put taken call reply next stands makes good leads count =
      let after : phase_given m board (shared_next s given) (Some reply) at ≡ next =
      ap (λ n. phase_given m board n (Some reply) at) makes ∙ leads in
      subst (λ p. IsIn (Some reply ∷ given) p (put ++ put_by at p) (taken ++ taken_by at p)) after
      (moves s board m uses (progress_of s given) (Some reply) at put taken stands (subst (λ n. IsGood n (Some reply)) (sym makes) good)
      (subst IsCount (sym after) count))

  -- a board in which the mailbox lies gives a good reply
  by_answer : (given : Inputs) (x : ℕ) (cmd : BoardCmd) (who : ℕ) (reply : Reply) → shared_next s given ≡ Invokes (OnBoard x (command_given cmd))
      → IsAnswered m (entry who cmd reply) → IsGood (Invokes (OnBoard x (command_given cmd))) (Some (replies.Board reply))
  unfolding answer_given
  by_answer given x cmd who reply makes is =
      let fine = answered s given board x m (command_given cmd) is.memory uses is.lies makes in
      subst (λ r. IsGood (Invokes (OnBoard x (command_given cmd))) (Some (replies.Board r))) (sym is.replied)
      (subst (λ n. IsGood n (Some (replies.Board (command_step is.memory (command_given cmd)).1))) makes fine)

  -- one transition and the entries after it follow the protocol and reach the goal
  pub one_move : (given : Inputs) (at : Option Phase) (put taken : List ℕ) (who : ℕ) (event : Event) (reply : EventReply)
      (rest : List (Entry BoardCmd Reply)) (wanted : Wanted) → IsIn given at put taken → shared_next s given ≡ Invokes (call_of event) → IsFittingReply event reply
      → ((next : Option Phase) (a b : List ℕ) → IsIn (Some reply ∷ given) next (put ++ a) (taken ++ b) → Through m next rest (behind wanted a b))
      → Through m at (board_part board (move who event reply ∷ []) ++ rest) wanted
  one_move given at put taken who (events.Bus cmd) (replies.Board reply) rest wanted stands makes good leads = absurd good
  one_move given at put taken who (events.Board x cmd) (replies.Bus reply) rest wanted stands makes good leads = absurd good
  one_move given at put taken who (events.Bus cmd) (replies.Bus reply) rest wanted stands makes good leads =
      let fine : IsGood (Invokes (OnBus cmd)) (Some (replies.Bus reply)) = (good.0, λ error. absurd cc, good.1) in
      let count = stands_count s board m uses (progress_of s given) at put taken stands in
      let next = given_on given at put taken (OnBus cmd) (replies.Bus reply) at stands makes fine refl count in
      let words_put : put ++ put_by at at ≡ put ++ [] = ap (λ ws. put ++ ws) (no_put at) in
      let words_taken : taken ++ taken_by at at ≡ taken ++ [] = ap (λ ws. taken ++ ws) (no_taken at) in
      leads at [] [] (subst (λ ps. IsIn (Some (replies.Bus reply) ∷ given) at ps (taken ++ [])) words_put
      (subst (λ ts. IsIn (Some (replies.Bus reply) ∷ given) at (put ++ put_by at at) ts) words_taken next))
  one_move given at put taken who (events.Board x cmd) (replies.Board reply) rest wanted stands makes good leads =
      let own = commands s given board x m (command_given cmd) uses makes in
      let there : (x == board) ≡ true = eq-eqb x board own.0 in
      rw there (λ is.
      let fine : IsGood (Invokes (OnBoard x (command_given cmd))) (Some (replies.Board reply)) = by_answer given x cmd who reply makes is in
      let goes = command_goes s board m uses (progress_of s given) at put taken x (command_given cmd) reply stands makes fine in (
        goes,
        λ count.
            let after : phase_given m board (Invokes (OnBoard x (command_given cmd))) (Some (replies.Board reply)) at ≡ after_command m at (command_given cmd) reply =
            rw there refl in
            leads (after_command m at (command_given cmd) reply) (put_by at (after_command m at (command_given cmd) reply))
            (taken_by at (after_command m at (command_given cmd) reply))
            (given_on given at put taken (OnBoard x (command_given cmd)) (replies.Board reply) (after_command m at (command_given cmd) reply) stands makes
            fine after count),
      ))

  -- one transition and the entries after it reach the goal that remains after the words since the beginning
  pub move_on : (given : Inputs) (at : Option Phase) (put taken : List ℕ) (who : ℕ) (event : Event) (reply : EventReply)
      (rest : List (Entry BoardCmd Reply)) (wanted : Wanted) → IsIn given at put taken → shared_next s given ≡ Invokes (call_of event) → IsFittingReply event reply
      → ((next : Option Phase) (ps ts : List ℕ) → IsIn (Some reply ∷ given) next ps ts → Through m next rest (behind wanted ps ts))
      → Through m at (board_part board (move who event reply ∷ []) ++ rest) (behind wanted put taken)
  move_on given at put taken who event reply rest wanted stands makes good leads =
      one_move given at put taken who event reply rest (behind wanted put taken) stands makes good
      (λ next a b is.
      through_map m next rest (behind wanted (put ++ a) (taken ++ b)) (behind (behind wanted put taken) a b) (joined wanted put a taken b)
      (leads next (put ++ a) (taken ++ b) is))
