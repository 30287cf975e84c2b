-- Entries of one caller that follow the protocol of a mailbox, and the goal that they reach.
use Rattle.std.proofs.Common.{◌≡◌, ℕ, true, List, [], ◌∷◌, ◌++◌, Option}
use Rattle.std.specs.Prelude.{is_some}
use Rattle.vme_object.specs.declared.history.Entry.{Entry}
use Rattle.vme_memory.specs.declared.command.BoardCmd.{BoardCmd}
use Rattle.vme_memory.specs.declared.reply.Reply.{Reply}
use Rattle.vme_memory.specs.Boards.{Board}
use Rattle.vme_memory.specs.Locals.{board_step}
use Rattle.vme_shared.specs.MailboxSteps.{BoardMailbox, LiesIn}
use Rattle.vme_shared.specs.Phases.{Phase, after_entry}
use Rattle.vme_shared.specs.Words.{put_by, taken_by}
use Rattle.vme_mailbox_laws.specs.Along.{IsCount}

-- an entry has the reply of some memory in which the mailbox lies
pub record IsAnswered (m : BoardMailbox) (e : Entry BoardCmd Reply) : Type 0 where
  pub memory : Board
  pub lies : LiesIn memory m
  pub replied : e.reply ≡ (board_step memory e.cmd).1

-- a goal: a property of the phase and of the words put and taken
abbrev pub Wanted : Type 1
Wanted = Option Phase → List ℕ → List ℕ → Type 0

-- the goal that remains after these words
abbrev pub behind : Wanted → List ℕ → List ℕ → Wanted
behind wanted put taken = λ p ps ts. wanted p (put ++ ps) (taken ++ ts)

-- entries follow the protocol and reach the goal, as long as each put count that is read is a number of four bytes
abbrev pub Through : BoardMailbox → Option Phase → List (Entry BoardCmd Reply) → Wanted → Type 0
Through m at [] wanted = wanted at [] []
Through m at (e ∷ es) wanted =
    IsAnswered m e
    → (is_some (after_entry m at e) ≡ true)
    × (IsCount (after_entry m at e)
    → Through m (after_entry m at e) es (behind wanted (put_by at (after_entry m at e)) (taken_by at (after_entry m at e))))

-- a goal that follows from the reached goal is reached too
pub through_map : (m : BoardMailbox) (at : Option Phase) (es : List (Entry BoardCmd Reply)) (wanted less : Wanted)
    → ((p : Option Phase) (ps ts : List ℕ) → wanted p ps ts → less p ps ts) → Through m at es wanted → Through m at es less
through_map m at [] wanted less then through = then at [] [] through
through_map m at (e ∷ es) wanted less then through = λ answered.
    let first = through answered in (
      first.0,
      λ count.
          through_map m (after_entry m at e) es _ _ (λ p ps ts. then p (put_by at (after_entry m at e) ++ ps) (taken_by at (after_entry m at e) ++ ts))
          (first.1 count),
    )
