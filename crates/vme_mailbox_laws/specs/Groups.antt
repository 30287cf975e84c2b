-- Defines the words of one caller among all words of a history.
use Rattle.std.specs.Prelude.{ℕ, ◌==◌, if◌then◌else◌, List, [], ◌∷◌, ◌++◌, Option}
use Rattle.vme_object.specs.declared.history.Entry.{Entry}
use Rattle.vme_memory.specs.declared.command.BoardCmd.{BoardCmd}
use Rattle.vme_memory.specs.declared.reply.Reply.{Reply}
use Rattle.vme_shared.specs.MailboxSteps.{BoardMailbox}
use Rattle.vme_shared.specs.Phases.{Phase, after_entry}
use Rattle.vme_shared.specs.Words.{put_by, taken_by, all_idle, phases_after}

-- the words that the entries of caller `who` put or take in a history, in order, from these phases of all callers on
abbrev pub own_words_from :
    ℕ → (Option Phase → Option Phase → List ℕ) → BoardMailbox → (ℕ → Option Phase) → List (Entry BoardCmd Reply) → List ℕ
own_words_from who by m phases [] = []
own_words_from who by m phases (e ∷ h) =
    (if e.who == who then by (phases e.who) (after_entry m (phases e.who) e) else [])
    ++ own_words_from who by m (phases_after m phases e) h

-- the words that caller `who` puts in a history
abbrev pub own_words_put : ℕ → BoardMailbox → List (Entry BoardCmd Reply) → List ℕ
own_words_put who m h = own_words_from who put_by m all_idle h

-- the words that caller `who` takes in a history
abbrev pub own_words_taken : ℕ → BoardMailbox → List (Entry BoardCmd Reply) → List ℕ
own_words_taken who m h = own_words_from who taken_by m all_idle h
