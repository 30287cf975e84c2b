-- The words that are put into a mailbox and taken out of it, in the order of the writes of its counts.
use Rattle.std.specs.Prelude.{ℕ, ◌==◌, if◌then◌else◌, List, [], ◌∷◌, ◌++◌, Option, Some}
use Rattle.vme_object.specs.declared.history.Entry.{Entry}
use Rattle.vme_memory.specs.declared.command.BoardCmd.{BoardCmd}
use Rattle.vme_memory.specs.declared.reply.Reply.{Reply}
use Rattle.vme_shared.specs.MailboxSteps.{BoardMailbox}
use Rattle.vme_shared.specs.Phases.{Phase, Idle, Written, Fetched, Counted, after_entry}

-- the word that a change of phase puts: the one that was written, once its count is
abbrev pub put_by : Option Phase → Option Phase → List ℕ
put_by (Some (Written p x)) (Some Counted) = x ∷ []
put_by before after = []

-- the word that a change of phase takes: the one that was read, once its count is written
abbrev pub taken_by : Option Phase → Option Phase → List ℕ
taken_by (Some (Fetched t x)) (Some Counted) = x ∷ []
taken_by before after = []

-- every master is idle before the first entry
abbrev pub all_idle : ℕ → Option Phase
all_idle who = Some Idle

-- the phases of all masters after an entry, which changes that of its own master alone
abbrev pub phases_after : BoardMailbox → (ℕ → Option Phase) → Entry BoardCmd Reply → ℕ → Option Phase
phases_after m phases e who = if e.who == who then after_entry m (phases who) e else phases who

-- the words that entries put or take, in order, from these phases on
abbrev pub words_from :
    (Option Phase → Option Phase → List ℕ) → BoardMailbox → (ℕ → Option Phase) → List (Entry BoardCmd Reply) → List ℕ
words_from by m phases [] = []
words_from by m phases (e ∷ h) =
    by (phases e.who) (after_entry m (phases e.who) e) ++ words_from by m (phases_after m phases e) h

-- the words that are put in a history, in the order of the writes of the put count
abbrev pub words_put : BoardMailbox → List (Entry BoardCmd Reply) → List ℕ
words_put m h = words_from put_by m all_idle h

-- the words that are taken in a history, in the order of the writes of the take count
abbrev pub words_taken : BoardMailbox → List (Entry BoardCmd Reply) → List ℕ
words_taken m h = words_from taken_by m all_idle h

-- the words that a master's own entries put or take, in order, from its phase on
abbrev pub words_along :
    (Option Phase → Option Phase → List ℕ) → BoardMailbox → Option Phase → List (Entry BoardCmd Reply) → List ℕ
words_along by m phase [] = []
words_along by m phase (e ∷ h) = by phase (after_entry m phase e) ++ words_along by m (after_entry m phase e) h
