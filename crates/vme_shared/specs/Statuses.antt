-- Which replies are good ones.
use Rattle.std.specs.Prelude.{List, [], ◌∷◌}
use Rattle.vme_master.specs.declared.outcome.Outcome.{Outcome}
use Rattle.vme_master.specs.declared.outcome.Outcome.TheVariants.{Read, Done, Old, Berr, Denied}
use Rattle.vme_shared.specs.declared.outcome.SharedOutcome.{SharedOutcome}
use Rattle.vme_shared.specs.declared.outcome.SharedOutcome.TheVariants as shared
use Rattle.vme_shared.specs.declared.reply.LineReply.{LineReply}
use Rattle.vme_shared.specs.declared.reply.LineReply.TheVariants.{Transfer, Refused, Met, Timeout, Shared, Unfinished}
use Rattle.vme_shared.specs.declared.status.Status.{Status}
use Rattle.vme_shared.specs.declared.status.Status.TheVariants.{Clean, Marked}

-- clean if a transfer or local command ended without a bus error and without a denial
abbrev pub outcome_status : Outcome → Status
outcome_status (Read bytes) = Clean
outcome_status Done = Clean
outcome_status (Old bytes) = Clean
outcome_status (Berr count bytes) = Marked
outcome_status Denied = Marked

-- clean if the lock was taken or released, or the word was put or taken
abbrev pub shared_status : SharedOutcome → Status
shared_status shared.Taken = Clean
shared_status shared.Unlocked = Clean
shared_status shared.Busy = Marked
shared_status shared.Put = Clean
shared_status (shared.Took word) = Clean
shared_status shared.Full = Marked
shared_status shared.Empty = Marked
shared_status shared.Spent = Marked
shared_status shared.Berr = Marked
shared_status shared.Denied = Marked

-- clean if a line read the bytes that it waits for, or its transfer, lock, unlock, put or take is clean
abbrev pub reply_status : LineReply → Status
reply_status (Transfer outcome) = outcome_status outcome
reply_status (Refused fault) = Marked
reply_status Met = Clean
reply_status Timeout = Marked
reply_status (Shared outcome) = shared_status outcome
reply_status Unfinished = Marked

-- marked if one of two statuses is marked
abbrev pub worse_of : Status → Status → Status
worse_of Clean status = status
worse_of Marked status = Marked

-- marked if one of these statuses is marked
abbrev pub worst : List Status → Status
worst [] = Clean
worst (status ∷ more) = worse_of status (worst more)
