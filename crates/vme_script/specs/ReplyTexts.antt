-- The line of a reply.
use Rattle.std.specs.Prelude.{ℕ, List, ◌++◌, codes}
use Rattle.std.specs.Fmt.{decimal}
use Rattle.std.specs.Int.{w32, to_be_bytes}
use Rattle.vme_master.specs.declared.outcome.Outcome as outcomes
use Rattle.vme_master.specs.declared.outcome.Outcome.TheVariants.{Read, Done, Old, Berr, Denied}
use Rattle.vme_shared.specs.declared.outcome.SharedOutcome.{SharedOutcome}
use Rattle.vme_shared.specs.declared.outcome.SharedOutcome.TheVariants as shared
use Rattle.vme_shared.specs.declared.reply.LineReply.{LineReply}
use Rattle.vme_shared.specs.declared.reply.LineReply.TheVariants.{Transfer, Refused, Met, Timeout, Shared, Unfinished}
use Rattle.vme_grammar.specs.Texts as texts
use Rattle.vme_grammar.specs.Texts.{hex_text, outcome_text, cycle_fault_text, output_line}

-- the slot of a script and the number of its line
abbrev pub place_text : ℕ → ℕ → List ℕ
place_text slot line = decimal slot ++ (codes ":" ++ (decimal line ++ codes " "))

-- the outcome of a transfer or of a command to the local port
abbrev pub transfer_text : outcomes.Outcome → List ℕ
transfer_text (Read bytes) = outcome_text (texts.Read bytes.items)
transfer_text Done = outcome_text texts.Done
transfer_text (Old bytes) = outcome_text (texts.Old bytes.items)
transfer_text (Berr count bytes) = outcome_text (texts.Berr count bytes.items)
transfer_text Denied = codes "denied"

-- the outcome of an operation on a lock or a mailbox
abbrev pub shared_text : SharedOutcome → List ℕ
shared_text shared.Taken = codes "taken"
shared_text shared.Unlocked = codes "done"
shared_text shared.Busy = codes "busy"
shared_text shared.Put = codes "put"
shared_text (shared.Took word) = codes "took " ++ hex_text (to_be_bytes w32 word)
shared_text shared.Full = codes "full"
shared_text shared.Empty = codes "empty"
shared_text shared.Spent = codes "spent"
shared_text shared.Berr = codes "berr 0"
shared_text shared.Denied = codes "denied"

-- the reply to a line of a script
abbrev pub reply_text : LineReply → List ℕ
reply_text (Transfer outcome) = transfer_text outcome
reply_text (Refused fault) = codes "refused " ++ cycle_fault_text fault
reply_text Met = codes "met"
reply_text Timeout = codes "timeout"
reply_text (Shared outcome) = shared_text outcome
reply_text Unfinished = codes "unfinished"

-- the line of a report for the reply to a line of a script
unfoldable pub line_text : ℕ → ℕ → LineReply → List ℕ
line_text slot line reply = place_text slot line ++ output_line (reply_text reply)
