-- The numbers by which a line may name mailboxes: in a file, those of the declared mailboxes.
use Rattle.std.specs.Prelude.{ℕ, nat_le, Bool, true, ◌&&◌}
use Rattle.vme_grammar.specs.declared.line.Line.{Line}
use Rattle.vme_grammar.specs.declared.line.Line.TheVariants.{Bus, Local, Await, Lock, Unlock, Put, Take}
use Rattle.vme_script.specs.declared.mailbox_numbers.MailboxNumbers.{MailboxNumbers}
use Rattle.vme_script.specs.declared.mailbox_numbers.MailboxNumbers.TheVariants.{Any, Declared}

-- whether a number names a mailbox: the declared mailboxes have the numbers from 1 on
abbrev pub has_box : MailboxNumbers → ℕ → Bool
has_box Any number = true
has_box (Declared count) number = nat_le 1 number && nat_le number count

-- whether a line names only mailboxes that it may name; only a put and a take name one
abbrev pub may_name : MailboxNumbers → Line → Bool
may_name boxes (Bus request) = true
may_name boxes (Local command) = true
may_name boxes (Await am addr bytes) = true
may_name boxes (Lock am addr) = true
may_name boxes (Unlock am addr) = true
may_name boxes (Put mailbox number) = has_box boxes mailbox
may_name boxes (Take mailbox) = has_box boxes mailbox
