-- Lines that access a board at most once name no mailbox.
use Rattle.std.proofs.Common.{◌≡◌, true}
use Rattle.vme_grammar.specs.declared.line.Line.{Line}
use Rattle.vme_grammar.specs.declared.line.Line.TheVariants.{Bus, Local, Await, Lock, Unlock, Put, Take}
use Rattle.vme_script.specs.Configurations.{Configuration}
use Rattle.vme_line_task.specs.Scripts.{HasItsMailbox}
use Rattle.vme_history.specs.Logs.{accesses_once}

-- the mailbox that a line names exists, since it names none
pub no_mailbox : (config : Configuration) (line : Line) → accesses_once line ≡ true → HasItsMailbox config line
no_mailbox config (Bus request) once = tt
no_mailbox config (Local cmd) once = tt
no_mailbox config (Await am addr bytes) once = tt
no_mailbox config (Lock am addr) once = tt
no_mailbox config (Unlock am addr) once = tt
no_mailbox config (Put mailbox word) once = absurd (cc once)
no_mailbox config (Take mailbox) once = absurd (cc once)
