-- The protocol of a mailbox, one access after another, and the histories in which every master keeps it.
use Rattle.std.specs.Prelude.{ℕ, ◌+◌, ◌-◌, ◌%◌, ◌^◌, nat_le, nat_lt, Bool, not, ◌==◌, ◌&&◌, if◌then◌else◌, List, [], ◌∷◌, length, Option, Some, None, is_some, IsTrue}
use Rattle.vme_object.specs.declared.history.Entry.{Entry}
use Rattle.vme_object.specs.History.{own}
use Rattle.vme_cycle.specs.declared.modify.Modify.TheVariants as functions
use Rattle.vme_cycle.specs.Functions.{number_of}
use Rattle.vme_memory.specs.declared.command.BoardCmd.{BoardCmd}
use Rattle.vme_memory.specs.declared.reply.Reply.{Reply}
use Rattle.vme_memory.specs.declared.reply.Reply.TheVariants.{Bytes, Done}
use Rattle.vme_memory.specs.Steps.{Command, Read, Write, Modify}
use Rattle.vme_memory.specs.Locals.{command_given}
use Rattle.vme_shared.specs.MailboxSteps.{BoardMailbox, lock_at, put_count_at, take_count_at, word_at, touches}

-- the phase of a master: idle; the lock taken; the put count p read; the take count t read too; the word x with number
-- p written; the word x with number t read; the count raised
pub data Phase : Type 0 where
  Idle : Phase
  Locked : Phase
  First : ℕ → Phase
  Both : ℕ → ℕ → Phase
  Written : ℕ → ℕ → Phase
  Fetched : ℕ → ℕ → Phase
  Counted : Phase

-- what an answered bus command did, with its offset, its length and its number: it set bit 7 of a byte and found the
-- number there; it read the number; it wrote the number; or it did something else
pub data Access : Type 0 where
  Sets : ℕ → ℕ → ℕ → Access
  Reads : ℕ → ℕ → ℕ → Access
  Writes : ℕ → ℕ → ℕ → Access
  Others : Access

-- what a command did, by its reply
abbrev pub access_of : Command → Reply → Access
access_of (Modify at len functions.Set) (Bytes old) = Sets at len (number_of old.items)
access_of (Read at len) (Bytes datum) = Reads at len (number_of datum.items)
access_of (Write at new) Done = Writes at (length new) (number_of new)
access_of command reply = Others

-- whether a put with these counts writes its word: the put count can rise, and the mailbox has fewer words than slots,
-- modulo 2 ^ 32
abbrev pub has_space : BoardMailbox → ℕ → ℕ → Bool
has_space m p t = nat_lt p (2 ^ 32 - 1) && nat_lt ((p + 2 ^ 32 - t) % 2 ^ 32) m.slots

-- whether a write releases the lock: one zero byte over it
abbrev pub is_unlock : BoardMailbox → ℕ → ℕ → ℕ → Bool
is_unlock m at len new = at == lock_at m && len == 1 && new == 0

-- a phase, if a condition holds
abbrev pub reached : Bool → Phase → Option Phase
reached is phase = if is then Some phase else None

-- the phase after an access that the protocol allows: lock; read both counts; write the next word if a slot is free,
-- read the oldest if there is one, or unlock; write the count plus one; unlock
abbrev pub next_phase : BoardMailbox → Phase → Access → Option Phase
next_phase m Idle (Sets at len old) = reached (at == lock_at m && len == 1) (if nat_le 128 old then Idle else Locked)
next_phase m Locked (Reads at len p) = reached (at == put_count_at m && len == 4) (First p)
next_phase m (First p) (Reads at len t) = reached (at == take_count_at m && len == 4) (Both p t)
next_phase m (Both p t) (Writes at len x) =
    if is_unlock m at len x then Some Idle else reached (at == word_at m p && len == 4 && has_space m p t) (Written p x)
next_phase m (Both p t) (Reads at len x) = reached (at == word_at m t && len == 4 && not (p == t)) (Fetched t x)
next_phase m (Written p x) (Writes at len n) = reached (at == put_count_at m && len == 4 && n == p + 1) Counted
next_phase m (Fetched t x) (Writes at len n) = reached (at == take_count_at m && len == 4 && n == (t + 1) % 2 ^ 32) Counted
next_phase m Counted (Writes at len new) = reached (is_unlock m at len new) Idle
next_phase m phase access = None

-- the phase after a command and its reply, or none once the protocol is broken; an absent command, and a command that
-- touches no byte of the mailbox, keep the phase
abbrev pub after_command : BoardMailbox → Option Phase → Option Command → Reply → Option Phase
after_command m None command reply = None
after_command m (Some phase) None reply = Some phase
after_command m (Some phase) (Some command) reply =
    if touches m command then next_phase m phase (access_of command reply) else Some phase

-- the phase after one of the master's own entries
abbrev pub after_entry : BoardMailbox → Option Phase → Entry BoardCmd Reply → Option Phase
after_entry m phase e = after_command m phase (command_given e.cmd) e.reply

-- the phase after all of the master's own entries
abbrev pub phase_after : BoardMailbox → Option Phase → List (Entry BoardCmd Reply) → Option Phase
phase_after m phase [] = phase
phase_after m phase (e ∷ h) = phase_after m (after_entry m phase e) h

-- a history is proper for a mailbox: the entries of each master keep the protocol, from idle on
abbrev pub IsProper : BoardMailbox → List (Entry BoardCmd Reply) → Type 0
IsProper m h = (who : ℕ) → IsTrue (is_some (phase_after m (Some Idle) (own who h)))
