-- Each command of a put or a take is wholly within its mailbox, and so outside each other mailbox.
use Rattle.std.proofs.Common.{◌≡◌, ℕ, ◌+◌, ◌≤◌, ◌<◌, max, min, false, Option, Some, subst, arith, inl, inr}
use Rattle.std.proofs.lemmas.Bool.{cases_Bool, and_parts, ltb-true, ltb-false}
use Rattle.vme_memory.specs.Steps.{Command}
use Rattle.vme_core.specs.Calls.{OnBoard}
use Rattle.vme_core.specs.NextSteps.{Invokes}
use Rattle.vme_master.specs.Tables.{Inputs}
use Rattle.vme_shared.specs.MailboxSteps.{BoardMailbox, end_of, touches, offset_of, len_of}
use Rattle.vme_shared.proofs.lemmas.Places.{rest_below}
use Rattle.vme_shared.specs.declared.mailbox.Mailbox.{Mailbox}
use Rattle.vme_shared.specs.declared.stage.Stage.{Stage}
use Rattle.vme_shared.specs.declared.stage.Stage.TheVariants.{Locks, ReadsPutCount, ReadsTakeCount, WritesWord, RaisesPutCount, ReadsWord, RaisesTakeCount, Unlocks}
use Rattle.vme_shared.specs.Tables.{SharedJob, shared_next}
use Rattle.vme_mailbox_laws.specs.Along.{mailbox_in, LiesAt, IsWithin, overlap}
use Rattle.vme_mailbox_laws.proofs.Stages.{stage_command}
use Rattle.vme_mailbox_laws.proofs.Datums.{stage_commands}

-- the command of each stage is within the mailbox
stage_within : (m : BoardMailbox) (stage : Stage) → 1 ≤ m.slots → IsWithin m (stage_command m stage)
stage_within m Locks some = record { from = omega arith; to = omega arith }
stage_within m ReadsPutCount some = record { from = omega arith; to = omega arith }
stage_within m (ReadsTakeCount p) some = record { from = omega arith; to = omega arith }
stage_within m (WritesWord p word) some = let rest = rest_below p m.slots some in record { from = omega arith; to = omega arith }
stage_within m (RaisesPutCount p) some = record { from = omega arith; to = omega arith }
stage_within m (ReadsWord t) some = let rest = rest_below t m.slots some in record { from = omega arith; to = omega arith }
stage_within m (RaisesTakeCount t word) some = record { from = omega arith; to = omega arith }
stage_within m (Unlocks end) some = record { from = omega arith; to = omega arith }

-- each command of a put or a take goes to its board and is within the mailbox
pub within : (s : SharedJob) (given : Inputs) (mailbox : Mailbox) (board x : ℕ) (mine : BoardMailbox) (command : Option Command)
    → mailbox_in s.request ≡ Some mailbox → LiesAt s.map mailbox board mine → 1 ≤ mailbox.slots
    → shared_next s given ≡ Invokes (OnBoard x command)
    → (x ≡ board) × ((c : Command) × (command ≡ Some c) × IsWithin mine c)
within s given mailbox board x mine command asks lies some makes =
    let slot : 1 ≤ mine.slots = rw lies.slots some in
    let own = stage_commands s given mailbox board x mine command asks lies slot makes in
    (own.0, (stage_command mine own.1.0, own.1.1, stage_within mine own.1.0 slot))

-- a command within a mailbox does not touch a mailbox that shares no byte with it
pub beside : (mine other : BoardMailbox) (c : Command) → IsWithin mine c → overlap mine other ≡ false → touches other c ≡ false
beside mine other c inside apart =
    elim (cases_Bool (touches other c)) [
      | inl touched ↦
          let parts = and_parts _ _ touched in
          let more = and_parts _ _ parts.0 in
          let some : 0 < len_of c = ltb-true 0 (len_of c) more.0 in
          let before : offset_of c < end_of other = ltb-true (offset_of c) (end_of other) more.1 in
          let behind : other.offset < offset_of c + len_of c = ltb-true other.offset (offset_of c + len_of c) parts.1 in
          let none : min (end_of mine) (end_of other) ≤ max mine.offset other.offset =
          ltb-false (max mine.offset other.offset) (min (end_of mine) (end_of other)) apart in
          absurd (omega (arith, some, before, behind, none, inside.from, inside.to))
      | inr free ↦ free
    ]

-- no command of a put or a take touches a mailbox that shares no byte with its own
pub others : (s : SharedJob) (given : Inputs) (mailbox : Mailbox) (board x : ℕ) (mine other : BoardMailbox) (command : Command)
    → mailbox_in s.request ≡ Some mailbox → LiesAt s.map mailbox board mine → 1 ≤ mailbox.slots → overlap mine other ≡ false
    → shared_next s given ≡ Invokes (OnBoard x (Some command)) → touches other command ≡ false
others s given mailbox board x mine other command asks lies some apart makes =
    let own = within s given mailbox board x mine (Some command) asks lies some makes in
    let same : own.1.0 ≡ command = cc in
    beside mine other command (subst (λ c. IsWithin mine c) same own.1.2) apart
