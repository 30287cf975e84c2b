use Rattle.std.proofs.Common.{◌≡◌, true, ap, sym, ◌∙◌}
use Rattle.vme_memory.specs.Data.{has_form}
use Rattle.vme_master.specs.declared.expected.ExpectedReply.{ExpectedReply}
use Rattle.vme_master.specs.declared.phase.Phase.TheVariants.{Transferring}
use Rattle.vme_master.specs.Machine.{TaskView, job_expected, expected_len, HasRead}
use Rattle.vme_master.proofs.lemmas.ReadLengths.{buffer_before, sound_after}
use Rattle.vme_master.proofs.task.Task.on_board_reply.Goals as goal
use Rattle.vme_master.proofs.task.Task.on_board_reply.Goals.{After-accepts}

-- an accepted reply has the expected form
form : (c : After-accepts) → c.accepts.result ≡ true → has_form (expected_len (job_expected c.self.inside.job)) c.args.reply.now ≡ true
form c accepted =
    ap (λ (expected : ExpectedReply). has_form (expected_len expected) c.args.reply.now) (sym c.self.invariant.of_expected) ∙ sym c.accepts.ensures.value ∙ accepted

-- the task transfers datum i
is_transferring : (c : After-accepts) → c.self.inside.phase ≡ Transferring c.in-Transferring.i
is_transferring c = ap (λ (t : TaskView). t.phase) c.self.view_is ∙ c.requires ∙ c.in-Transferring.is

-- the buffer has the capacity for the reply's bytes
pub append-requires : goal.append-requires
append-requires c =
    let at = (goal.at.append-requires c).After-accepts in
    let had : HasRead c.self.inside.job (Transferring c.in-Transferring.i) c.self.inside.read.items = rw (is_transferring at) at c.self.invariant.sound.read in
    buffer_before c.self.inside.job c.in-Transferring.i c.self.inside.read.capacity c.self.inside.read.items c.args.reply.now had (form at c.if-accepts.true)
    c.accepts.ensures.small c.self.invariant.sound.enough

-- the task keeps its invariant
pub invariant_of-self : goal.invariant_of-self
invariant_of-self c =
    let at = (goal.at.invariant_of-self c).After-accepts in
    let had : HasRead c.self.inside.job (Transferring c.in-Transferring.i) c.self.inside.read.items = rw (is_transferring at) at c.self.invariant.sound.read in
    rw (c.phase_replied-self-inside.ensures, c.append.ensures) (record {
      sound = sound_after c.self.inside.job c.in-Transferring.i c.self.inside.read.capacity c.self.inside.read.items c.args.reply.now
          c.self.invariant.sound.placed had (form at c.if-accepts.true) c.accepts.ensures.small c.self.invariant.sound.enough;
      of_expected = c.self.invariant.of_expected;
      of_count = c.self.invariant.of_count;
    })
