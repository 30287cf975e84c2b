use Rattle.std.proofs.Common.{◌∙◌, ◌+◌, ◌<◌, ◌^◌, refl, arith}
use Rattle.vme_threads.proofs.Counts.{count_fits}
use Rattle.vme_threads.proofs.ProcessorPasses.{made_by_bus}
use Rattle.vme_threads.proofs.processor_pass.ProcessorPass.call_bus.Goals as goal

-- the arbiter keeps its kind
pub unreachable-requires : goal.unreachable-requires
unreachable-requires g c =
    let bus = c.requires.bus in
    let kind = c.replies_have_their_kind.ensures.arbiter _ _ _ _ _ _ _ bus.0 bus.1 c.in_ok-reply.ensures.adds in
    c.in_default.not-Bus kind.0 kind.1

-- the count of calls of the arbiter can rise by one
pub overflow_add-index_mut : goal.overflow_add-index_mut
overflow_add-index_mut g c =
    let fits = c.requires in
    let added = c.in_ok-reply.ensures.adds in
    let was = c.index_mut.ensures.value ∙ fits.counted c.args.self.now.boards c.index_mut.result.now (omega arith) in
    let less : c.index_mut.result.now + 1 < 2 ^ 64 =
    count_fits _ _ _ _ _ _ _ _ was added.mine added.sound c.in_ok-reply.ensures.counted in
    omega (arith, less)

-- the pass made the arbiter's entry and counted it, whatever the reply and the wait after it
pub returns-in-Waiting : goal.returns-in-Waiting
returns-in-Waiting g c =
    made_by_bus c.args.ports.now c.args.self.now _ c.index_mut.result.now c.args.cmd.now c.in_ok-reply.field-0 c.in-Bus.reply
    c.requires c.index_mut.ensures.value c.in_ok-reply.ensures.adds c.in-Bus.is refl refl refl

pub returns-in-Granted : goal.returns-in-Granted
returns-in-Granted g c =
    made_by_bus c.args.ports.now c.args.self.now _ c.index_mut.result.now c.args.cmd.now c.in_ok-reply.field-0 c.in-Bus.reply
    c.requires c.index_mut.ensures.value c.in_ok-reply.ensures.adds c.in-Bus.is refl refl refl

pub returns-in-Freed : goal.returns-in-Freed
returns-in-Freed g c =
    made_by_bus c.args.ports.now c.args.self.now _ c.index_mut.result.now c.args.cmd.now c.in_ok-reply.field-0 c.in-Bus.reply
    c.requires c.index_mut.ensures.value c.in_ok-reply.ensures.adds c.in-Bus.is refl refl refl

pub returns-in-Denied : goal.returns-in-Denied
returns-in-Denied g c =
    made_by_bus c.args.ports.now c.args.self.now _ c.index_mut.result.now c.args.cmd.now c.in_ok-reply.field-0 c.in-Bus.reply
    c.requires c.index_mut.ensures.value c.in_ok-reply.ensures.adds c.in-Bus.is refl refl refl
