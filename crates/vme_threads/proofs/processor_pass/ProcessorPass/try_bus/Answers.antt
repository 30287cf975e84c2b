use Rattle.std.proofs.Common.{◌∙◌, ◌+◌, ◌<◌, ◌^◌, arith}
use Rattle.vme_threads.proofs.Counts.{count_fits}
use Rattle.vme_threads.proofs.processor_pass.ProcessorPass.try_bus.Goals as goal

-- the arbiter keeps its kind
pub unreachable-requires : goal.unreachable-requires
unreachable-requires c =
    let bus = c.requires.bus in
    let kind = c.replies_have_their_kind.ensures.arbiter _ _ _ _ _ _ _ bus.0 bus.1 c.in-Ok.ensures.adds in
    c.in_default.not-Bus kind.0 kind.1

-- the count of calls of the arbiter can rise by one
pub overflow_add-index_mut : goal.overflow_add-index_mut
overflow_add-index_mut c =
    let fits = c.requires in
    let added = c.in-Ok.ensures.adds in
    let was = c.index_mut.ensures.value ∙ fits.counted c.args.self.now.boards c.index_mut.result.now (omega arith) in
    let less : c.index_mut.result.now + 1 < 2 ^ 64 =
    count_fits _ _ _ _ _ _ _ _ was added.mine added.sound c.in-Ok.ensures.counted in
    omega (arith, less)
