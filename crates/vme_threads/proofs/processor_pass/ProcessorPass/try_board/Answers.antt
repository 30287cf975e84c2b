use Rattle.std.proofs.Common.{◌∙◌, ◌+◌, ◌<◌, ◌^◌, arith}
use Rattle.vme_threads.proofs.Counts.{count_fits}
use Rattle.vme_threads.proofs.processor_pass.ProcessorPass.try_board.Goals as goal

-- a board keeps its kind
pub unreachable-requires : goal.unreachable-requires
unreachable-requires g c =
    let memory = c.requires.fits.boards c.args.board c.requires.there in
    let kind = c.replies_have_their_kind.ensures.board _ _ _ _ _ _ _ memory.0 memory.1 c.in-Ok.ensures.adds in
    c.in_default.not-Board kind.0 kind.1

-- the count of calls of the board can rise by one
pub overflow_add-index_mut : goal.overflow_add-index_mut
overflow_add-index_mut g c =
    let fits = c.requires.fits in
    let added = c.in-Ok.ensures.adds in
    let was = c.index_mut.ensures.value ∙ fits.counted c.args.board c.index_mut.result.now (omega (arith, c.requires.there)) in
    let less : c.index_mut.result.now + 1 < 2 ^ 64 =
    count_fits _ _ _ _ _ _ _ _ was added.mine added.sound c.in-Ok.ensures.counted in
    omega (arith, less)
