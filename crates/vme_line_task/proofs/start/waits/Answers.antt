use Rattle.std.proofs.Common.{length, ◌∙◌, arith}
use Rattle.vme_line_task.proofs.Waits.{reads_so_many, waits_so}
use Rattle.vme_line_task.proofs.start.waits.Goals as goal

pub short_transfer-requires-clause-capacity : goal.short_transfer-requires-clause-capacity
short_transfer-requires-clause-capacity c = λ t is.
    omega (arith, reads_so_many c.args.am c.args.addr (length c.as_slice.result.now) t is, c.as_slice.ensures.fits)

pub returns : goal.returns
returns c = waits_so c.args.config.now c.args.board c.args.am c.args.addr c.as_slice.result.now c.args.bytes.now.items c.in_ok-task.task c.of.result
    c.in_ok-task.ensures c.as_slice.ensures.value c.of.ensures.task (c.of.ensures.want ∙ c.copy_bytes-want.ensures)
