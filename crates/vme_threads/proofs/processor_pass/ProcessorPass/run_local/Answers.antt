use Rattle.vme_threads.proofs.Once.{local_answered}
use Rattle.vme_threads.proofs.processor_pass.ProcessorPass.run_local.Goals as goal

pub returns : goal.returns
returns g c =
    local_answered c.args.cmd.now c.in_ok-reply.reply c.local_outcome.result c.args.self.now c.call_board.new.self
    c.in_ok-reply.ensures c.local_outcome.ensures
