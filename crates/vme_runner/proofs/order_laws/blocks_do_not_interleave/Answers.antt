use Rattle.vme_runner.proofs.Holders.{order_apart}
use Rattle.vme_runner.proofs.order_laws.blocks_do_not_interleave.Goals as goal

pub returns : goal.returns
returns c = order_apart
