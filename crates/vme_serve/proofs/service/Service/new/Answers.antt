use Rattle.vme_serve.proofs.Opening.{opens_soundly}
use Rattle.vme_serve.proofs.service.Service.new.Goals as goal

pub invariant_of-result : goal.invariant_of-result
invariant_of-result c =
    opens_soundly c.args.config.now c.in_ok-core.core c.in_ok-memories.memories.items c.arbiter.result c.boards.result c.boards.ensures.lawful
    c.in_ok-core.ensures c.in_ok-memories.ensures c.boards.ensures.value
