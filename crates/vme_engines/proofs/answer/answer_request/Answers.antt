-- The plan of a request is lawful.
use Rattle.std.proofs.Common.{sym}
use Rattle.vme_cycle.proofs.lemmas.Transfers.{transfer_is_lawful}
use Rattle.vme_engines.proofs.answer.answer_request.Goals as goal

pub answer_data-requires-clause-lawful : goal.answer_data-requires-clause-lawful
answer_data-requires-clause-lawful c = transfer_is_lawful c.args.request.now c.in-Ok.plan (sym c.in-Ok.ensures.plan)
