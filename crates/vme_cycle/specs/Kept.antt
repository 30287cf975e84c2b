-- The request of a transfer, borrowed or owned: for this crate's own functions.
use Rattle.vme_cycle.specs.declared.request.Request.{Request}
use Rattle.vme_cycle.specs.declared.transfer.Kept.{Kept}
use Rattle.vme_cycle.specs.declared.transfer.Kept.TheVariants.{Lent, Own}

-- the request of a transfer
abbrev pub kept_request : Kept → Request
kept_request (Lent request) = request.now
kept_request (Own request) = request
