-- Defines how far a processor has come with a lock, an unlock, a put or a take.
use Rattle.vme_shared.specs.declared.request.SharedRequest.{SharedRequest}
use Rattle.vme_shared.specs.declared.current.CurrentTransfer.{CurrentTransfer}
use Rattle.vme_shared.specs.Mailboxes.{IsWellFormed}
use Rattle.vme_shared.specs.Machine.{IsGoing}

-- the request, and the current transfer or the end
pub record SharedProgress : Type 0 where
  pub request : SharedRequest
  pub current : CurrentTransfer

-- the request is well-formed, and the current transfer has not ended
pub record IsSound (request : SharedRequest) (current : CurrentTransfer) : Type 0 where
  pub lawful : IsWellFormed request
  pub going : IsGoing current
