-- The facts of a lawful request, one by one.
use Rattle.std.specs.Prelude.{◌≡◌, ◌+◌, ◌≤◌, true, false, ◌&&◌, is_none, is_some}
use Rattle.vme_am.specs.Codes.{CodeRow}
use Rattle.vme_am.specs.Kinds.{is_block, is_program}
use Rattle.vme_am.specs.Spaces.{addresses_of}
use Rattle.vme_cycle.specs.declared.request.Request.{Request}
use Rattle.vme_cycle.specs.Counts.{is_wide_len}
use Rattle.vme_cycle.specs.Requests.{addr_of, datum_len, span_of, is_block_request, function_of, is_counted}
use Rattle.vme_cycle.specs.Lawful.{first_location, crosses_boundary}

-- what holds of a lawful request, with the row of its code
pub record IsLawful (row : CodeRow) (request : Request) : Type 0 where
  pub kind : is_block row.kind ≡ is_block_request request
  pub no_program : (is_some (function_of request) && is_program row.kind) ≡ false
  pub counted : is_counted request ≡ true
  pub wide : is_wide_len (datum_len request) ≡ row.wide
  pub within : addr_of request + span_of request ≤ addresses_of row.space
  pub found : is_none (first_location request) ≡ false
  pub inside : crosses_boundary request ≡ false
