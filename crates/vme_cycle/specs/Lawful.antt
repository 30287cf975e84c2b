-- Lawful requests: the refusals in order, and the transfer of a request without a refusal.
use Rattle.std.specs.Prelude.{ℕ, ◌≡◌, ◌+◌, ◌-◌, ◌%◌, nat_lt, Bool, false, not, ◌==◌, ◌&&◌, ◌||◌, if◌then◌else◌, List, [], ◌∷◌, is_none, is_some, Option, Some, None, Result, Ok, Err}
use Rattle.std.specs.Bool.{beq}
use Rattle.vme_am.specs.declared.code.AmFault.{AmFault}
use Rattle.vme_am.specs.Spaces.{addresses_of}
use Rattle.vme_am.specs.Kinds.{is_block, is_program}
use Rattle.vme_am.specs.Codes.{CodeRow, read_code}
use Rattle.vme_lanes.specs.declared.location.Location.{Location}
use Rattle.vme_lanes.specs.declared.location.Location.TheVariants.{Bytes03}
use Rattle.vme_lanes.specs.Rows.{location_at}
use Rattle.vme_cycle.specs.declared.request.Request.{Request}
use Rattle.vme_cycle.specs.declared.fault.CycleFault.{CycleFault}
use Rattle.vme_cycle.specs.declared.fault.CycleFault.TheVariants.{Code, WrongKindOfCode, ProgramModify, BadCount, OutsideSpace, NoCycle, CrossesBoundary}
use Rattle.vme_cycle.specs.Counts.{is_wide_len, unit_of}
use Rattle.vme_cycle.specs.Refusals.{where_true, first_of}
use Rattle.vme_cycle.specs.Requests.{code_of, addr_of, datum_len, span_of, is_block_request, function_of, is_counted}

-- a request with the row of its code; `IsLawfulTransfer` states that the request is lawful
pub record Transfer : Type 0 where
  pub am : CodeRow
  pub request : Request

-- the refusal of a code without a row
abbrev pub code_refusal : Result CodeRow AmFault → Option CycleFault
code_refusal (Ok row) = None
code_refusal (Err fault) = Some (Code fault)

-- whether the row of a code passes a test; false where the code has no row
abbrev pub row_passes : (CodeRow → Bool) → Result CodeRow AmFault → Bool
row_passes test (Ok row) = test row
row_passes test (Err fault) = false

-- whether the first address must be a multiple of the datum length: in a block and in a read-modify-write
abbrev pub is_aligned_kind : Request → Bool
is_aligned_kind request = is_block_request request || is_some (function_of request)

-- the byte location of n bytes that begin at an address; IEEE 1014-1987, 2.2.1 (addressing lines). Eight
-- bytes use BYTE(0-3)
abbrev pub location_for : ℕ → ℕ → Option Location
location_for addr n = if is_wide_len n then Some Bytes03 else location_at addr n

-- the byte location of the first datum; IEEE 1014-1987, 2.2.1 (addressing lines)
abbrev pub first_location : Request → Option Location
first_location request =
    if is_aligned_kind request && not (addr_of request % datum_len request == 0) then None
    else location_for (addr_of request) (datum_len request)

-- whether the first and the last byte of a block lie in different units of 256 bytes;
-- IEEE 1014-1987, 2.3.7 (block transfer). With data of eight bytes the units have 2,048 bytes
abbrev pub crosses_boundary : Request → Bool
crosses_boundary request =
    is_block_request request
    && not (unit_of (datum_len request) (addr_of request) == unit_of (datum_len request) (addr_of request + span_of request - 1))

-- the refusals of a request in order: K9, K2 or K1 (code without a row), K5 (block code and block request), K7 (program
-- code), K8 (lengths and numbers), K4 (outside the space), K3 (no location), K6 (block boundary)
abbrev pub refusals : Request → List (Option CycleFault)
refusals request =
    code_refusal (read_code (code_of request))
    ∷ where_true (row_passes (λ row. not (beq (is_block row.kind) (is_block_request request))) (read_code (code_of request)))
    WrongKindOfCode
    ∷ where_true (row_passes (λ row. is_some (function_of request) && is_program row.kind) (read_code (code_of request)))
    ProgramModify
    ∷ where_true (not (is_counted request)) BadCount
    ∷ where_true
    (row_passes (λ row. nat_lt (addresses_of row.space) (addr_of request + span_of request)) (read_code (code_of request)))
    OutsideSpace
    ∷ where_true (is_none (first_location request)) NoCycle
    ∷ where_true (crosses_boundary request) CrossesBoundary
    ∷ []

-- the first refusal of a request; a request without one is lawful
unfoldable pub first_refusal : Request → Option CycleFault
first_refusal request = first_of (refusals request)

-- the transfer of a request with the row of its code, or the fault of the code
abbrev pub transfer_with : Request → Result CodeRow AmFault → Result Transfer CycleFault
transfer_with request (Ok row) = Ok (record { am = row; request = request })
transfer_with request (Err fault) = Err (Code fault)

-- a refusal if there is one, and otherwise the transfer
abbrev pub refusal_or : Option CycleFault → Result Transfer CycleFault → Result Transfer CycleFault
refusal_or (Some fault) transfer = Err fault
refusal_or None transfer = transfer

-- the transfer of a lawful request, or else its first refusal
unfoldable pub transfer_of : Request → Result Transfer CycleFault
transfer_of request = refusal_or (first_refusal request) (transfer_with request (read_code (code_of request)))

-- a transfer is the transfer of its own request, so that request is lawful
abbrev pub IsLawfulTransfer : Transfer → Type 0
IsLawfulTransfer t = transfer_of t.request ≡ Ok t
