-- The requests of a master, as C has them.
use Rattle.std.specs.Prelude.{ℕ, Bool, ◌==◌, ◌&&◌, if◌then◌else◌, List, length, is_some, Option, Some, None}
use Rattle.vme_cycle.specs.declared.modify.Modify as functions
use Rattle.vme_cycle.specs.declared.request.Request.{Request}
use Rattle.vme_cycle.specs.declared.request.Request.TheVariants as requests
use Rattle.vme_cycle.specs.Requests as parts
use Rattle.vme_c_types.specs.declared.modify.VmeModify.{VmeModify}
use Rattle.vme_c_types.specs.declared.request.VmeRequest.{VmeRequest}
use Rattle.vme_c_types.specs.Data.{modify_of}

-- the function of a cycle, if it is a read-modify-write
abbrev pub function_of : VmeModify → Option functions.Modify
function_of f = if f.function == 0 then None else Some (modify_of f)

-- a request, with the bytes of one datum that it writes; a block write is given datum by datum, as the fill with it
abbrev pub request_of : VmeRequest → List ℕ → Request
request_of r bytes =
    if r.kind == 0 then requests.Read r.am r.addr r.n else
    (if r.kind == 1 then requests.Write r.am r.addr (record { items = bytes }) else
    (if r.kind == 2 then requests.BlockRead r.am r.addr r.n r.count else
    (if r.kind == 3 then requests.BlockFill r.am r.addr r.n r.count (record { items = bytes }) else
    requests.Modify r.am r.addr r.n (modify_of r.f))))

-- whether a request is a read-modify-write of as many bytes as there are
abbrev pub is_modified : Request → List ℕ → Bool
is_modified request bytes = is_some (parts.function_of request) && length bytes == parts.datum_len request
