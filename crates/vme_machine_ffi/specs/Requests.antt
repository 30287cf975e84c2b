-- The requests of a master, as C has them.
use Rattle.std.specs.Prelude.{ℕ, ◌≡◌, ◌⊎◌, ◌==◌, if◌then◌else◌, List, Result, Ok, Err}
use Rattle.vme_cycle.specs.declared.request.Request.{Request}
use Rattle.vme_cycle.specs.declared.request.Request.TheVariants as requests
use Rattle.vme_c_types.specs.declared.modify.VmeModify.{VmeModify}
use Rattle.vme_c_types.specs.declared.request.VmeRequest.{VmeRequest}
use Rattle.vme_c_types.specs.Data.{modify_of}
use Rattle.vme_c_types.specs.Results.{no_memory}

-- the request of a read
abbrev pub read_request : VmeRequest → Request
read_request r = if r.kind == 2 then requests.BlockRead r.am r.addr r.n r.count else requests.Read r.am r.addr r.n

-- the request of a write of some bytes
abbrev pub write_request : VmeRequest → List ℕ → Request
write_request r bytes =
    if r.kind == 3 then requests.BlockWrite r.am r.addr r.n (record { items = bytes })
    else requests.Write r.am r.addr (record { items = bytes })

-- the request of a write, or K8 or a failed allocation
abbrev pub AsksWrite : VmeRequest → List ℕ → Result Request ℕ → Type 0
AsksWrite r bytes (Ok request) = request ≡ write_request r bytes
AsksWrite r bytes (Err number) = (number ≡ 8) ⊎ (number ≡ no_memory)

-- the request of a read-modify-write
abbrev pub modify_request : VmeRequest → VmeModify → Request
modify_request r f = requests.Modify r.am r.addr r.n (modify_of f)
