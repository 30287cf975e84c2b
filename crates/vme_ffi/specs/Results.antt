-- The version and the results of calls, as numbers.
use Rattle.std.specs.Prelude.{ℕ, ◌+◌, ◌*◌, Option, Some, None}
use Rattle.vme_cycle.specs.declared.fault.CycleFault.{CycleFault}
use Rattle.vme_decode.specs.declared.fault.MapFault.{MapFault}
use Rattle.vme_c_types.specs.Results.{ok, refusal_number, map_refusal_number}

-- the number of version 1.0.0: major, minor and patch
abbrev pub version : ℕ
version = 65536 * 1 + 256 * 0 + 0

-- the result where lines show no cycle
abbrev pub bad_lines : ℕ
bad_lines = 0x22

-- the result where a level in the state of an arbiter is out of range
abbrev pub bad_state : ℕ
bad_state = 0x24

-- the result of the check of a request: its first refusal, if any
abbrev pub request_result : Option CycleFault → ℕ
request_result None = ok
request_result (Some fault) = refusal_number fault

-- the result of the check of a map: its first refusal, if any
abbrev pub map_result : Option MapFault → ℕ
map_result None = ok
map_result (Some fault) = map_refusal_number fault
