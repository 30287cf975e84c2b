-- The numbers of results, of both libraries for C.
use Rattle.std.specs.Prelude.{ℕ}
use Rattle.vme_am.specs.declared.code.AmFault.{AmFault}
use Rattle.vme_am.specs.declared.code.AmFault.TheVariants.{TooLarge, UserDefined, Reserved}
use Rattle.vme_cycle.specs.declared.fault.CycleFault.{CycleFault}
use Rattle.vme_cycle.specs.declared.fault.CycleFault.TheVariants.{Code, WrongKindOfCode, ProgramModify, BadCount, OutsideSpace, NoCycle, CrossesBoundary}
use Rattle.vme_decode.specs.declared.fault.MapFault.{MapFault}
use Rattle.vme_decode.specs.declared.fault.MapFault.TheVariants.{TooMany, Misaligned, OutsideSpace as PastSpace, Overlap, OutOfMemory}

-- the call succeeded; of a slave, DTACK*
abbrev pub ok : ℕ
ok = 0

-- a bus error
abbrev pub bus_error : ℕ
bus_error = 0x20

-- no board responds
abbrev pub no_board : ℕ
no_board = 0x21

-- an argument does not match the others, the lines or the machine
abbrev pub bad_call : ℕ
bad_call = 0x23

-- an allocation failed
abbrev pub no_memory : ℕ
no_memory = 0x25

-- the number of a refusal K1 to K9 of a code
abbrev pub code_refusal_number : AmFault → ℕ
code_refusal_number Reserved = 1
code_refusal_number UserDefined = 2
code_refusal_number TooLarge = 9

-- the number of a refusal K1 to K9 of a request
abbrev pub refusal_number : CycleFault → ℕ
refusal_number (Code fault) = code_refusal_number fault
refusal_number NoCycle = 3
refusal_number OutsideSpace = 4
refusal_number WrongKindOfCode = 5
refusal_number CrossesBoundary = 6
refusal_number ProgramModify = 7
refusal_number BadCount = 8

-- the number of a refusal C1 to C4 of a map, or of a failed allocation
abbrev pub map_refusal_number : MapFault → ℕ
map_refusal_number Overlap = 0x11
map_refusal_number PastSpace = 0x12
map_refusal_number Misaligned = 0x13
map_refusal_number TooMany = 0x14
map_refusal_number OutOfMemory = no_memory
