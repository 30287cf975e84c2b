-- The refusals that `vme cycles` gives for request lines.
use Rattle.std.specs.Prelude.{◌≡◌, ℕ, nat_lt, Bool, true, false, not, ◌&&◌, List, is_some, option_map, Option, Some, None, Result, Ok, Err}
use Rattle.std.specs.List.{count_by}
use Rattle.vme_am.specs.declared.code.Space.{Space}
use Rattle.vme_am.specs.declared.code.Space.TheVariants.{A32}
use Rattle.vme_cycle.specs.declared.request.Request.{Request}
use Rattle.vme_cycle.specs.declared.fault.CycleFault.{CycleFault}
use Rattle.vme_cycle.specs.Lawful.{Transfer, first_refusal, transfer_of}
use Rattle.vme_cycle.specs.Requests.{addr_of}
use Rattle.vme_grammar.specs.declared.fault.LineFault.{LineFault}
use Rattle.vme_engines.specs.Lines.{request_of}
use Rattle.vme_faults.specs.declared.cause.Cause.{Cause}
use Rattle.vme_faults.specs.declared.cause.Cause.TheVariants as causes
use Rattle.vme_positions.specs.declared.place.Place.{Place}
use Rattle.vme_positions.specs.declared.place.Place.TheVariants.{Word}
use Rattle.vme_check.specs.declared.report.form.Counts.{Counts}
use Rattle.vme_check.specs.declared.findings.request_line.RequestRefusal.{RequestRefusal}
use Rattle.vme_check.specs.declared.findings.request_line.RequestRefusal.TheVariants.{Line, Cycle}
use Rattle.vme_faults.specs.Causes.{line_fault, cycle_fault}

-- the refusal of a request line by its cause; a warning, and a fault of a file, have none
abbrev pub refusal_by : Cause → Option RequestRefusal
refusal_by (causes.RequestLine cause) = option_map Line (line_fault cause)
refusal_by (causes.RequestCycle cause) = Some (Cycle (cycle_fault cause))
refusal_by _ = None

-- the refusal of a line by what was read of it: that of the line, or the first one of its request
abbrev pub request_refusal : Result (Option Request) LineFault → Option RequestRefusal
request_refusal (Ok None) = None
request_refusal (Ok (Some request)) = option_map Cycle (first_refusal request)
request_refusal (Err fault) = Some (Line fault)

-- a place is at a word of the line with this number, of board 0
abbrev pub IsOnLine : ℕ → Place → Type 0
IsOnLine number (Word board line from to) = (board ≡ 0) × (line ≡ number)
IsOnLine number place = ⊥

-- whether a space is the extended one
abbrev pub is_extended : Space → Bool
is_extended A32 = true
is_extended _ = false

-- how many lines are refused
abbrev pub errors_in : List (List ℕ) → ℕ
errors_in = count_by (λ line. is_some (request_refusal (request_of line)))

-- whether the code or the address of a lawful request does not select the board: 4,096 bytes of the extended space from 0 on
abbrev pub misses_board : Result Transfer CycleFault → Bool
misses_board (Ok t) = not (is_extended t.am.space && nat_lt (addr_of t.request) 4096)
misses_board (Err fault) = false

-- whether a line is a lawful request that does not select the board
abbrev pub is_warned : Result (Option Request) LineFault → Bool
is_warned (Ok (Some request)) = misses_board (transfer_of request)
is_warned _ = false

-- how many lines are lawful requests that do not select the board
abbrev pub warnings_in : List (List ℕ) → ℕ
warnings_in = count_by (λ line. is_warned (request_of line))

-- the counts of the findings of lines: an error for each refused line, a warning for each lawful one that does not select
-- the board
abbrev pub AreCountsOf : List (List ℕ) → Counts → Type 0
AreCountsOf lines counts = (counts.errors ≡ errors_in lines) × (counts.warnings ≡ warnings_in lines)
