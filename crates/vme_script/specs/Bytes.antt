-- The bytes of a board that a line accesses.
use Rattle.std.specs.Prelude.{ℕ, length, Option, Some, None, Result, Ok, Err, List}
use Rattle.std.specs.Option.{option_map}
use Rattle.vme_cycle.specs.declared.fault.CycleFault.{CycleFault}
use Rattle.vme_cycle.specs.declared.request.Request.{Request}
use Rattle.vme_cycle.specs.declared.request.Request.TheVariants as requests
use Rattle.vme_cycle.specs.Requests.{addr_of, span_of}
use Rattle.vme_cycle.specs.Lawful.{Transfer, transfer_of}
use Rattle.vme_decode.specs.declared.entry.Entry.{Entry}
use Rattle.vme_decode.specs.Select.{selection_at}
use Rattle.vme_memory.specs.declared.command.BoardCmd.{BoardCmd}
use Rattle.vme_memory.specs.declared.command.BoardCmd.TheVariants.{LocalRead, LocalWrite, LocalModify, Cycle}
use Rattle.vme_grammar.specs.declared.line.Line.{Line}
use Rattle.vme_grammar.specs.declared.line.Line.TheVariants.{Bus, Local, Await, Lock, Unlock, Put, Take}
use Rattle.vme_shared.specs.Mailboxes.{set_lock, clear_lock}
use Rattle.vme_script.specs.declared.board_range.BoardRange.{BoardRange}

-- the bytes of a lawful request, whatever its reply, as a range on the board that the first byte selects; a refused
-- request has none
abbrev pub transfer_bytes : List Entry → Result Transfer CycleFault → Option BoardRange
transfer_bytes entries (Ok t) =
    option_map (λ found. record { board = found.0; offset = found.1; len = span_of t.request })
    (selection_at entries t.am (addr_of t.request))
transfer_bytes entries (Err fault) = None

-- the bytes of a request to the bus
unfoldable pub request_bytes : List Entry → Request → Option BoardRange
request_bytes entries request = transfer_bytes entries (transfer_of request)

-- the bytes of a command to the local port of a board
abbrev pub local_range : ℕ → BoardCmd → Option BoardRange
local_range board (LocalRead offset n) = Some (record { board = board; offset = offset; len = n })
local_range board (LocalWrite offset bytes) = Some (record { board = board; offset = offset; len = length bytes.items })
local_range board (LocalModify offset n f) = Some (record { board = board; offset = offset; len = n })
local_range board (Cycle signals at f) = None

-- the bytes that a line of a board's processor accesses: a wait, a lock and an unlock access those of their transfers;
-- a put and a take name a mailbox and count as no bytes
abbrev pub line_bytes : List Entry → ℕ → Line → Option BoardRange
line_bytes entries board (Bus request) = request_bytes entries request
line_bytes entries board (Local command) = local_range board command
line_bytes entries board (Await am addr bytes) = request_bytes entries (requests.Read am addr (length bytes.items))
line_bytes entries board (Lock am addr) = request_bytes entries (set_lock am addr)
line_bytes entries board (Unlock am addr) = request_bytes entries (clear_lock am addr)
line_bytes entries board (Put mailbox number) = None
line_bytes entries board (Take mailbox) = None
