-- The variables of a slot in an event.
use Rattle.std.specs.Prelude.{ℕ, ◌+◌, nat_le, Bool, true, false, ◌==◌, ◌&&◌, ◌||◌, if◌then◌else◌, List, [], ◌++◌, Option, Some, None, is_some}
use Rattle.vme_core.specs.declared.event.EventReply.{EventReply}
use Rattle.vme_core.specs.declared.event.EventReply.TheVariants as replies
use Rattle.vme_trace.specs.declared.observation.activity.Activity.{Activity}
use Rattle.vme_trace.specs.declared.observation.activity.Activity.TheVariants.{Requests, Releases, Transfers, Local}
use Rattle.vme_trace.specs.declared.observation.grant.Grant.{Grant}
use Rattle.vme_trace.specs.declared.observation.Observation.{Observation}
use Rattle.vme_trace.specs.declared.dump.handshake.Handshake.{Handshake}
use Rattle.vme_trace.specs.declared.dump.change.Change.{Change}
use Rattle.vme_trace.specs.declared.dump.change.Value.TheVariants.{Low, High, Released, Number, Grants}
use Rattle.vme_trace.specs.declared.dump.port.PortAccess.{PortAccess}
use Rattle.vme_trace.specs.declared.dump.edge.TheConstants.{BEGIN, FIRST, SECOND, RELEASE, END, STROBES_RISE, GRANT, BUSY_FALLS, REQUEST_RISES, GRANT_ENDS}
use Rattle.vme_trace.specs.declared.dump.variable.Variable.TheVariants.{CurrentLine, RequestLine, GrantLines, BusyLine, Selected}
use Rattle.vme_trace.specs.Variables.{code_of}
use Rattle.vme_trace.specs.Changes.{change_if}
use Rattle.vme_trace.specs.Handshakes.{first_handshake, second_handshake}
use Rattle.vme_trace.specs.Ports.{port_access, port_changes}

-- whether the slot requests the bus
abbrev pub requests : Activity → Bool
requests Requests = true
requests activity = false

-- whether the slot releases the bus
abbrev pub releases : Activity → Bool
releases (Releases signals) = true
releases activity = false

-- the edge at which the bus is released: after the cycle that no board answered, if there was one
abbrev pub release_edge : Activity → ℕ
release_edge (Releases (Some signals)) = RELEASE
release_edge activity = BEGIN

-- the edge at which a grant begins; IEEE 1014-1987, 3.3 (arbiter and requesters)
abbrev pub grant_edge : Activity → ℕ
grant_edge activity = release_edge activity + GRANT

-- whether the bus is granted to a board's slot
abbrev pub is_granted : Option Grant → ℕ → Bool
is_granted None board = false
is_granted (Some grant) board = grant.board == board

-- whether a grant passes a board's slot on the daisy chain, or ends there; boards stand in order of slots
abbrev pub passes_grant : Option Grant → ℕ → Bool
passes_grant None board = false
passes_grant (Some grant) board = nat_le board grant.board

-- BG3IN* to BG0IN* as bits: one of them is low in a grant
abbrev pub grant_lines : Option Grant → ℕ
grant_lines None = 15
grant_lines (Some grant) = if grant.level == 0 then 14 else if grant.level == 1 then 13 else if grant.level == 2 then 11 else 7

-- whether a transfer selects a board in an event
abbrev pub selects : Activity → ℕ → Bool
selects (Transfers datum) board = datum.board == board
selects activity board = false

-- whether a transfer begins in an event
abbrev pub opens : Activity → Bool
opens (Transfers datum) = datum.first
opens activity = false

-- whether AS* rises after a handshake
abbrev pub ends_with : Option Handshake → Bool
ends_with None = false
ends_with (Some t) = t.ends

-- whether AS* rises in an event
abbrev pub has_ended : Observation → Bool
has_ended o = ends_with (first_handshake o.activity o.reply) || ends_with (second_handshake o.activity o.reply)

-- the edge at which AS* rises, if it does
abbrev pub end_edge : Observation → ℕ
end_edge o = if is_some (second_handshake o.activity o.reply) then SECOND + STROBES_RISE else FIRST + STROBES_RISE

-- the number of the current line
unfoldable pub line_changes : Observation → ℕ → List Change
line_changes o board =
    change_if (o.board == board) BEGIN (code_of (CurrentLine board)) (Number 10 o.line)
    ++ change_if (o.board == board && o.ended) END (code_of (CurrentLine board)) Released

-- the bus request line that the slot drives
unfoldable pub request_changes : Observation → ℕ → List Change
request_changes o board =
    change_if (o.board == board && requests o.activity) BEGIN (code_of (RequestLine board)) Low
    ++ change_if (is_granted o.grant board) (grant_edge o.activity + REQUEST_RISES) (code_of (RequestLine board)) High

-- the slot's BG3IN* to BG0IN*, on the daisy chain
unfoldable pub chain_changes : Observation → ℕ → List Change
chain_changes o board =
    change_if (passes_grant o.grant board) (grant_edge o.activity) (code_of (GrantLines board)) (Grants (grant_lines o.grant))
    ++ change_if (passes_grant o.grant board) (grant_edge o.activity + GRANT_ENDS) (code_of (GrantLines board)) (Grants 15)

-- BBSY*, as the slot drives it
unfoldable pub busy_changes : Observation → ℕ → List Change
busy_changes o board =
    change_if (o.board == board && releases o.activity) (release_edge o.activity) (code_of (BusyLine board)) High
    ++ change_if (is_granted o.grant board) (grant_edge o.activity + BUSY_FALLS) (code_of (BusyLine board)) Low

-- whether the board of the slot has selected itself
unfoldable pub select_changes : Observation → ℕ → List Change
select_changes o board =
    change_if (selects o.activity board && opens o.activity) FIRST (code_of (Selected board)) High
    ++ change_if (selects o.activity board && has_ended o) (end_edge o) (code_of (Selected board)) Low

-- an access by the local port, if there is one
abbrev pub access_changes : ℕ → Option PortAccess → List Change
access_changes board None = []
access_changes board (Some access) = port_changes board access

-- what the local port of a board does
abbrev pub local_changes : ℕ → Activity → EventReply → List Change
local_changes board (Local cmd) (replies.Board reply) = access_changes board (port_access cmd reply)
local_changes board activity reply = []

-- the local port of the board, if its processor accesses it
unfoldable pub own_port_changes : Observation → ℕ → List Change
own_port_changes o board = if o.board == board then local_changes board o.activity o.reply else []

-- the variables of a board's slot, in order
unfoldable pub slot_changes : Observation → ℕ → List Change
slot_changes o board =
    line_changes o board
    ++ (request_changes o board
    ++ (chain_changes o board ++ (busy_changes o board ++ (select_changes o board ++ own_port_changes o board))))
