-- The lines of a cycle in a whole event, which has one handshake, two or none.
use Rattle.std.specs.Prelude.{ℕ, ◌≡◌, ◌≤◌, ◌⊎◌, Option, Some, None}
use Rattle.vme_trace.specs.declared.observation.Observation.{Observation}
use Rattle.vme_trace.specs.declared.dump.change.Code.{Code}
use Rattle.vme_trace.specs.declared.dump.change.Value.{Value}
use Rattle.vme_trace.specs.declared.dump.change.Value.TheVariants.{High}
use Rattle.vme_trace.specs.declared.dump.handshake.Handshake.{Handshake}
use Rattle.vme_trace.specs.declared.dump.edge.TheConstants.{ADDRESS_RELEASED}
use Rattle.vme_trace.specs.declared.dump.variable.Variable.{Variable}
use Rattle.vme_trace.specs.declared.dump.variable.Variable.TheVariants.{GrantLines, Selected, PortSelect, PortDone, PortError}
use Rattle.vme_trace.specs.Variables.{code_of}
use Rattle.vme_trace.specs.Handshakes.{edge_of, first_handshake, second_handshake}
use Rattle.vme_trace.specs.Events.{event_changes}
use Rattle.vme_trace_laws.specs.Shown.{address_strobe, address_strobe_before, HasStrobe}
use Rattle.vme_trace.specs.Shown.{value_at}

-- a handshake is one of an event
abbrev pub IsHandshakeOf : Observation → Handshake → Type 0
IsHandshakeOf o t =
    (first_handshake o.activity o.reply ≡ Some t) ⊎ (second_handshake o.activity o.reply ≡ Some t)

-- an edge is one of a handshake
abbrev pub IsWithin : Handshake → ℕ → Type 0
IsWithin t k = (edge_of t 0 ≤ k) × (k ≤ edge_of t ADDRESS_RELEASED)

-- each handshake of an event has a data strobe
abbrev pub HasStrobes : Observation → Type 0
HasStrobes o = (t : Handshake) → IsHandshakeOf o t → HasStrobe t

-- a line that is high before event n on a backplane with so many boards, at an edge of the event
abbrev pub event_line : ℕ → ℕ → Observation → Code → ℕ → Value
event_line boards n o line = value_at line (event_changes boards n o) High

-- AS* before an event, by its first handshake: low within a transfer
abbrev pub strobe_before : Option Handshake → Value
strobe_before None = High
strobe_before (Some t) = address_strobe_before t

-- AS* at an edge of an event
abbrev pub event_strobe : ℕ → ℕ → Observation → ℕ → Value
event_strobe boards n o =
    value_at address_strobe (event_changes boards n o) (strobe_before (first_handshake o.activity o.reply))

-- BG3IN* to BG0IN* of a board's slot
abbrev pub grant_lines_in : ℕ → Code
grant_lines_in board = code_of (GrantLines board)

-- whether the board of a slot is selected
abbrev pub selected_line : ℕ → Code
selected_line board = code_of (Selected board)

-- a variable is one that an access by the local port of a board asserts: select, done or error
abbrev pub IsPortLine : ℕ → Variable → Type 0
IsPortLine board variable = (variable ≡ PortSelect board) ⊎ ((variable ≡ PortDone board) ⊎ (variable ≡ PortError board))
