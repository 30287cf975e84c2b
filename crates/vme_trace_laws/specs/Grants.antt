-- A grant of the bus as it goes down the daisy chain.
use Rattle.std.specs.Prelude.{ℕ, ◌+◌, ◌-◌, ◌^◌, ◌≤◌, ◌<◌}
use Rattle.vme_trace.specs.declared.observation.Observation.{Observation}
use Rattle.vme_trace.specs.declared.dump.change.Code.{Code}
use Rattle.vme_trace.specs.declared.dump.change.Value.{Value}
use Rattle.vme_trace.specs.declared.dump.change.Value.TheVariants.{Grants}
use Rattle.vme_trace.specs.declared.dump.edge.TheConstants.{GRANT_ENDS}
use Rattle.vme_trace.specs.declared.dump.variable.Variable.TheVariants.{RequestLine}
use Rattle.vme_trace.specs.Variables.{code_of}
use Rattle.vme_trace.specs.Slots.{grant_edge}

-- BRn* of its level, as the slot of a board drives it
abbrev pub request_line : ℕ → Code
request_line board = code_of (RequestLine board)

-- an edge is one at which a grant of the event is shown
abbrev pub IsGrantEdge : Observation → ℕ → Type 0
IsGrantEdge o k = (grant_edge o.activity ≤ k) × (k < grant_edge o.activity + GRANT_ENDS)

-- BG3IN* to BG0IN* as bits, of which that of a level is low
abbrev pub low_on : ℕ → Value
low_on level = Grants (15 - 2 ^ level)
