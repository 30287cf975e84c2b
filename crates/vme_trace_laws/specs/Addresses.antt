-- The lines that show the address of a transfer.
use Rattle.std.specs.Prelude.{◌≡◌, ◌+◌, ◌⊎◌, ℕ, false, if◌then◌else◌, is_some}
use Rattle.vme_trace.specs.declared.observation.Observation.{Observation}
use Rattle.vme_trace.specs.declared.dump.change.Code.{Code}
use Rattle.vme_trace.specs.declared.dump.change.Value.{Value}
use Rattle.vme_trace.specs.declared.dump.change.Value.TheVariants.{Number}
use Rattle.vme_trace.specs.declared.dump.edge.TheConstants.{FIRST, SECOND, ADDRESS_RELEASED}
use Rattle.vme_trace.specs.declared.dump.handshake.Handshake.{Handshake}
use Rattle.vme_trace.specs.Changes.{level_of}
use Rattle.vme_trace.specs.Handshakes.{second_handshake}
use Rattle.vme_trace.specs.Bus.{address_number, is_wide}
use Rattle.vme_trace.specs.Slots.{has_ended}
use Rattle.vme_trace_laws.specs.Shown.{address_modifier, address_lines, long_word}
use Rattle.vme_trace_laws.specs.Events.{IsHandshakeOf}

-- a line shows a value with the address of a handshake: AM5 to AM0 the code, A31 to A01 the address, or LWORD* its level
abbrev pub IsAddressLine : Code → Handshake → Value → Type 0
IsAddressLine line t value =
    ((line ≡ address_modifier) × (value ≡ Number 6 t.lines.am.code))
    ⊎ (((line ≡ address_lines) × (value ≡ Number 32 (address_number t.lines)))
    ⊎ ((line ≡ long_word) × (value ≡ level_of t.lines.strobes.lword)))

-- a handshake carries no data on the address lines
abbrev pub CarriesNoData : Handshake → Type 0
CarriesNoData t = (is_wide t ≡ false) × (t.clears ≡ false)

-- WRITE* does not fall within a handshake
abbrev pub KeepsWrite : Handshake → Type 0
KeepsWrite t = t.falls ≡ false

-- each handshake of an event has a property
abbrev pub EachHandshake : (Handshake → Type 0) → Observation → Type 0
EachHandshake P o = (t : Handshake) → IsHandshakeOf o t → P t

-- each handshake of an event has a property, and none ends a transfer
abbrev pub IsAmid : (Handshake → Type 0) → Observation → Type 0
IsAmid P o = EachHandshake P o × (has_ended o ≡ false)

-- the edge at which the address is released, if a transfer ends with the event
abbrev pub release_edge_of : Observation → ℕ
release_edge_of o =
    if is_some (second_handshake o.activity o.reply) then SECOND + ADDRESS_RELEASED else FIRST + ADDRESS_RELEASED
