-- What other crates need of the waves of an event: the value of each line at each edge.

-- the value of a variable that takes one value at an edge and another at a later one
pub use Rattle.vme_trace_laws.proofs.waves.Pulses.{pulse}
-- the same at any edge, before both and after both
pub use Rattle.vme_trace_laws.proofs.waves.Values.{pulse_at, at_pulse, pulse_late, pulse_early}
-- DS1*, DS0*, DTACK* and BERR* in a handshake
pub use Rattle.vme_trace_laws.proofs.waves.Groups.{first_strobe_after, second_strobe_after, done_after, error_after}
-- the edges of a handshake have the order of their numbers
pub use Rattle.vme_trace_laws.proofs.waves.Strobes.{edge_order}
-- an event has no handshake, one, or two that follow each other
pub use Rattle.vme_trace_laws.proofs.waves.Shapes.{HasNone, HasOne, HasTwo, shape}
-- a line takes a value within a handshake and then another, if it moves at all
pub use Rattle.vme_trace_laws.proofs.waves.EventLines.{IsPulsed}
-- a line that is high before an event, in each handshake of it
pub use Rattle.vme_trace_laws.proofs.waves.Rules.{IsControl, none_stays, one_is, early_is, late_is}
-- an event ends with strobes and answers high
pub use Rattle.vme_trace_laws.proofs.waves.EventEnds.{ends_high}
-- BBSY* of a slot at an edge of an event
pub use Rattle.vme_trace_laws.proofs.waves.Slots.{busy_at}
-- the grant lines of a slot at an edge of an event, and after it
pub use Rattle.vme_trace_laws.proofs.waves.SlotEnds.{chain_at, chain_rests}
-- the slots whose grant lines a grant shows, and the slot that takes it
pub use Rattle.vme_trace_laws.proofs.waves.Grants.{grant_low, chain_low, busy_taken}
-- BBSY* of the bus at an edge of an event
pub use Rattle.vme_trace_laws.proofs.waves.Arbitration.{bus_busy_at}
-- the lines of a cycle are moved by the handshakes of an event alone
pub use Rattle.vme_trace_laws.proofs.waves.EventLines.{IsCycleLine, one_parts, two_parts}
-- AM5 to AM0, A31 to A01, LWORD* and WRITE* in a handshake
pub use Rattle.vme_trace_laws.proofs.waves.Addresses.{modifier_after, address_after, long_word_after, write_after}
-- a change of this variable, of another one, and changes that leave it alone
pub use Rattle.vme_trace_laws.proofs.waves.Afters.{other, last_other, own, last_own, silent, after_append}
-- the groups of changes of a handshake, and the lines that each leaves alone
pub use Rattle.vme_trace_laws.proofs.waves.Groups.{level_line, address_strobe_quiet, address_quiet, address_level_quiet, level_quiet, data_strobe_quiet, data_quiet, answer_quiet}
