-- What other crates need of the events of a run: what the lines show of the machine before and after each.

-- a variable that each event leaves at rest is at rest after events
pub use Rattle.vme_trace_laws.proofs.turns.Rests.{run_rests}
-- AS* at an edge of an event, by its handshakes, and after it
pub use Rattle.vme_trace_laws.proofs.turns.AddressStrobes.{opens_with, ArePaired, event_paired, strobe_at, strobe_last, none_ends}
-- an event in its run, and AS* before its handshake
pub use Rattle.vme_trace_laws.proofs.turns.RunStrobes.{at_event, strobe_before_event}
-- AS* is low only while the slot of the transfer's board drives BBSY*
pub use Rattle.vme_trace_laws.proofs.turns.BusStrobes.{low_driven}
-- BBSY* of a slot after events, and the edges at which it moves
pub use Rattle.vme_trace_laws.proofs.turns.Busy.{edge_within, release_within, run_busy}
-- the levels of an event are lawful
pub use Rattle.vme_trace_laws.proofs.turns.Numbers.{has_levels}
-- the holder of the bus and the slots that wait have boards, at the start and after each event; BBSY* of the bus after events
pub use Rattle.vme_trace_laws.proofs.turns.Holders.{HasBoard, IsSeated, opening_seated, event_held, run_bus_busy}
-- the slots of boards are lawful
pub use Rattle.vme_trace_laws.proofs.turns.ArbiterStates.{slot_ok}
-- a release is by the slot that holds the bus
pub use Rattle.vme_trace_laws.proofs.turns.Orders.{AreGranted, run_granted}
-- the board in a slot
pub use Rattle.vme_trace_laws.proofs.turns.Places.{named_slot, same_board}
-- it is a board of the configuration
pub use Rattle.vme_trace_laws.proofs.turns.Runs.{place_below}
-- a grant goes to a slot that requests the bus, while BBSY* is high
pub use Rattle.vme_trace_laws.proofs.turns.Granted.{slot_granted, request_granted, busy_granted}
-- the transfer that a line is at is that of a lawful request
pub use Rattle.vme_trace_laws.proofs.turns.Requested.{IsRequestedTask, IsRequestedView, view_requested, given_requested}
-- the task of a line
pub use Rattle.vme_trace_laws.proofs.turns.Views.{line_view}
-- the datum of a line is that of its task
pub use Rattle.vme_trace_laws.proofs.turns.LineViews.{line_datum_of}
-- what a turn of a stepper did is the next call of a line that has had some replies
pub use Rattle.vme_trace_laws.proofs.turns.Turns.{processors_get, IsGiven, lines_begin, observed_is, observed_none}
-- the events of turns are in order
pub use Rattle.vme_trace_laws.proofs.turns.Orders.{IsOrderly, run_orderly, run_data}
-- the first handshake of a datum begins its transfer if it is the first
pub use Rattle.vme_trace_laws.proofs.turns.Handshakes.{first_opens}
