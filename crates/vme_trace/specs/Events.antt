-- The changes of an event.
use Rattle.std.specs.Prelude.{ℕ, ◌+◌, Bool, true, false, List, ◌++◌, flat_map, Option, Some, None, is_some}
use Rattle.std.specs.List.{range_with_len}
use Rattle.vme_trace.specs.declared.observation.grant.Grant.{Grant}
use Rattle.vme_trace.specs.declared.observation.Observation.{Observation}
use Rattle.vme_trace.specs.declared.dump.change.Change.{Change}
use Rattle.vme_trace.specs.declared.dump.change.Value.TheVariants.{Low, High, Released, Number}
use Rattle.vme_trace.specs.declared.dump.edge.TheConstants.{BEGIN, BUSY_FALLS, REQUEST_RISES}
use Rattle.vme_trace.specs.declared.dump.variable.Variable.TheVariants.{EventNumber, EventSlot, Holder, BusBusy, BusRequest}
use Rattle.vme_trace.specs.Variables.{code_of}
use Rattle.vme_trace.specs.Changes.{change_if}
use Rattle.vme_trace.specs.Handshakes.{first_handshake, second_handshake}
use Rattle.vme_trace.specs.Bus.{some_handshake_changes}
use Rattle.vme_trace.specs.Slots.{requests, releases, release_edge, grant_edge, slot_changes}

-- the slot that the bus is granted to; 0 without a grant
abbrev pub grant_slot : Option Grant → ℕ
grant_slot None = 0
grant_slot (Some grant) = grant.slot

-- the level of a grant; 0 without a grant
abbrev pub grant_level : Option Grant → ℕ
grant_level None = 0
grant_level (Some grant) = grant.level

-- whether no other request is pending on the level of a grant
abbrev pub is_alone : Option Grant → Bool
is_alone None = false
is_alone (Some grant) = grant.alone

-- the number of the event, and whose it is
unfoldable pub name_changes : ℕ → Observation → List Change
name_changes n o =
    change_if true BEGIN (code_of EventNumber) (Number 32 n) ++ change_if true BEGIN (code_of EventSlot) (Number 5 o.slot)

-- the slot that holds the bus, and BBSY*; IEEE 1014-1987, 3.2 (arbitration bus lines)
unfoldable pub holder_changes : Observation → List Change
holder_changes o =
    change_if (releases o.activity) (release_edge o.activity) (code_of Holder) Released
    ++ (change_if (is_some o.grant) (grant_edge o.activity + BUSY_FALLS) (code_of Holder) (Number 5 (grant_slot o.grant))
    ++ (change_if (releases o.activity) (release_edge o.activity) (code_of BusBusy) High
    ++ change_if (is_some o.grant) (grant_edge o.activity + BUSY_FALLS) (code_of BusBusy) Low))

-- BR3* to BR0*: a line rises with a grant unless another request is pending on it
unfoldable pub request_line_changes : Observation → List Change
request_line_changes o =
    change_if (requests o.activity) BEGIN (code_of (BusRequest o.level)) Low
    ++ change_if (is_alone o.grant) (grant_edge o.activity + REQUEST_RISES) (code_of (BusRequest (grant_level o.grant))) High

-- the variables of the bus, in order
unfoldable pub bus_changes : ℕ → Observation → List Change
bus_changes n o =
    name_changes n o
    ++ (holder_changes o
    ++ (request_line_changes o
    ++ (some_handshake_changes (first_handshake o.activity o.reply)
    ++ some_handshake_changes (second_handshake o.activity o.reply))))

-- the changes of event n on a backplane with so many boards: the variables of the bus, and then those of each slot
unfoldable pub event_changes : ℕ → ℕ → Observation → List Change
event_changes boards n o = bus_changes n o ++ flat_map (slot_changes o) (range_with_len 0 boards)
