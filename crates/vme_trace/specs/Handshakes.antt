-- The handshakes of a cycle.
use Rattle.std.specs.Prelude.{ℕ, ◌+◌, ◌==◌, Bool, true, false, not, ◌&&◌, ◌||◌, if◌then◌else◌, List, length, Option, Some, None, is_some, is_none}
use Rattle.std.specs.List.{list_any}
use Rattle.std.specs.Option.{option_map, option_map_or}
use Rattle.vme_cycle.specs.declared.modify.Modify.{Modify}
use Rattle.vme_cycle.specs.Functions.{value, has_len}
use Rattle.vme_cycle.specs.SignalLines.{SignalLines, row_len, answered_lines}
use Rattle.vme_memory.specs.declared.reply.Reply.{Reply}
use Rattle.vme_memory.specs.declared.reply.Reply.TheVariants.{Bytes, Done, Berr}
use Rattle.vme_core.specs.declared.event.EventReply.{EventReply}
use Rattle.vme_core.specs.declared.event.EventReply.TheVariants as replies
use Rattle.vme_trace.specs.declared.observation.activity.TransferredDatum.{TransferredDatum}
use Rattle.vme_trace.specs.declared.observation.activity.Activity.{Activity}
use Rattle.vme_trace.specs.declared.observation.activity.Activity.TheVariants.{Releases, Transfers}
use Rattle.vme_trace.specs.declared.dump.edge.TheConstants.{FIRST, SECOND}
use Rattle.vme_trace.specs.declared.dump.handshake.Handshake.{Handshake}

-- an edge of a handshake, by the number of edges after its begin
abbrev pub edge_of : Handshake → ℕ → ℕ
edge_of t after = if t.late then SECOND + after else FIRST + after

-- whether some lane carries a byte
abbrev pub carries_byte : SignalLines → Bool
carries_byte s = list_any is_some s.lanes

-- whether code and strobes select as many bytes as there are
abbrev pub is_data_len : SignalLines → List ℕ → Bool
is_data_len s bytes = option_map_or (λ len. length bytes == len) (row_len s.am.wide s.strobes) false

-- the lines with the bytes that a board drives in reply; IEEE 1014-1987, 2.3.6 (basic data transfer)
abbrev pub answered : SignalLines → List ℕ → SignalLines
answered s bytes = if is_data_len s bytes then answered_lines s bytes else s

-- the lines after a reply: in a read with the bytes that the board drives
abbrev pub lines_after : SignalLines → Reply → SignalLines
lines_after s (Bytes datum) = answered s datum.items
lines_after s Done = s
lines_after s Berr = s

-- the lines of the write half of a read-modify-write that read these bytes: WRITE* is low, and the master drives the new
-- bytes; IEEE 1014-1987, 2.3.8 (read-modify-write)
abbrev pub write_half : SignalLines → Modify → List ℕ → Option SignalLines
write_half s f old =
    if is_data_len s old && has_len f (length old) then Some (record (answered_lines s (value f old)) { write = false }) else None

-- the write half of a datum, if it is a read-modify-write that read some bytes
abbrev pub half_by : SignalLines → Option Modify → Reply → Option SignalLines
half_by s (Some f) (Bytes old) = write_half s f old.items
half_by s f reply = None

-- the write half of a datum, if it has one
abbrev pub half_of : TransferredDatum → Reply → Option SignalLines
half_of d reply = half_by d.signals d.function reply

-- whether a reply is a bus error
abbrev pub is_berr : Reply → Bool
is_berr (Bytes datum) = false
is_berr Done = false
is_berr Berr = true

-- whether a transfer begins with an address phase of its own; ANSI/VITA 1-1994 (multiplexed block transfers)
abbrev pub has_address_phase : TransferredDatum → Bool
has_address_phase d = d.first && d.signals.am.wide

-- the handshake of a cycle that no board answers: BERR* ends it; IEEE 1014-1987, 2.3.3 (bus timer)
abbrev pub unanswered_handshake : SignalLines → Handshake
unanswered_handshake s = record {
  late = false;
  lines = s;
  opens = true;
  clears = false;
  falls = false;
  carries = carries_byte s && not s.am.wide;
  berr = true;
  ends = true;
}

-- the handshake that moves a datum, and ends the transfer if it is the last or answered by BERR*
abbrev pub ending_handshake : TransferredDatum → Reply → Bool → Handshake
ending_handshake d reply late = record {
  late = late;
  lines = lines_after d.signals reply;
  opens = false;
  clears = false;
  falls = false;
  carries = carries_byte (lines_after d.signals reply);
  berr = is_berr reply;
  ends = is_berr reply || d.last;
}

-- the address phase of an eight-byte block: DTACK* answers it without data
abbrev pub address_handshake : TransferredDatum → Handshake
address_handshake d = record {
  late = false;
  lines = d.signals;
  opens = true;
  clears = false;
  falls = false;
  carries = false;
  berr = false;
  ends = false;
}

-- the write half of a read-modify-write: AS* stays low before it, and WRITE* falls; IEEE 1014-1987, 2.3.8
abbrev pub half_handshake : SignalLines → Handshake
half_handshake half = record {
  late = true;
  lines = half;
  opens = false;
  clears = false;
  falls = true;
  carries = true;
  berr = false;
  ends = true;
}

-- the first handshake of a datum: an address phase; the read half of a read-modify-write, after which AS* stays low; or
-- that of the datum
abbrev pub first_of_datum : TransferredDatum → Reply → Handshake
first_of_datum d reply =
    if has_address_phase d then address_handshake d
    else record (ending_handshake d reply false) {
      opens = d.first;
      ends = is_none (half_of d reply) && (is_berr reply || d.last);
    }

-- the second handshake of a datum, if it has one: the first datum of an eight-byte block, for which the board drives the
-- address lines in a read; or the write half of a read-modify-write
abbrev pub second_of_datum : TransferredDatum → Reply → Option Handshake
second_of_datum d reply =
    if has_address_phase d then Some (record (ending_handshake d reply true) { clears = d.signals.write })
    else option_map half_handshake (half_of d reply)

-- the first handshake of an event, if it has one
abbrev pub first_handshake : Activity → EventReply → Option Handshake
first_handshake (Releases (Some s)) reply = Some (unanswered_handshake s)
first_handshake (Transfers d) (replies.Board reply) = Some (first_of_datum d reply)
first_handshake activity reply = None

-- the second handshake of an event, if it has one
abbrev pub second_handshake : Activity → EventReply → Option Handshake
second_handshake (Transfers d) (replies.Board reply) = second_of_datum d reply
second_handshake activity reply = None
