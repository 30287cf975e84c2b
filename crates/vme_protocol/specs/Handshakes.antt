-- What is remembered of a handshake, from the sample before the first strobe falls on.
use Rattle.std.specs.Prelude.{ℕ, not, ◌&&◌, if◌then◌else◌, bit_or, Option, Some, None}
use Rattle.vme_protocol.specs.declared.sample.Sample.{Sample}
use Rattle.vme_protocol.specs.declared.place.Place.{Place}
use Rattle.vme_protocol.specs.declared.datum.Datum.{Datum}
use Rattle.vme_protocol.specs.declared.transfer.Transfer.{Transfer}
use Rattle.vme_protocol.specs.declared.handshake.Handshake.{Handshake}
use Rattle.vme_protocol.specs.Samples.{has_strobe, strobe_rises, answer_falls}
use Rattle.vme_protocol.specs.Lines.{moved, vague}
use Rattle.vme_protocol.specs.Transfers.{is_address_phase}
use Rattle.vme_protocol.specs.Places.{place_of, data_lanes, datum_at}

-- what is remembered before the first handshake
abbrev pub fresh : Handshake
fresh = record { since = 0; moved = 0; vague = 0; lanes = 0; reading = None }

-- the time of the first strobe's fall, if one has fallen
abbrev pub since_after : Handshake → Sample → Sample → ℕ
since_after h before after = if has_strobe before then h.since else after.time

-- the lines that have changed, from the sample before the first strobe fell
abbrev pub moved_after : Handshake → Sample → Sample → ℕ
moved_after h before after = if has_strobe before then bit_or h.moved (moved before after) else moved before after

-- the lines that have been undefined, from the sample before the first strobe fell
abbrev pub vague_after : Handshake → Sample → Sample → ℕ
vague_after h before after = if has_strobe before then bit_or h.vague (vague before after) else vague before after

-- the datum of a read that DTACK* answers at a place
abbrev pub reading_at : Transfer → Option Place → Sample → Option Datum
reading_at t None s = None
reading_at t (Some place) s = if s.write && not s.dtack && not (is_address_phase t s) then Some (datum_at t place s) else None

-- the data lines of a read that is answered
abbrev pub read_lanes : Transfer → Sample → Option Datum → ℕ
read_lanes t s None = 0
read_lanes t s (Some datum) = data_lanes t s

-- the lines and the datum of a read between its answer and the first strobe's rise
abbrev pub reading_after : Handshake → Transfer → Sample → Sample → ℕ × Option Datum
reading_after h t before after =
    if answer_falls before after
    then (read_lanes t after (reading_at t (place_of t after) after), reading_at t (place_of t after) after)
    else if strobe_rises before after then (0, None)
    else (h.lanes, h.reading)

-- what is remembered after a sample
unfoldable pub after_sample : Handshake → Transfer → Sample → Sample → Handshake
after_sample h t before after = record {
  since = since_after h before after;
  moved = moved_after h before after;
  vague = vague_after h before after;
  lanes = (reading_after h t before after).0;
  reading = (reading_after h t before after).1;
}
