-- Tests of AS*, the address and the lines that have to be defined, of a sample and what is remembered.
use Rattle.std.specs.Prelude.{ℕ, Bool, not, ◌==◌, ◌&&◌, ◌||◌, if◌then◌else◌, bit_xor}
use Rattle.vme_protocol.specs.declared.sample.Sample.{Sample}
use Rattle.vme_protocol.specs.declared.transfer.Transfer.{Transfer}
use Rattle.vme_protocol.specs.declared.watch.Watch.{Watch}
use Rattle.vme_protocol.specs.Samples.{has_strobe, has_answer, address_strobe_falls, address_strobe_rises, strobe_falls, strobe_rises, answer_falls}
use Rattle.vme_protocol.specs.Scopes.{is_strict}
use Rattle.vme_protocol.specs.Lines.{meet}
use Rattle.vme_protocol.specs.Handshakes.{vague_after}
use Rattle.vme_protocol.specs.Places.{data_lanes}

-- whether AM, address or LWORD* is undefined as AS* falls, or WRITE* as a strobe falls; IEEE 1014-1987, 2.2
abbrev pub name_undefined : Watch → Transfer → Sample → Bool
name_undefined w t s =
    t.judged
    && (address_strobe_falls w.last s && (s.am_undefined || meet s.lines_undefined t.counted)
    || strobe_falls w.last s && s.write_undefined)

-- whether a lane of the location is undefined in a write up to the answer, or in a read before a strobe rises;
-- IEEE 1014-1987, 2.2.3 (data lines)
abbrev pub data_undefined : Watch → Transfer → Sample → Bool
data_undefined w t s =
    answer_falls w.last s && not s.write && meet (data_lanes t s) (vague_after w.handshake w.last s)
    || strobe_rises w.last s && meet w.handshake.lanes w.last.lines_undefined

-- J1: a line is undefined that has to be defined
unfoldable pub is_undefined : Watch → Transfer → Sample → Bool
is_undefined w t s = s.undefined || name_undefined w t s || data_undefined w t s

-- whether the last sample is within a handshake: between a strobe and its answer, in the model to its end
abbrev pub is_within : Watch → Bool
is_within w =
    if is_strict w.scope then has_strobe w.last || has_answer w.last else has_strobe w.last && not (has_answer w.last)

-- J3: AS* falls while BBSY* is high, or within a handshake; IEEE 1014-1987, 3.2, 2.4 (data transfer bus timing)
unfoldable pub falls_early : Watch → Sample → Bool
falls_early w s = address_strobe_falls w.last s && (w.scope.busy && s.busy || is_within w)

-- J4: AS* rises between a strobe and its answer, and not with it; in the model before the strobes, or with no answer;
-- IEEE 1014-1987, 2.4 (data transfer bus timing)
unfoldable pub rises_early : Watch → Transfer → Sample → Bool
rises_early w t s =
    address_strobe_rises w.last s
    && (has_strobe w.last && not (has_answer w.last) && not (has_answer s)
    || is_strict w.scope && (has_strobe s || not t.answered))

-- whether AM, and the address lines that count, have these levels in a sample
abbrev pub stands : ℕ → ℕ → ℕ → Sample → Bool
stands am lines counted s =
    s.am == am && not s.am_undefined && not (meet (bit_xor s.lines lines) counted) && not (meet s.lines_undefined counted)

-- whether the address has to stand under AS*: up to the first answer; up to the second one in a read-modify-write; in the
-- model as long as AS* is low, but for eight-byte data
abbrev pub must_stand : Watch → Transfer → Sample → Bool
must_stand w t s =
    not t.answered
    || (if is_strict w.scope then not t.wide else not t.block && has_strobe s && not (has_answer w.last))

-- whether the address is other than in the sample before AS* fell, or than it was as AS* fell
abbrev pub address_moves : Watch → Transfer → Sample → Bool
address_moves w t s =
    if w.last.address_strobe then not (stands s.am s.lines t.counted w.last)
    else must_stand w t s && not (stands t.am t.lines t.counted s)

-- J5: the address changes as AS* falls, or under AS*; IEEE 1014-1987, 2.4 (data transfer bus timing)
unfoldable pub address_changes : Watch → Transfer → Sample → Bool
address_changes w t s = not s.address_strobe && t.judged && address_moves w t s
