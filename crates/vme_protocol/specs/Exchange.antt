-- Tests of strobes, data and answers, of a sample and what is remembered.
use Rattle.std.specs.Prelude.{◌-◌, nat_lt, Bool, not, ◌&&◌, ◌||◌}
use Rattle.std.specs.Bool.{beq}
use Rattle.vme_protocol.specs.declared.sample.Sample.{Sample}
use Rattle.vme_protocol.specs.declared.transfer.Transfer.{Transfer}
use Rattle.vme_protocol.specs.declared.watch.Watch.{Watch}
use Rattle.vme_protocol.specs.Samples.{has_strobe, has_answer, strobe_falls, strobe_rises, answer_falls, answer_rises}
use Rattle.vme_protocol.specs.Scopes.{is_strict}
use Rattle.vme_protocol.specs.Lines.{meet, moved}
use Rattle.vme_protocol.specs.Handshakes.{moved_after}
use Rattle.vme_protocol.specs.Places.{data_lanes, breaks_transfer}

-- J6: a strobe is low while AS* is high: it falls there, or no answer is low, in the model whatever the answer;
-- IEEE 1014-1987, 2.4 (data transfer bus timing)
unfoldable pub has_lone_strobe : Watch → Sample → Bool
has_lone_strobe w s =
    s.address_strobe && (strobe_falls w.last s || has_strobe s && (is_strict w.scope || not (has_answer s)))

-- whether WRITE* changes as a strobe falls, or while one is low
abbrev pub write_changes : Watch → Transfer → Sample → Bool
write_changes w t s = t.judged && has_strobe s && not (beq w.last.write s.write)

-- whether data change in a write, between the sample before the first strobe and the answer
abbrev pub written_moves : Watch → Transfer → Sample → Bool
written_moves w t s =
    has_strobe s && not (has_answer w.last) && not s.write && meet (data_lanes t s) (moved_after w.handshake w.last s)

-- whether data change in a read under the answer
abbrev pub read_moves : Watch → Sample → Bool
read_moves w s = has_strobe w.last && has_strobe s && meet w.handshake.lanes (moved w.last s)

-- J7: WRITE* or data change; IEEE 1014-1987, 2.4 (data transfer bus timing)
unfoldable pub data_change : Watch → Transfer → Sample → Bool
data_change w t s = write_changes w t s || written_moves w t s || is_strict w.scope && read_moves w s

-- J8: an answer falls while no strobe is low; IEEE 1014-1987, 2.4 (data transfer bus timing)
unfoldable pub answers_alone : Watch → Sample → Bool
answers_alone w s = answer_falls w.last s && not (has_strobe s)

-- J9: the first strobe falls while the last answer is low; IEEE 1014-1987, 2.4 (data transfer bus timing)
unfoldable pub falls_under_answer : Watch → Sample → Bool
falls_under_answer w s = strobe_falls w.last s && not (has_strobe w.last) && has_answer w.last && has_answer s

-- J10: a strobe rises before the answer, or falls under it; IEEE 1014-1987, 2.4 (data transfer bus timing)
unfoldable pub moves_unanswered : Watch → Sample → Bool
moves_unanswered w s =
    strobe_rises w.last s && not (has_answer w.last) || strobe_falls w.last s && has_strobe w.last && has_answer w.last

-- J11: both answers are low; IEEE 1014-1987, 2.4 (data transfer bus timing)
unfoldable pub has_two_answers : Sample → Bool
has_two_answers s = not s.dtack && not s.berr

-- J12: the answer rises while a strobe is low; IEEE 1014-1987, 2.4 (data transfer bus timing)
unfoldable pub answer_rises_early : Watch → Sample → Bool
answer_rises_early w s = answer_rises w.last s && has_strobe w.last && has_strobe s

-- J16: a strobe has been low for longer than the timeout without an answer; IEEE 1014-1987, 2.3.3 (bus timer)
unfoldable pub is_late : Watch → Sample → Bool
is_late w s = has_strobe w.last && not (has_answer w.last) && nat_lt w.scope.timeout (s.time - w.handshake.since)

-- J2: an answer ends a cycle whose code has no row; IEEE 1014-1987, 2.2.2 (address modifier lines)
unfoldable pub has_no_row : Watch → Transfer → Sample → Bool
has_no_row w t s = answer_falls w.last s && t.judged && not t.has_row

-- J13: an answer ends a datum that may not come in its transfer; IEEE 1014-1987, 2.2.1, 2.3.7, 2.3.8
unfoldable pub misplaces : Watch → Transfer → Sample → Bool
misplaces w t s = answer_falls w.last s && t.judged && breaks_transfer t s
