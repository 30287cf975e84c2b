-- Which logs are legal: each line is judged by the samples that it shows.
use Rattle.std.specs.Prelude.{ℕ, ◌+◌, Bool, true, false, not, ◌==◌, ◌||◌, if◌then◌else◌, List, [], ◌∷◌, ◌++◌, Option, Some, None, Result, Ok, Err}
use Rattle.std.specs.List.{position}
use Rattle.std.specs.Option.{option_map}
use Rattle.vme_protocol.specs.declared.port.Local.{Local}
use Rattle.vme_protocol.specs.declared.rule.Rule.{Rule}
use Rattle.vme_answers.specs.declared.wrong.Wrong.{Wrong}
use Rattle.vme_answers.specs.Forgetting.{forgot}
use Rattle.vme_answers.specs.Taking.{Judged, local_taken}
use Rattle.vme_answers.specs.Wrongs.{local_wrong_of}
use Rattle.vme_bus_log.specs.Faults.{Fault}
use Rattle.vme_bus_log.specs.declared.entry.LogAccess.{LogAccess}
use Rattle.vme_bus_log.specs.declared.entry.LogDatum.{LogDatum}
use Rattle.vme_bus_log.specs.declared.entry.LogEntry.{LogEntry}
use Rattle.vme_bus_log.specs.declared.entry.LogEntry.TheVariants as entries
use Rattle.vme_vcd_reader.specs.declared.fault.VcdFault.{VcdFault}
use Rattle.vme_judge.specs.declared.fault.Status.{Status}
use Rattle.vme_judge.specs.declared.fault.Status.TheVariants as statuses
use Rattle.vme_judge.specs.declared.finding.Asked.TheVariants as askeds
use Rattle.vme_judge.specs.declared.finding.Broken.TheVariants as brokens
use Rattle.vme_judge.specs.declared.finding.Finding.{Finding}
use Rattle.vme_judge.specs.declared.judge.Spot.{Spot}
use Rattle.vme_judge.specs.declared.log.LogBreak.{LogBreak}
use Rattle.vme_judge.specs.declared.log.LogBreak.TheVariants as breaks
use Rattle.vme_judge.specs.declared.transfer.OpenTransfer.{OpenTransfer}
use Rattle.vme_judge.specs.Forgetting.{offset_after}
use Rattle.vme_judge.specs.LogLines.{access_printed}
use Rattle.vme_judge.specs.Samples.{address_samples, datum_samples, fall_samples}
use Rattle.vme_judge.specs.Seen.{has_counted, one_more, without_start}
use Rattle.vme_judge.specs.Standing.{Course, Falls, Standing, Stands, course_map, course_then, remembered, resumed, samples_taken}

-- why a text is rejected: the line with a number is none of a log, does not go on from the line before, or is none of a dump, and
-- why; or for no line
pub data Cause : Type 0 where
  NoLine : ℕ → Fault → Cause
  Break : ℕ → LogBreak → Cause
  NoDump : ℕ → VcdFault → Cause
  Other : Cause

-- a log so far, with what is remembered of it: legal, with the datum before, if its transfer may go on; illegal, once a line shows
-- a sample that is not legal and the limit is reached, with what is found; or broken, once a line is none of a log or does not go
-- on from the line before
pub data LogSoFar : Type 0 where
  Legal : Standing → Option LogDatum → LogSoFar
  Illegal : Finding → Standing → LogSoFar
  Broken : Cause → Standing → LogSoFar

-- why a datum is not the next one of a transfer, if it is not
abbrev pub break_of : LogDatum → LogDatum → Option LogBreak
break_of last d =
    if not (d.index == last.index + 1) then Some breaks.Number
    else (if not (last.am == d.am) || not (last.address == d.address) then Some breaks.Address else None)

-- a log by its course and the datum before
abbrev pub log_by : Option LogDatum → Course → LogSoFar
log_by last (Stands m) = Legal m last
log_by last (Falls finding m) = Illegal finding m

-- a log by whether it is broken, and why, its course and the datum before
abbrev pub so_far : Bool → Cause → Course → Option LogDatum → LogSoFar
so_far true cause c last = Broken cause (remembered c)
so_far false cause c last = log_by last c

-- a datum after its samples; after an illegal one the judgement may go on, and the rest of the transfer is left out
abbrev pub shown_by : LogDatum → Course → LogSoFar
shown_by d (Stands m) = Legal m (Some d)
shown_by d (Falls finding m) = log_by None (resumed (Falls finding m))

-- the place of a datum: its line and its time
abbrev pub datum_spot : ℕ → LogDatum → Spot
datum_spot line d = record { line = line; time = d.time }

-- what is remembered of a trace that does not show at which time AS* fell
abbrev pub unstarted : Standing → Standing
unstarted m = record m { transfer = option_map without_start m.transfer }

-- AS* falls
abbrev pub begun_by : Spot → LogDatum → Standing → Course
begun_by spot d m = course_map unstarted (samples_taken spot (fall_samples d) m)

-- a transfer begins, with its address phase
abbrev pub addressed_by : Spot → LogDatum → Standing → Course
addressed_by spot d m = course_then (samples_taken spot (address_samples d)) (begun_by spot d m)

-- a transfer begins, with its first datum
abbrev pub first_taken : Spot → LogDatum → Standing → Course
first_taken spot d m = course_then (samples_taken spot (datum_samples d)) (addressed_by spot d m)

-- what is remembered after a datum that is left out
abbrev pub left_out : Standing → Standing
left_out m = record m { counts = record m.counts { skipped = one_more m.counts.skipped } }

-- a datum that begins no transfer: one of the transfer before, if the log has one; else it is left out, since the log may begin
-- within a transfer
abbrev pub datum_further : Spot → Standing → Option LogDatum → LogDatum → LogSoFar
datum_further spot m None d = Legal (left_out m) None
datum_further spot m (Some last) d = shown_by d (samples_taken spot (datum_samples d) m)

-- a datum at a place, after the one before it
abbrev pub datum_on : Spot → Standing → Option LogDatum → LogDatum → LogSoFar
datum_on spot m last d = if d.index == 0 then shown_by d (first_taken spot d m) else datum_further spot m last d

-- why a datum does not go on from the one before it, if it does not
abbrev pub break_after : Option LogDatum → LogDatum → Option LogBreak
break_after None d = None
break_after (Some last) d = if d.index == 0 then None else break_of last d

-- a datum of a line, by why it does not go on from the line before, if it does not
abbrev pub datum_by : ℕ → Standing → Option LogDatum → LogDatum → Option LogBreak → LogSoFar
datum_by line m last d None = datum_on (datum_spot line d) m last d
datum_by line m last d (Some why) = Broken (Break line why) m

-- a datum of a line after the line before
abbrev pub datum_taken : ℕ → Standing → Option LogDatum → LogDatum → LogSoFar
datum_taken line m last d = datum_by line m last d (break_after last d)

-- the access of a line
abbrev pub local_of : LogAccess → Local
local_of a = record { write = a.is_write; offset = a.offset; len = a.len; «data» = a.bytes }

-- the finding at a local access whose answer is not that of its board
abbrev pub access_finding : Spot → ℕ → Local → Option OpenTransfer → Wrong → Finding
access_finding spot slot a transfer wrong = record {
  line = spot.line;
  time = spot.time;
  broken = brokens.Answer wrong (askeds.Access a) (Some slot);
  samples = None;
  transfer = transfer;
  undefined = None;
}

-- what is remembered with one local access more, whose line is printed, if the bus log is
abbrev pub accessed : Spot → ℕ → Local → Standing → Standing
accessed spot slot a m = record m {
  counts = record m.counts { accesses = one_more m.counts.accesses };
  said = m.said ++ access_printed m.options.log spot slot a;
}

-- what is remembered after a wrong answer to a local access of a board, of which this was known: its bytes are forgotten
abbrev pub access_refused : ℕ → Local → Judged → Standing → Standing
access_refused board a k m = record m { answers = Some (forgot k board a.offset (offset_after a.offset a.len)) }

-- a trace after a local access of a board, by the board's answer to it
abbrev pub access_known : Spot → ℕ → Local → ℕ → Judged → Standing → Result Judged Rule → Course
access_known spot slot a board k m (Ok next) = Stands (record m { answers = Some next })
access_known spot slot a board k m (Err rule) =
    Falls (access_finding spot slot a m.transfer (local_wrong_of k board a rule)) (access_refused board a k m)

-- a trace after an access to the board with an index; with no such board, or if no answers are judged, each is legal
abbrev pub access_judged : Spot → ℕ → Local → Standing → Option ℕ → Option Judged → Course
access_judged spot slot a m None k = Stands m
access_judged spot slot a m (Some board) None = Stands m
access_judged spot slot a m (Some board) (Some k) = access_known spot slot a board k m (local_taken k board a)

-- a trace that stands, after a local access of the board in a slot
unfoldable pub access_taken : Spot → ℕ → Local → Standing → Course
access_taken spot slot a m =
    access_judged spot slot a (accessed spot slot a m) (position (λ board. board.slot == slot) m.boards) m.answers

-- the place of a local access: its line and its time
abbrev pub access_spot : ℕ → LogAccess → Spot
access_spot line a = record { line = line; time = a.time }

-- a local access of a line; after an illegal one the judgement may go on
abbrev pub access_on : ℕ → Standing → Option LogDatum → LogAccess → LogSoFar
access_on line m last a = log_by last (resumed (access_taken (access_spot line a) a.slot (local_of a) m))

-- a line of a log after the lines before, which may be none of a log
abbrev pub line_taken : ℕ → Standing → Option LogDatum → Result LogEntry Fault → LogSoFar
line_taken line m last (Err fault) = Broken (NoLine line fault) m
line_taken line m last (Ok entries.Nothing) = Legal m last
line_taken line m last (Ok (entries.Datum d)) = datum_taken line m last d
line_taken line m last (Ok (entries.Access a)) = access_on line m last a

-- a log after the line with a number; after the last finding or a line that is rejected nothing is judged
abbrev pub next_taken : LogSoFar → ℕ → Result LogEntry Fault → LogSoFar
next_taken (Legal m last) line says = line_taken line m last says
next_taken (Illegal finding m) line says = Illegal finding m
next_taken (Broken cause m) line says = Broken cause m

-- a log after lines of which the first has a number
abbrev pub log_taken : LogSoFar → ℕ → List (Result LogEntry Fault) → LogSoFar
log_taken log line [] = log
log_taken log line (says ∷ lines) = log_taken (next_taken log line says) (one_more line) lines

-- the verdict on a trace that stands: it is rejected if there is neither a datum nor a local access that is judged
abbrev pub standing_status : Standing → Status
standing_status m =
    if not (m.found == 0) then statuses.Illegal
    else (if has_counted m.counts then statuses.Legal else statuses.Rejected)

-- the verdict on a log
abbrev pub status_of : LogSoFar → Status
status_of (Legal m last) = standing_status m
status_of (Illegal finding m) = statuses.Illegal
status_of (Broken cause m) = statuses.Rejected

-- what is said before the verdict on a log
abbrev pub log_says_before : LogSoFar → List ℕ
log_says_before (Legal m last) = m.said
log_says_before (Illegal finding m) = m.said
log_says_before (Broken cause m) = m.said
