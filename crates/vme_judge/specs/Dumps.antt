-- Which dumps are legal: each sample is judged after those before it, and with it what the boards' local ports have done.
use Rattle.std.specs.Prelude.{ℕ, ◌+◌, ◌/◌, ◌^◌, ◌%◌, bit_and, Bool, true, false, not, ◌==◌, ◌&&◌, ◌||◌, if◌then◌else◌, List, [], ◌∷◌, Option, Some, None, is_some, is_none, Result, Ok, Err}
use Rattle.std.specs.Option.{option_map}
use Rattle.vme_protocol.specs.declared.port.Local.{Local}
use Rattle.vme_protocol.specs.declared.port.Port.{Port}
use Rattle.vme_protocol.specs.declared.rule.Rule.{Rule}
use Rattle.vme_protocol.specs.declared.scope.Scope.{Scope}
use Rattle.vme_protocol.specs.Ports.{local_between}
use Rattle.vme_vcd_reader.specs.declared.bus.BusLines.{BusLines}
use Rattle.vme_vcd_reader.specs.declared.control.ControlLine.{ControlLine}
use Rattle.vme_vcd_reader.specs.declared.presence.Presence.{Presence}
use Rattle.vme_vcd_reader.specs.Bodies.{Shown}
use Rattle.vme_vcd_reader.specs.Buses.{port_of, sample_of, with_slot}
use Rattle.vme_vcd_reader.specs.ControlLines.{undefined_line}
use Rattle.vme_vcd_reader.specs.Samples.{Samples, Sample, End, Broken as BrokenBody}
use Rattle.vme_judge.specs.declared.boards.Board.{Board}
use Rattle.vme_judge.specs.declared.fault.Status.{Status}
use Rattle.vme_judge.specs.declared.fault.Status.TheVariants as statuses
use Rattle.vme_judge.specs.declared.finding.Broken.TheVariants as brokens
use Rattle.vme_judge.specs.declared.finding.Finding.{Finding}
use Rattle.vme_judge.specs.declared.judge.Spot.{Spot}
use Rattle.vme_judge.specs.declared.transfer.OpenTransfer.{OpenTransfer}
use Rattle.vme_judge.specs.Forgetting.{without_slot}
use Rattle.vme_judge.specs.Logs.{Cause, NoDump, access_taken, standing_status}
use Rattle.vme_judge.specs.Seen.{one_more}
use Rattle.vme_judge.specs.Standing.{Course, Falls, Standing, Stands, course_then, remembered, resumed, sample_taken}

-- slots, and those of boards
abbrev pub with_boards : ℕ → List Board → ℕ
with_boards slots [] = slots
with_boards slots (b ∷ boards) = with_boards (with_slot slots b.slot true) boards

-- the slots of boards, a bit for each: the lowest for slot 1
abbrev pub slots_of : List Board → ℕ
slots_of boards = with_boards 0 boards

-- whether a dump has a line of each of some slots
abbrev pub has_each : ℕ → ℕ → Bool
has_each lines slots = bit_and lines slots == slots

-- which rules are judged of a dump by the lines that it has: those of BBSY* by what each board drives or by the line of the
-- bus, and those of grants if each board's requests and grants are there too
abbrev pub dump_scope : Presence → ℕ → Scope → Scope
dump_scope p slots scope = record scope {
  drivers = has_each p.drivers slots;
  busy = p.busy || has_each p.drivers slots;
  busy_line = p.busy;
  grants = has_each p.drivers slots && has_each p.requests slots && has_each p.grants slots;
}

-- what is remembered once it is known which lines a dump has
abbrev pub with_presence : Presence → Standing → Standing
with_presence p m = record m { scope = dump_scope p (slots_of m.boards) m.scope; presence = p }

-- whether the slot at a place is among slots: slot 1 is at place 0
abbrev pub is_among : ℕ → ℕ → Bool
is_among slots place = not (bit_and (slots / 2 ^ (place % 32)) 1 == 0)

-- the finding at a local port that breaks a rule
abbrev pub port_finding : Spot → ℕ → Option OpenTransfer → Rule → Finding
port_finding spot slot transfer rule = record {
  line = spot.line;
  time = spot.time;
  broken = brokens.Port rule slot;
  samples = None;
  transfer = transfer;
  undefined = None;
}

-- what is remembered once the bytes of the boards in a slot are forgotten
abbrev pub slot_forgotten : ℕ → Standing → Standing
slot_forgotten slot m = record m { answers = option_map (without_slot slot 0 m.boards) m.answers }

-- a trace that stands, after a rule that the local port of a slot breaks: any byte of its board may have changed
unfoldable pub breach_taken : Spot → ℕ → Rule → Standing → Course
breach_taken spot slot rule m = Falls (port_finding spot slot m.transfer rule) (slot_forgotten slot m)

-- a trace that stands, after what the local port of a slot has done: nothing, an access, or what breaks a rule; after a finding
-- the judgement may go on
abbrev pub done_taken : Spot → ℕ → Result (Option Local) Rule → Standing → Course
done_taken spot slot (Err rule) m = resumed (breach_taken spot slot rule m)
done_taken spot slot (Ok None) m = Stands m
done_taken spot slot (Ok (Some access)) m = resumed (access_taken spot slot access m)

-- whether a sample at rest was seen
abbrev pub is_begun : Standing → Bool
is_begun m = is_some m.watch || not (m.found == 0)

-- the same by what the port showed before, if it has shown anything; before the first sample at rest nothing is judged
abbrev pub port_taken : Spot → ℕ → Option Port → Port → Standing → Course
port_taken spot slot None now m = Stands m
port_taken spot slot (Some last) now m = if is_begun m then done_taken spot slot (local_between last now) m else Stands m

-- what the local port at a place shows
abbrev pub port_at : BusLines → ℕ → Port
port_at lines place = (port_of lines (place + 1)).port

-- a trace that stands, after what the local ports from a place on have done, of which those of some slots have changed; each
-- by what it showed before
abbrev pub ports_taken : Spot → BusLines → ℕ → ℕ → List (Option Port) → Standing → Course
ports_taken spot lines changed place [] m = Stands m
ports_taken spot lines changed place (last ∷ ports) m =
    course_then (ports_taken spot lines changed (place + 1) ports)
    (if is_among changed place then port_taken spot (place + 1) last (port_at lines place) m else Stands m)

-- what the local ports from a place on have shown then
abbrev pub ports_after : BusLines → ℕ → ℕ → List (Option Port) → List (Option Port)
ports_after lines changed place [] = []
ports_after lines changed place (last ∷ ports) =
    (if is_among changed place then Some (port_at lines place) else last) ∷ ports_after lines changed (place + 1) ports

-- a dump so far, with what is remembered of it: legal, with what each local port has shown; illegal, once a sample or a port is
-- and the limit is reached, with what is found; or broken, once its text is none of a dump
pub data DumpSoFar : Type 0 where
  Legal : Standing → List (Option Port) → DumpSoFar
  Illegal : Finding → Standing → DumpSoFar
  Broken : Cause → Standing → DumpSoFar

-- a dump by its course, and what each local port has shown
abbrev pub dump_by : Course → List (Option Port) → DumpSoFar
dump_by (Falls finding m) ports = Illegal finding m
dump_by (Stands m) ports = Legal m ports

-- the place of a sample: its time, and the line of the dump that says it
abbrev pub spot_of : Shown → Spot
spot_of s = record { line = s.line; time = Some s.time }

-- a control line that is undefined at a sample, if the sample is one with such a line
abbrev pub undefined_at : BusLines → Bool → Option ControlLine
undefined_at lines undefined = if undefined then undefined_line lines else None

-- what is remembered after a sample that is passed over
abbrev pub passed : Standing → Standing
passed m = record m { counts = record m.counts { samples = one_more m.counts.samples } }

-- whether a sample is passed over: no variable has changed, no time is limited, and the samples are judged already
abbrev pub is_passed : Shown → Standing → Bool
is_passed s m = not s.changed && is_none m.options.timeout && is_some m.watch

-- a trace that stands, after a sample and what the local ports have done at it; after a finding the judgement may go on
abbrev pub shown_taken : Shown → List (Option Port) → Standing → Course
shown_taken s ports m =
    course_then (ports_taken (spot_of s) s.lines s.ports 0 ports)
    (resumed (sample_taken (spot_of s) (undefined_at s.lines (sample_of s.lines s.time).undefined) (sample_of s.lines s.time) m))

-- a legal dump after a sample
abbrev pub legal_next : Shown → Standing → List (Option Port) → DumpSoFar
legal_next s m ports =
    if is_passed s m then Legal (passed m) ports
    else dump_by (shown_taken s ports m) (ports_after s.lines s.ports 0 ports)

-- a dump after a sample; after the last finding or what is rejected nothing is judged
abbrev pub next_shown : Shown → DumpSoFar → DumpSoFar
next_shown s (Legal m ports) = legal_next s m ports
next_shown s (Illegal finding m) = Illegal finding m
next_shown s (Broken cause m) = Broken cause m

-- a dump whose text is none of a dump from here on, for a cause
abbrev pub broken_off : Cause → DumpSoFar → DumpSoFar
broken_off cause (Legal m ports) = Broken cause m
broken_off cause (Illegal finding m) = Illegal finding m
broken_off cause (Broken before m) = Broken before m

-- a dump after samples
abbrev pub dump_taken : DumpSoFar → Samples → DumpSoFar
dump_taken d End = d
dump_taken d (BrokenBody flaw) = broken_off (NoDump flaw.line flaw.fault) d
dump_taken d (Sample s samples) = dump_taken (next_shown s d) samples

-- the verdict on a dump
abbrev pub dump_status : DumpSoFar → Status
dump_status (Legal m ports) = standing_status m
dump_status (Illegal finding m) = statuses.Illegal
dump_status (Broken cause m) = statuses.Rejected

-- what is said before the verdict on a dump
abbrev pub dump_says_before : DumpSoFar → List ℕ
dump_says_before (Legal m ports) = m.said
dump_says_before (Illegal finding m) = m.said
dump_says_before (Broken cause m) = m.said
