-- The samples of a trace: the levels that its variables show at each edge of each event.
use Rattle.std.specs.Prelude.{ℕ, zero, suc, ◌+◌, ◌-◌, ◌*◌, ◌%◌, ◌^◌, ◌==◌, Bool, true, false, not, if◌then◌else◌, List, [], ◌∷◌, ◌++◌, length, map, Option, Some, None, bit_or}
use Rattle.std.specs.List.{range_with_len}
use Rattle.vme_script.specs.Configurations.{Configuration}
use Rattle.vme_line_task.specs.Scripts.{slot_at}
use Rattle.vme_protocol.specs.declared.sample.Sample.{Sample}
use Rattle.vme_trace.specs.declared.observation.Observation.{Observation}
use Rattle.vme_trace.specs.declared.dump.change.Value.{Value}
use Rattle.vme_trace.specs.declared.dump.change.Value.TheVariants.{Low, High, Free, Released, Number, Lanes, Grants}
use Rattle.vme_trace.specs.declared.dump.edge.TheConstants.{EDGES}
use Rattle.vme_trace.specs.declared.dump.variable.Variable.{Variable}
use Rattle.vme_trace.specs.declared.dump.variable.Variable.TheVariants.{EventNumber, EventSlot, Holder, BusBusy, AddressStrobe, AddressModifier, AddressLines, LongWord, WriteLine, FirstStrobe, SecondStrobe, DataLines, UpperDataLines, Acknowledge, BusError, CurrentLine, RequestLine, GrantLines, BusyLine, Selected, PortSelect, PortWrite, PortOffset, PortData, PortDone, PortError}
use Rattle.vme_trace.specs.Bus.{byte_on, lane_at}
use Rattle.vme_trace.specs.Changes.{no_lanes}
use Rattle.vme_trace.specs.Observations.{observations}
use Rattle.vme_trace.specs.Shown.{value_in_run}
use Rattle.vme_trace.specs.Variables.{code_of}

-- whether a line is high: it is, but where it is driven low, since the backplane terminates it
abbrev pub is_high : Value → Bool
is_high Low = false
is_high value = true

-- whether nothing drives a line, or several lines
abbrev pub is_free : Value → Bool
is_free Free = true
is_free Released = true
is_free value = false

-- the number that lines show; 0 where nothing drives them
abbrev pub number_of : Value → ℕ
number_of (Number width number) = number
number_of value = 0

-- 1 where a line is driven high, else 0
abbrev pub bit_of : Value → ℕ
bit_of High = 1
bit_of value = 0

-- the four lanes that the data lines show
abbrev pub lanes_of : Value → List (Option ℕ)
lanes_of (Lanes lanes) = lanes
lanes_of value = []

-- whether a grant line is low: BG3IN* to BG0IN* are bits, 15 where all are high
abbrev pub is_granting : Value → Bool
is_granting (Grants bits) = not (bits == 15)
is_granting value = false

-- the lines of a lane that nothing drives: all eight, or none
abbrev pub free_lane : Option ℕ → ℕ
free_lane None = 255
free_lane (Some byte) = 0

-- the lines of D31 to D00 that nothing drives
abbrev pub free_lanes : List (Option ℕ) → ℕ
free_lanes lanes =
    16777216 * free_lane (lane_at lanes 0) + 65536 * free_lane (lane_at lanes 1) + 256 * free_lane (lane_at lanes 2)
    + free_lane (lane_at lanes 3)

-- the number that a lane's eight lines show: the last eight bits of its byte, as in the text; 0 where it carries none
abbrev pub lane_number : Option ℕ → ℕ
lane_number lane = byte_on lane % 2 ^ 8

-- the number that D31 to D00 show
abbrev pub data_number : List (Option ℕ) → ℕ
data_number lanes =
    16777216 * lane_number (lane_at lanes 0) + 65536 * lane_number (lane_at lanes 1) + 256 * lane_number (lane_at lanes 2)
    + lane_number (lane_at lanes 3)

-- A31 to A01 with LWORD* in the place of A00, and D31 to D00
abbrev pub lines_shown : (Variable → Value) → ℕ
lines_shown values =
    (number_of (values AddressLines) + bit_of (values LongWord)) * 2 ^ 32 + data_number (lanes_of (values DataLines))

-- those of these lines that nothing drives
abbrev pub lines_free : (Variable → Value) → ℕ
lines_free values =
    ((if is_free (values AddressLines) then 0xfffffffe else 0) + (if is_free (values LongWord) then 1 else 0)) * 2 ^ 32
    + free_lanes (lanes_of (values DataLines))

-- the slots of those boards, of the first so many, whose variable passes a test: a bit for each, the lowest for slot 1
abbrev pub slots_where : Configuration → (ℕ → Bool) → ℕ → ℕ
slots_where config test zero = 0
slots_where config test (suc board) =
    bit_or (slots_where config test board) (if test board then 2 ^ (slot_at config board - 1) else 0)

-- the sample that values of the variables show at a time; a trace has no IACK*, and no undefined control line
unfoldable pub sample_of : Configuration → ℕ → (Variable → Value) → Sample
sample_of config time values = record {
  time = time;
  address_strobe = is_high (values AddressStrobe);
  ds1 = is_high (values FirstStrobe);
  ds0 = is_high (values SecondStrobe);
  dtack = is_high (values Acknowledge);
  berr = is_high (values BusError);
  iack = true;
  busy = is_high (values BusBusy);
  undefined = false;
  write = is_high (values WriteLine);
  write_undefined = is_free (values WriteLine);
  am = number_of (values AddressModifier);
  am_undefined = is_free (values AddressModifier);
  lines = lines_shown values;
  lines_undefined = lines_free values;
  drivers = slots_where config (λ board. not (is_high (values (BusyLine board)))) (length config.boards);
  requests = slots_where config (λ board. not (is_high (values (RequestLine board)))) (length config.boards);
  grants = slots_where config (λ board. is_granting (values (GrantLines board))) (length config.boards);
}

-- the value of a variable before the first event
abbrev pub start_of : Variable → Value
start_of EventNumber = Number 32 0
start_of EventSlot = Released
start_of Holder = Released
start_of AddressModifier = Released
start_of AddressLines = Released
start_of LongWord = Free
start_of WriteLine = Free
start_of DataLines = no_lanes
start_of UpperDataLines = no_lanes
start_of (CurrentLine board) = Released
start_of (GrantLines board) = Grants 15
start_of (Selected board) = Low
start_of (PortSelect board) = Low
start_of (PortWrite board) = Free
start_of (PortOffset board) = Released
start_of (PortData board) = no_lanes
start_of (PortDone board) = Low
start_of (PortError board) = Low
start_of variable = High

-- the value of a variable at an edge of the event that follows others
abbrev pub value_shown : Configuration → List Observation → Observation → ℕ → Variable → Value
value_shown config events o k variable = value_in_run (code_of variable) (length config.boards) events o (start_of variable) k

-- the sample of an edge of the event that follows others
abbrev pub edge_sample : Configuration → List Observation → Observation → ℕ → Sample
edge_sample config events o k = sample_of config (100 * (length events + 1) + 5 * k) (value_shown config events o k)

-- the samples of the event that follows others, edge by edge
abbrev pub event_samples : Configuration → List Observation → Observation → List Sample
event_samples config events o = map (edge_sample config events o) (range_with_len 0 EDGES)

-- the samples of events that follow others
abbrev pub run_samples : Configuration → List Observation → List Observation → List Sample
run_samples config events [] = []
run_samples config events (o ∷ later) = event_samples config events o ++ run_samples config (events ++ o ∷ []) later

-- the samples of the trace of turns: before the first event, and at each edge of each event
unfoldable pub trace_samples : Configuration → List ℕ → List Sample
trace_samples config slots = sample_of config 0 start_of ∷ run_samples config [] (observations config slots)
