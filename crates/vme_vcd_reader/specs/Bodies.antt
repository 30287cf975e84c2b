-- The body of a dump, byte by byte, by the variables that are mapped.
use Rattle.std.specs.Prelude.{ℕ, ◌+◌, ◌^◌, ◌%◌, nat_lt, Bool, false, ◌==◌, ◌||◌, if◌then◌else◌, List, Option, Some, None}
use Rattle.std.specs.Option.{option_map, option_and_then}
use Rattle.vme_vcd_reader.specs.declared.bus.BusLines.{BusLines}
use Rattle.vme_vcd_reader.specs.declared.table.Row.{Row}
use Rattle.vme_vcd_reader.specs.Levels.{value_of}
use Rattle.vme_vcd_reader.specs.Ports.{without_changes}
use Rattle.vme_vcd_reader.specs.Tables.{has_variable, variables_after}
use Rattle.vme_vcd_reader.specs.Words.{Awaited, Fact, Silence, At, Change, byte_says}

-- a time, and the number of the line of the text that says it
pub record Moment : Type 0 where
  pub time : ℕ
  pub line : ℕ

-- a body as far as it is read: the begin of a word and what it may be, the lines of the bus, the time whose changes are
-- read, if there is one, whether a mapped variable has changed since the sample before, and the number of the line of the
-- text that has the next byte
pub record Reading : Type 0 where
  pub awaited : Awaited
  pub word : List ℕ
  pub lines : BusLines
  pub time : Option Moment
  pub changed : Bool
  pub line : ℕ

-- a sample: the line of the text that says its time, the lines of the bus after all changes of this time, whether a mapped
-- variable has changed, and the slots whose local ports have a change
pub record Shown : Type 0 where
  pub time : ℕ
  pub line : ℕ
  pub lines : BusLines
  pub changed : Bool
  pub ports : ℕ

-- the number of the line after one, below 2^64
abbrev pub next_line : ℕ → ℕ
next_line line = (line + 1) % 2 ^ 64

-- the number of the line after a byte: a line feed ends a line
abbrev pub line_after : ℕ → ℕ → ℕ
line_after b line = if b == 10 then next_line line else line

-- the sample of a time
abbrev pub shown_at : Reading → Moment → Shown
shown_at r at = record {
  time = at.time;
  line = at.line;
  lines = without_changes r.lines;
  changed = r.changed;
  ports = r.lines.changed_ports;
}

-- a time that the line says which has the next byte
abbrev pub said_at : Reading → ℕ → Option Moment
said_at r time = Some (record { time = time; line = r.line })

-- a time: the first one; one that repeats the one before it; a later one, which completes that one's sample; none that falls
abbrev pub time_taken : Reading → Option Moment → ℕ → Option (Reading × Option Shown)
time_taken r None time = Some (record r { time = said_at r time }, None)
time_taken r (Some before) time =
    if nat_lt time before.time then None else
    (if time == before.time then Some (r, None) else Some (
      record r { time = said_at r time; lines = without_changes r.lines; changed = false },
      Some (shown_at r before),
    ))

-- what a word says, taken: a change is one of all variables with the identifier
abbrev pub fact_taken : List Row → Reading → Fact → Option (Reading × Option Shown)
fact_taken rows r Silence = Some (r, None)
fact_taken rows r (At time) = time_taken r r.time time
fact_taken rows r (Change identifier levels) = Some (
  record r {
    lines = variables_after rows identifier (value_of levels) r.lines;
    changed = r.changed || has_variable rows identifier;
  },
  None,
)

-- a body at another begin of a word
abbrev pub at_word : Reading → Awaited × List ℕ → Reading
at_word r at = record r { awaited = at.0; word = at.1 }

-- what a byte says, taken
abbrev pub byte_said : List Row → Reading → ℕ → Option (Reading × Option Shown)
byte_said rows r b = option_and_then (λ says. fact_taken rows (at_word r says.0) says.1) (byte_says r.awaited r.word b)

-- a body after a byte, which may end a line
abbrev pub after_byte : ℕ → Reading × Option Shown → Reading × Option Shown
after_byte b taken = (record taken.0 { line = line_after b taken.0.line }, taken.1)

-- a byte, taken
abbrev pub byte_taken : List Row → Reading → ℕ → Option (Reading × Option Shown)
byte_taken rows r b = option_map (after_byte b) (byte_said rows r b)
