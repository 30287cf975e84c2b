-- The samples of a dump's body, by its text and the variables that are mapped.
use Rattle.std.specs.Prelude.{ℕ, if◌then◌else◌, List, [], ◌∷◌, Option, Some, None, Result, Ok, Err, ok_or}
use Rattle.vme_vcd_reader.specs.declared.table.Row.{Row}
use Rattle.vme_vcd_reader.specs.Bodies.{Moment, Reading, Shown, byte_taken, shown_at}
use Rattle.vme_vcd_reader.specs.Faults.{Flaw, byte_flaw, change_flaw}
use Rattle.vme_vcd_reader.specs.Places.{may_end}

-- the samples of a body: one after another, to its end or to where it is none of a dump, and why it is none
pub data Samples : Type 0 where
  Sample : Shown → Samples → Samples
  End : Samples
  Broken : Flaw → Samples

-- a sample, if there is one, before others
abbrev pub before : Option Shown → Samples → Samples
before None samples = samples
before (Some shown) samples = Sample shown samples

-- a byte, taken, or why a body does not go on with it
abbrev pub byte_result : List Row → Reading → ℕ → Result (Reading × Option Shown) Flaw
byte_result rows r b = ok_or (byte_taken rows r b) (byte_flaw r b)

-- the last sample: that of the time whose changes are read
abbrev pub last_of : Reading → Option Moment → Samples
last_of r None = End
last_of r (Some at) = Sample (shown_at r at) End

-- the end of a text after its last word, which has to be the whole of a change, or within a comment
abbrev pub ends_with : Result (Reading × Option Shown) Flaw → Samples
ends_with (Err flaw) = Broken flaw
ends_with (Ok taken) =
    if may_end taken.0.awaited then before taken.1 (last_of taken.0 taken.0.time) else Broken (change_flaw taken.0)

-- the samples of the text that is left: a blank ends its last word
abbrev pub samples_by : List Row → Result (Reading × Option Shown) Flaw → List ℕ → Samples
samples_by rows (Err flaw) text = Broken flaw
samples_by rows (Ok taken) [] = before taken.1 (ends_with (byte_result rows taken.0 32))
samples_by rows (Ok taken) (b ∷ bs) = before taken.1 (samples_by rows (byte_result rows taken.0 b) bs)

-- the samples of a text after what is read
abbrev pub samples_of : List Row → Reading → List ℕ → Samples
samples_of rows r text = samples_by rows (Ok (r, None)) text
