-- Bytes of a dump's body one after another, and lines that stand whole at the start of a text, between two words.
use Rattle.std.specs.Prelude.{◌≡◌, ℕ, ◌<◌, Bool, false, ◌||◌, List, [], ◌∷◌, ◌++◌, length, Option, Some, None, ok_or}
use Rattle.std.specs.Option.{option_map, option_and_then}
use Rattle.vme_vcd_reader.specs.declared.bits.Bits.{Bits}
use Rattle.vme_vcd_reader.specs.declared.bus.BusLines.{BusLines}
use Rattle.vme_vcd_reader.specs.declared.table.Row.{Row}
use Rattle.vme_vcd_reader.specs.Bodies.{Moment, Reading, Shown, after_byte, byte_taken, next_line, time_taken}
use Rattle.vme_vcd_reader.specs.Faults.{time_flaw}
use Rattle.vme_vcd_reader.specs.Names.{identifier_of}
use Rattle.vme_vcd_reader.specs.Samples.{samples_by, samples_of}
use Rattle.vme_vcd_reader.specs.Tables.{has_variable, variables_after}
use Rattle.vme_vcd_reader.specs.Words.{Statement, is_blank}

-- a sample, if there is one, before those that further bytes complete
abbrev pub shown_first : Option Shown → Reading × List Shown → Reading × List Shown
shown_first None more = more
shown_first (Some shown) more = (more.0, shown ∷ more.1)

-- bytes, taken one after another, with the samples that they complete
abbrev pub bytes_taken : List Row → Reading → List ℕ → Option (Reading × List Shown)
bytes_taken rows r [] = Some (r, [])
bytes_taken rows r (b ∷ bs) =
    option_and_then (λ (taken : Reading × Option Shown). option_map (shown_first taken.1) (bytes_taken rows taken.0 bs))
    (byte_taken rows r b)

-- a body between two words
abbrev pub between : BusLines → Option Moment → Bool → ℕ → Reading
between lines time changed n = record {
  awaited = Statement;
  word = [];
  lines = lines;
  time = time;
  changed = changed;
  line = n;
}

-- the samples that there are, if there is one at most
abbrev pub list_of : Option Shown → List Shown
list_of None = []
list_of (Some shown) = shown ∷ []

-- a text begins with a line that is a change of the variable with an identifier to some bits: what its bytes say
pub record IsChangeLine (text rest : List ℕ) (identifier : ℕ) (bits : Bits) : Type 0 where
  pub line : List ℕ
  pub text_is : text ≡ line ++ rest
  pub some : 0 < length line
  pub says : (rows : List Row) (lines : BusLines) (time : Option Moment) (changed : Bool) (n : ℕ)
      → bytes_taken rows (between lines time changed n) line
      ≡ Some (
        between (variables_after rows identifier bits lines) time (changed || has_variable rows identifier) (next_line n),
        [],
      )

-- a body after a line feed
abbrev pub line_ended : Option (Reading × Option Shown) → Option (Reading × Option Shown)
line_ended o = option_map (after_byte 10) o

-- a text begins with a line that is a time
pub record IsTimeLine (text rest : List ℕ) (time : ℕ) : Type 0 where
  pub line : List ℕ
  pub text_is : text ≡ line ++ rest
  pub some : 0 < length line
  pub says : (rows : List Row) (lines : BusLines) (before : Option Moment) (changed : Bool) (n : ℕ)
      → bytes_taken rows (between lines before changed n) line
      ≡ option_map (λ taken. (taken.0, list_of taken.1)) (line_ended (time_taken (between lines before changed n) before time))
  pub shows : (rows : List Row) (lines : BusLines) (before : Option Moment) (changed : Bool) (n : ℕ) (more : List ℕ)
      → samples_of rows (between lines before changed n) (line ++ more)
      ≡ samples_by rows (ok_or (line_ended (time_taken (between lines before changed n) before time)) (time_flaw n)) more

-- no byte is a blank
abbrev pub HasNoBlank : List ℕ → Type 0
HasNoBlank [] = Unit {0}
HasNoBlank (b ∷ bs) = (is_blank b ≡ false) × HasNoBlank bs

-- a text begins with an identifier and a line feed
pub record IsNameLine (text rest : List ℕ) (identifier : ℕ) : Type 0 where
  pub first : ℕ
  pub more : List ℕ
  pub text_is : text ≡ (first ∷ more) ++ 10 ∷ rest
  pub whole : HasNoBlank (first ∷ more)
  pub number : identifier ≡ identifier_of (first ∷ more)
