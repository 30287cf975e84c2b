-- Why a text is no body of a dump.
use Rattle.std.specs.Prelude.{ℕ, ◌&&◌, if◌then◌else◌, is_some, List, [], ◌∷◌, Option, Some, None}
use Rattle.vme_vcd_reader.specs.declared.fault.VcdFault.{VcdFault}
use Rattle.vme_vcd_reader.specs.declared.fault.VcdFault.TheVariants as faults
use Rattle.vme_vcd_reader.specs.declared.table.Row.{Row}
use Rattle.vme_vcd_reader.specs.Bodies.{Reading, byte_said}
use Rattle.vme_vcd_reader.specs.Words.{Opening, Number, Vector, Skipped, Keyword, Scalar, opening, Awaited, Statement, Variable, Unread, Remark, blank_says, is_blank}

-- why a text is no dump, and the number of the line that is none of a dump
pub record Flaw : Type 0 where
  pub fault : VcdFault
  pub line : ℕ

-- why no word begins so, or no dump has a word that does: a time is no number below 2^64, a digit is no level, or a change has
-- no identifier
abbrev pub opened_fault : Option Opening → VcdFault
opened_fault (Some Number) = faults.BadTime
opened_fault (Some Vector) = faults.BadValue
opened_fault (Some (Scalar level)) = faults.NoIdentifier
opened_fault (Some Skipped) = faults.UnknownWord
opened_fault (Some Keyword) = faults.UnknownWord
opened_fault None = faults.UnknownWord

-- why no dump has a word with this begin
abbrev pub word_fault : Awaited → List ℕ → VcdFault
word_fault Statement [] = faults.UnknownWord
word_fault Statement (c ∷ cs) = opened_fault (opening c)
word_fault (Variable levels) word = faults.NoIdentifier
word_fault Unread word = faults.NoIdentifier
word_fault Remark word = faults.NoIdentifier

-- why a body does not go on with a byte: no dump has the word, or it is a time that falls
abbrev pub byte_fault : Reading → ℕ → VcdFault
byte_fault r b = if is_blank b && is_some (blank_says r.awaited r.word) then faults.TimeFalls else word_fault r.awaited r.word

-- why a body does not end where it ends: its last word is none of a dump, or it ends in a change
abbrev pub end_fault : List Row → Reading → VcdFault
end_fault rows r = if is_some (byte_said rows r 32) then faults.EndsInChange else byte_fault r 32

-- why a body does not go on with a byte, and at which line
abbrev pub byte_flaw : Reading → ℕ → Flaw
byte_flaw r b = record { fault = byte_fault r b; line = r.line }

-- the time of a line falls
abbrev pub time_flaw : ℕ → Flaw
time_flaw line = record { fault = faults.TimeFalls; line = line }

-- a text ends in a change
abbrev pub change_flaw : Reading → Flaw
change_flaw r = record { fault = faults.EndsInChange; line = r.line }

-- why a body does not end where it ends, and at which line
abbrev pub end_flaw : List Row → Reading → Flaw
end_flaw rows r = record { fault = end_fault rows r; line = r.line }
