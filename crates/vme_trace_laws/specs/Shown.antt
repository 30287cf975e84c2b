-- The lines of a cycle, and what a viewer shows of a handshake.
use Rattle.std.specs.Prelude.{ℕ, ◌≡◌, ◌⊎◌, false, if◌then◌else◌}
use Rattle.vme_trace.specs.declared.dump.change.Code.{Code}
use Rattle.vme_trace.specs.declared.dump.change.Value.{Value}
use Rattle.vme_trace.specs.declared.dump.change.Value.TheVariants.{Low, High}
use Rattle.vme_trace.specs.declared.dump.handshake.Handshake.{Handshake}
use Rattle.vme_trace.specs.declared.dump.variable.Variable.TheVariants.{AddressStrobe, AddressModifier, AddressLines, LongWord, WriteLine, FirstStrobe, SecondStrobe, DataLines, UpperDataLines, Acknowledge, BusError}
use Rattle.vme_trace.specs.Variables.{code_of}
use Rattle.vme_trace.specs.Bus.{handshake_changes}
use Rattle.vme_trace.specs.Shown.{value_at}

-- AS*
abbrev pub address_strobe : Code
address_strobe = code_of AddressStrobe

-- AM5 to AM0
abbrev pub address_modifier : Code
address_modifier = code_of AddressModifier

-- A31 to A01
abbrev pub address_lines : Code
address_lines = code_of AddressLines

-- LWORD*
abbrev pub long_word : Code
long_word = code_of LongWord

-- WRITE*
abbrev pub write_line : Code
write_line = code_of WriteLine

-- DS1*
abbrev pub first_strobe : Code
first_strobe = code_of FirstStrobe

-- DS0*
abbrev pub second_strobe : Code
second_strobe = code_of SecondStrobe

-- D31 to D00
abbrev pub data_lines : Code
data_lines = code_of DataLines

-- D63 to D32
abbrev pub upper_data_lines : Code
upper_data_lines = code_of UpperDataLines

-- DTACK*
abbrev pub acknowledge : Code
acknowledge = code_of Acknowledge

-- BERR*
abbrev pub bus_error : Code
bus_error = code_of BusError

-- a line is a data strobe
abbrev pub IsStrobe : Code → Type 0
IsStrobe line = (line ≡ first_strobe) ⊎ (line ≡ second_strobe)

-- a line is DTACK* or BERR*
abbrev pub IsAnswer : Code → Type 0
IsAnswer line = (line ≡ acknowledge) ⊎ (line ≡ bus_error)

-- a handshake has a data strobe: the location of its datum has one low
abbrev pub HasStrobe : Handshake → Type 0
HasStrobe t = (t.lines.strobes.ds1 ≡ false) ⊎ (t.lines.strobes.ds0 ≡ false)

-- AS* before a handshake: low within a transfer
abbrev pub address_strobe_before : Handshake → Value
address_strobe_before t = if t.opens then High else Low

-- AS* at an edge of a handshake
abbrev pub address_strobe_at : Handshake → ℕ → Value
address_strobe_at t = value_at address_strobe (handshake_changes t) (address_strobe_before t)

-- a line that is high before a handshake, at an edge of it
abbrev pub line_at : Handshake → Code → ℕ → Value
line_at t line = value_at line (handshake_changes t) High
