-- The lines that a message shows, with their levels before a sample and at it.
use Rattle.std.specs.Prelude.{ℕ, zero, suc, ◌+◌, ◌-◌, ◌*◌, ◌/◌, ◌%◌, ◌^◌, bit_and, bit_or, Bool, false, ◌==◌, ◌&&◌, if◌then◌else◌, List, [], ◌∷◌, ◌++◌, codes, length, replicate, flat_map, Option, Some, None}
use Rattle.std.specs.Fmt.{decimal, digits, format_spec, padded_integral}
use Rattle.std.specs.Int.{w32, trailing_zeros}
use Rattle.vme_protocol.specs.declared.sample.Sample.{Sample}
use Rattle.vme_protocol.specs.declared.rule.Rule.{Rule}
use Rattle.vme_protocol.specs.declared.rule.Rule.TheVariants as rules
use Rattle.vme_judge.specs.declared.shown.Shown.{Shown}
use Rattle.vme_judge.specs.declared.shown.Shown.TheVariants.{AddressStrobe, UpperStrobe, LowerStrobe, Acknowledge, BusError, Busy, Write, Modifier, Address, LongWord, Data, Driver}

-- a number in hexadecimal digits, with zeros before it up to a number of digits: as `{:04x}` prints it with four
abbrev pub hex : ℕ → ℕ → List ℕ
hex width n = padded_integral (format_spec 32 0 4 width (2 ^ 64 - 1)) false [] (digits 16 false n)

-- the name of lines
abbrev pub name_of : Shown → List ℕ
name_of AddressStrobe = codes "AS*"
name_of UpperStrobe = codes "DS1*"
name_of LowerStrobe = codes "DS0*"
name_of Acknowledge = codes "DTACK*"
name_of BusError = codes "BERR*"
name_of Busy = codes "BBSY*"
name_of Write = codes "WRITE*"
name_of Modifier = codes "AM5-AM0"
name_of Address = codes "A31-A01"
name_of LongWord = codes "LWORD*"
name_of Data = codes "D31-D00"
name_of (Driver slot) = codes "BBSY* of slot " ++ decimal slot

-- the level of a line as a digit
abbrev pub level : Bool → ℕ
level high = if high then 1 else 0

-- A31 to A01 and LWORD*, in the upper half of lines
abbrev pub upper : ℕ → ℕ
upper lines = lines / 2 ^ 32

-- D31 to D00, in the lower half
abbrev pub lower : ℕ → ℕ
lower lines = bit_and lines 0xffffffff

-- the level of what a slot drives on BBSY*: low if it is among the drivers
abbrev pub driven : ℕ → ℕ → ℕ
driven slot drivers = 1 - bit_and (drivers / 2 ^ ((slot - 1) % 32)) 1

-- the levels of lines at a sample, and which of them are undefined
abbrev pub bits_of : Shown → Sample → ℕ × ℕ
bits_of AddressStrobe s = (level s.address_strobe, 0)
bits_of UpperStrobe s = (level s.ds1, 0)
bits_of LowerStrobe s = (level s.ds0, 0)
bits_of Acknowledge s = (level s.dtack, 0)
bits_of BusError s = (level s.berr, 0)
bits_of Busy s = (level s.busy, 0)
bits_of Write s = (level s.write, level s.write_undefined)
bits_of Modifier s = (s.am, if s.am_undefined then 63 else 0)
bits_of Address s = (bit_and (upper s.lines) 0xfffffffe, bit_and (upper s.lines_undefined) 0xfffffffe)
bits_of LongWord s = (bit_and (upper s.lines) 1, bit_and (upper s.lines_undefined) 1)
bits_of Data s = (lower s.lines, lower s.lines_undefined)
bits_of (Driver slot) s = (driven slot s.drivers, 0)

-- the number of hexadecimal digits of the levels
abbrev pub digits_of : Shown → ℕ
digits_of Modifier = 2
digits_of Address = 8
digits_of Data = 8
digits_of shown = 1

-- the digit of four lines, or an x if one of them is undefined
abbrev pub digit_text : ℕ → ℕ → ℕ → List ℕ
digit_text bits vague place =
    if bit_and (vague / 2 ^ (4 * place)) 15 == 0 then digits 16 false (bit_and (bits / 2 ^ (4 * place)) 15) else codes "x"

-- the last digits of levels, as many as are given
abbrev pub digits_text : ℕ → ℕ × ℕ → List ℕ
digits_text zero bits = []
digits_text (suc place) bits = digit_text bits.0 bits.1 place ++ digits_text place bits

-- the levels of lines at a sample
unfoldable pub levels_text : Shown → Sample → List ℕ
levels_text shown s = digits_text (digits_of shown) (bits_of shown s)

-- whether lines have the same levels at two samples
abbrev pub is_same : Shown → Sample → Sample → Bool
is_same shown before after =
    (bits_of shown before).0 == (bits_of shown after).0 && (bits_of shown before).1 == (bits_of shown after).1

-- lines, if their levels change
abbrev pub changed : Sample → Sample → Shown → Option Shown
changed before after shown = if is_same shown before after then None else Some shown

-- lines, if one of them is undefined
abbrev pub undefined : Sample → Shown → Option Shown
undefined after shown = if (bits_of shown after).1 == 0 then None else Some shown

-- the lowest of slots, and the others; BBSY* after the last one
abbrev pub holder : Option ℕ → Option Shown × Option ℕ
holder None = (None, None)
holder (Some slots) =
    if slots == 0 then (Some Busy, None)
    else (Some (Driver (trailing_zeros w32 slots + 1)), Some (bit_and slots (slots - 1)))

-- so many of the slots that hold the bus, and BBSY* after the last one
abbrev pub holders : ℕ → Option ℕ → List (Option Shown)
holders zero slots = []
holders (suc places) slots = (holder slots).0 ∷ holders places (holder slots).1

-- the lines that the message of a rule shows
abbrev pub shown_lines : Rule → Sample → Sample → List (Option Shown)
shown_lines rules.CodeUnknown before after = Some Modifier ∷ None ∷ None ∷ None ∷ None ∷ []
shown_lines rules.AddressStrobeFalls before after =
    Some AddressStrobe ∷ Some Busy ∷ Some UpperStrobe ∷ Some LowerStrobe ∷ Some Acknowledge ∷ []
shown_lines rules.AddressStrobeRises before after =
    Some AddressStrobe ∷ Some UpperStrobe ∷ Some LowerStrobe ∷ None ∷ None ∷ []
shown_lines rules.LoneStrobe before after = Some UpperStrobe ∷ Some LowerStrobe ∷ Some AddressStrobe ∷ None ∷ None ∷ []
shown_lines rules.AddressChanges before after =
    changed before after Modifier ∷ changed before after Address ∷ changed before after LongWord ∷ Some AddressStrobe
    ∷ None ∷ []
shown_lines rules.DataChange before after =
    changed before after Write ∷ changed before after Data ∷ Some UpperStrobe ∷ Some LowerStrobe ∷ None ∷ []
shown_lines rules.Undefined before after =
    undefined after Modifier ∷ undefined after Write ∷ undefined after Address ∷ undefined after LongWord
    ∷ undefined after Data ∷ []
shown_lines rules.AnswerAlone before after = Some Acknowledge ∷ Some BusError ∷ Some UpperStrobe ∷ Some LowerStrobe ∷ None ∷ []
shown_lines rules.AnswerRises before after = Some Acknowledge ∷ Some BusError ∷ Some UpperStrobe ∷ Some LowerStrobe ∷ None ∷ []
shown_lines rules.StrobeUnderAnswer before after =
    Some UpperStrobe ∷ Some LowerStrobe ∷ Some Acknowledge ∷ Some BusError ∷ None ∷ []
shown_lines rules.StrobeRises before after = Some UpperStrobe ∷ Some LowerStrobe ∷ Some Acknowledge ∷ Some BusError ∷ None ∷ []
shown_lines rules.Timeout before after = Some UpperStrobe ∷ Some LowerStrobe ∷ Some Acknowledge ∷ Some BusError ∷ None ∷ []
shown_lines rules.TwoAnswers before after = Some Acknowledge ∷ Some BusError ∷ None ∷ None ∷ None ∷ []
shown_lines rules.Transfer before after =
    Some Modifier ∷ Some Address ∷ Some LongWord ∷ Some UpperStrobe ∷ Some LowerStrobe ∷ []
shown_lines rules.TwoHolders before after = holders 5 (Some (bit_or before.drivers after.drivers))
shown_lines rules.Grant before after = holders 5 (Some (bit_or before.drivers after.drivers))
shown_lines rules.BusError before after = Some Acknowledge ∷ Some BusError ∷ None ∷ None ∷ None ∷ []
shown_lines rules.NoBoard before after = Some Acknowledge ∷ Some BusError ∷ None ∷ None ∷ None ∷ []
shown_lines rules.WrongBytes before after = None ∷ None ∷ None ∷ None ∷ None ∷ []
shown_lines rules.TornModify before after = None ∷ None ∷ None ∷ None ∷ None ∷ []
shown_lines rules.PortUndefined before after = None ∷ None ∷ None ∷ None ∷ None ∷ []

-- the name of lines and blanks up to the column of the levels
abbrev pub padded_name : Shown → List ℕ
padded_name shown = name_of shown ++ (replicate (12 - length (name_of shown)) 32 ++ codes " ")

-- a line of a message: the levels of lines before a sample and at it
abbrev pub level_line : Sample → Sample → Option Shown → List ℕ
level_line before after None = []
level_line before after (Some shown) =
    codes "    " ++ padded_name shown ++ levels_text shown before ++ codes " -> " ++ levels_text shown after ++ codes "\n"

-- the levels of lines, one after another
abbrev pub levels_of : Sample → Sample → List (Option Shown) → List ℕ
levels_of before after lines = flat_map (level_line before after) lines

-- the levels that the message of a rule shows
unfoldable pub level_lines : Rule → Sample → Sample → List ℕ
level_lines rule before after = levels_of before after (shown_lines rule before after)
