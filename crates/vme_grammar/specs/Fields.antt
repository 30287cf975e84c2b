-- The fields of a line: what each reads, and what it adds to the operands.
use Rattle.std.specs.Prelude.{ℕ, List, Option, Some}
use Rattle.std.specs.Option.{option_map}
use Rattle.vme_grammar.specs.declared.fault.LineFault.{LineFault}
use Rattle.vme_grammar.specs.declared.fault.LineFault.TheVariants.{UnknownWord, BadCode, BadAddress, BadNumber, BadBytes}
use Rattle.vme_grammar.specs.Operands.{Operands}
use Rattle.vme_lexer.specs.Numbers.{hex_number, hex_bytes, exact_bytes, local_bytes, small_number, local_number, decimal_number}

-- a field of a line; Name is a fixed word, which adds no operand; Expected and Datum have the length that an earlier
-- field states; FourBytes is a word of a mailbox, the most significant byte first
pub data Field : Type 0 where
  Name : Field
  Code : Field
  Address : Field
  Offset : Field
  Length : Field
  LocalLength : Field
  Count : Field
  Bytes : Field
  LocalBytes : Field
  BlockBytes : Field
  Expected : Field
  Datum : Field
  Mailbox : Field
  FourBytes : Field

-- the operands with those of one more field, if a word spells it; a block has at most as many bytes as a line of 80
-- bytes can spell
unfoldable pub with_field : Field → List ℕ → Operands → Option Operands
with_field Name word o = Some o
with_field Code word o = option_map (λ am. record o { am = am }) (hex_number 2 word)
with_field Address word o = option_map (λ addr. record o { addr = addr }) (hex_number 8 word)
with_field Offset word o = option_map (λ addr. record o { addr = addr }) (hex_number 8 word)
with_field Length word o = option_map (λ n. record o { n = n }) (small_number word)
with_field LocalLength word o = option_map (λ n. record o { n = n }) (local_number word)
with_field Count word o = option_map (λ count. record o { count = count }) (decimal_number 4 word)
with_field Bytes word o = option_map (λ bytes. record o { bytes = bytes }) (hex_bytes 8 word)
with_field LocalBytes word o = option_map (λ bytes. record o { bytes = bytes }) (local_bytes word)
with_field BlockBytes word o = option_map (λ bytes. record o { block = bytes }) (hex_bytes 40 word)
with_field Expected word o = option_map (λ bytes. record o { expected = bytes }) (exact_bytes o.n word)
with_field Datum word o = option_map (λ bytes. record o { bytes = bytes }) (exact_bytes o.n word)
with_field Mailbox word o = option_map (λ mailbox. record o { mailbox = mailbox }) (decimal_number 2 word)
with_field FourBytes word o = option_map (λ number. record o { word = number }) (hex_number 8 word)

-- the refusal of a word that does not spell the field
abbrev pub fault_of : Field → LineFault
fault_of Name = UnknownWord
fault_of Code = BadCode
fault_of Address = BadAddress
fault_of Offset = BadAddress
fault_of Length = BadNumber
fault_of LocalLength = BadNumber
fault_of Count = BadNumber
fault_of Bytes = BadBytes
fault_of LocalBytes = BadBytes
fault_of BlockBytes = BadBytes
fault_of Expected = BadBytes
fault_of Datum = BadBytes
fault_of Mailbox = BadNumber
fault_of FourBytes = BadBytes
