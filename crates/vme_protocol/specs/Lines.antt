-- The address lines that count with a code, and the data lines of a location, as bits of a sample's lines.
use Rattle.std.specs.Prelude.{ℕ, Bool, not, ◌==◌, bit_and, bit_or, bit_xor, Result, Ok, Err}
use Rattle.vme_am.specs.declared.code.Space.{Space}
use Rattle.vme_am.specs.declared.code.Space.TheVariants.{A16, A24, A32}
use Rattle.vme_am.specs.declared.code.AmFault.{AmFault}
use Rattle.vme_am.specs.Codes.{CodeRow, read_code}
use Rattle.vme_lanes.specs.declared.location.Location.{Location}
use Rattle.vme_lanes.specs.declared.location.Location.TheVariants.{Byte0, Byte1, Byte2, Byte3, Bytes01, Bytes23, Bytes03, Bytes02, Bytes13, Bytes12}
use Rattle.vme_protocol.specs.declared.sample.Sample.{Sample}

-- A15 to A01, A23 to A01 or A31 to A01, and LWORD*; IEEE 1014-1987, 2.3.5 (addressing)
abbrev pub space_lines : Space → ℕ
space_lines A16 = 0xffff00000000
space_lines A24 = 0xffffff00000000
space_lines A32 = 0xffffffff00000000

-- those of the code's space; none with a code that has no row
abbrev pub lines_by : Result CodeRow AmFault → ℕ
lines_by (Ok row) = space_lines row.space
lines_by (Err fault) = 0

-- the number of address lines that count with a code; IEEE 1014-1987, 2.2.2 (address modifier lines)
unfoldable pub counted_lines : ℕ → ℕ
counted_lines am = lines_by (read_code am)

-- the data lines of a location; IEEE 1014-1987, 2.2.3 (data lines)
abbrev pub lanes_of : Location → ℕ
lanes_of Byte0 = 0xff00
lanes_of Byte1 = 0xff
lanes_of Byte2 = 0xff00
lanes_of Byte3 = 0xff
lanes_of Bytes01 = 0xffff
lanes_of Bytes23 = 0xffff
lanes_of Bytes03 = 0xffffffff
lanes_of Bytes02 = 0xffffff00
lanes_of Bytes13 = 0xffffff
lanes_of Bytes12 = 0xffff00

-- whether two sets of lines have one in common
abbrev pub meet : ℕ → ℕ → Bool
meet a b = not (bit_and a b == 0)

-- the lines that are undefined in one of two samples
abbrev pub vague : Sample → Sample → ℕ
vague before after = bit_or before.lines_undefined after.lines_undefined

-- the lines that are defined in two samples, and have other levels: those of the rest are set, and then cleared
abbrev pub moved : Sample → Sample → ℕ
moved before after = bit_xor (bit_or (bit_xor before.lines after.lines) (vague before after)) (vague before after)
