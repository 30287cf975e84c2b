-- The text of a line of a bus log, as it is printed.
use Rattle.std.specs.Prelude.{ℕ, zero, suc, ◌-◌, ◌*◌, ◌/◌, ◌^◌, bit_and, Bool, false, ◌==◌, if◌then◌else◌, List, [], ◌++◌, codes, Option, Some, None}
use Rattle.std.specs.Fmt.{decimal, digits, format_spec, padded_integral}
use Rattle.vme_bus_log.specs.declared.entry.LogDatum.{LogDatum}
use Rattle.vme_bus_log.specs.declared.entry.LogAccess.{LogAccess}

-- a number in hexadecimal digits, with zeros before it up to a number of digits: as `{:04x}` prints it with four
abbrev pub hex : ℕ → ℕ → List ℕ
hex width n = padded_integral (format_spec 32 0 4 width (2 ^ 64 - 1)) false [] (digits 16 false n)

-- a time, if the line has one
abbrev pub time_text : Option ℕ → List ℕ
time_text None = []
time_text (Some time) = decimal time ++ codes " "

-- the number of a datum, its code and its address
unfoldable pub names_text : LogDatum → List ℕ
names_text d = codes "n=" ++ (decimal d.index ++ (codes " am=" ++ (hex 2 d.am ++ (codes " a=" ++ hex 8 d.address))))

-- a level after the name of its line
abbrev pub level_text : List ℕ → Bool → List ℕ
level_text name is_high = name ++ (if is_high then codes "1" else codes "0")

-- the levels of DS1*, DS0*, A01, LWORD* and WRITE*
unfoldable pub levels_text : LogDatum → List ℕ
levels_text d =
    level_text (codes " ds1=") d.ds1 ++ (level_text (codes " ds0=") d.ds0 ++ (level_text (codes " a01=") d.a01
    ++ (level_text (codes " lword=") d.lword ++ level_text (codes " write=") d.write)))

-- the eight lines of a data lane, which counts from D07 to D00 up
abbrev pub lane : ℕ → ℕ → ℕ
lane lines place = bit_and (lines / 2 ^ (8 * place)) 255

-- the digits of a data lane, or two dashes if one of its lines carries nothing
abbrev pub lane_text : ℕ → ℕ → ℕ → List ℕ
lane_text lines idle place = if lane idle place == 0 then hex 2 (lane lines place) else codes "--"

-- the digits of so many data lanes, from the highest to the lowest
abbrev pub lanes_text : ℕ → ℕ → ℕ → List ℕ
lanes_text lines idle zero = []
lanes_text lines idle (suc place) = lane_text lines idle place ++ lanes_text lines idle place

-- the data lanes of a datum: eight if it is wide, else four
unfoldable pub data_text : LogDatum → List ℕ
data_text d = codes " data=" ++ lanes_text d.lines d.idle (if d.is_wide then 8 else 4)

-- the answer of a datum
abbrev pub answer_text : Bool → List ℕ
answer_text is_acknowledged = if is_acknowledged then codes " dtack" else codes " berr"

-- the slot that drives BBSY*, if it is known
abbrev pub slot_text : Option ℕ → List ℕ
slot_text None = []
slot_text (Some slot) = codes " slot=" ++ decimal slot

-- the answer of a datum and the slot, to the end of the line
unfoldable pub end_text : LogDatum → List ℕ
end_text d = answer_text d.is_acknowledged ++ (slot_text d.slot ++ codes "\n")

-- the line of a datum, with its end
unfoldable pub datum_line : LogDatum → List ℕ
datum_line d = time_text d.time ++ (names_text d ++ (levels_text d ++ (data_text d ++ end_text d)))

-- the direction of an access
abbrev pub direction_text : Bool → List ℕ
direction_text is_write = if is_write then codes "w" else codes "r"

-- the slot, the direction and the offset of an access
unfoldable pub access_text : LogAccess → List ℕ
access_text a =
    codes "lp slot=" ++ (decimal a.slot ++ (codes " " ++ (direction_text a.is_write
    ++ (codes " " ++ (hex 8 a.offset ++ codes " ")))))

-- the bytes of an access by their number
abbrev pub bytes_text : ℕ → ℕ → List ℕ
bytes_text len bytes = if len == 1 then hex 2 bytes else (if len == 2 then hex 4 bytes else hex 8 bytes)

-- the line of an access, with its end
unfoldable pub access_line : LogAccess → List ℕ
access_line a = time_text a.time ++ (access_text a ++ (bytes_text a.len a.bytes ++ codes "\n"))
