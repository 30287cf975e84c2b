-- What a line of a bus log says: its words, one after another. A line that is none of a log says nothing (`None`).
use Rattle.std.specs.Prelude.{ℕ, ◌/◌, nat_le, nat_lt, Bool, true, false, ◌==◌, ◌&&◌, ◌||◌, if◌then◌else◌, List, length, take, codes, Option, Some, None}
use Rattle.std.specs.Option.{option_map, option_and_then}
use Rattle.std.specs.Str.{bytes_eq}
use Rattle.vme_lexer.specs.Numbers.{hex_number}
use Rattle.vme_bus_log.specs.declared.entry.LogDatum.{LogDatum}
use Rattle.vme_bus_log.specs.declared.entry.LogAccess.{LogAccess}
use Rattle.vme_bus_log.specs.declared.entry.LogEntry.{LogEntry}
use Rattle.vme_bus_log.specs.declared.entry.LogEntry.TheVariants as entries
use Rattle.vme_bus_log.specs.declared.parts.Names.{Names}
use Rattle.vme_bus_log.specs.declared.parts.Levels.{Levels}
use Rattle.vme_bus_log.specs.declared.parts.Answer.{Answer}
use Rattle.vme_bus_log.specs.Words.{next_word, decimal}
use Rattle.vme_bus_log.specs.Fields.{reads, level_in, count_in, hex_in, data_in}

-- a code of an address modifier
abbrev pub as_modifier : ℕ × List ℕ → Option (ℕ × List ℕ)
as_modifier am = if nat_lt am.0 64 then Some am else None

-- the code of an address modifier: two digits, at most 3f
abbrev pub modifier_in : List ℕ → Option (ℕ × List ℕ)
modifier_in text = option_and_then as_modifier (hex_in (codes "am=") 2 text)

-- the number of a datum, its code and its address
abbrev pub names_in : List ℕ → Option (Names × List ℕ)
names_in text =
    option_and_then (λ index.
    option_and_then (λ am.
    option_map (λ address. (record { index = index.0; am = am.0; address = address.0 }, address.1))
    (hex_in (codes "a=") 8 am.1)) (modifier_in index.1)) (count_in (codes "n=") text)

-- the levels of DS1*, DS0*, A01, LWORD* and WRITE*
abbrev pub levels_in : List ℕ → Option (Levels × List ℕ)
levels_in text =
    option_and_then (λ ds1.
    option_and_then (λ ds0.
    option_and_then (λ a01.
    option_and_then (λ lword.
    option_map (λ write. (record { ds1 = ds1.0; ds0 = ds0.0; a01 = a01.0; lword = lword.0; write = write.0 }, write.1))
    (level_in (codes "write=") lword.1)) (level_in (codes "lword=") a01.1)) (level_in (codes "a01=") ds0.1))
    (level_in (codes "ds0=") ds1.1)) (level_in (codes "ds1=") text)

-- the word of an answer: whether it is DTACK*
abbrev pub answer_word : List ℕ → Option Bool
answer_word word =
    if bytes_eq word (codes "dtack") then Some true else (if bytes_eq word (codes "berr") then Some false else None)

-- a slot, 1 to 21
abbrev pub as_slot : ℕ × List ℕ → Option (ℕ × List ℕ)
as_slot slot = if nat_le 1 slot.0 && nat_le slot.0 21 then Some slot else None

-- the number of a slot
abbrev pub slot_in : List ℕ → Option (ℕ × List ℕ)
slot_in text = option_and_then as_slot (count_in (codes "slot=") text)

-- something that no word may follow
abbrev pub alone : {X : Type 0} → Option (List ℕ × List ℕ) → X → Option X
alone None it = Some it
alone (Some word) it = None

-- the slot that drives BBSY* at the end of a line, if the line has it
abbrev pub holder_by : List ℕ → Option (List ℕ × List ℕ) → Option (Option ℕ)
holder_by text None = Some None
holder_by text (Some word) = option_and_then (λ slot. alone (next_word slot.1) (Some slot.0)) (slot_in text)

-- the data of a datum, its answer and the slot, to the end of a line
abbrev pub answer_in : List ℕ → Option Answer
answer_in text =
    option_and_then (λ lines.
    option_and_then (λ answer.
    option_map (λ slot. record {
      lines = lines.0.0;
      idle = lines.0.1;
      is_wide = lines.0.2;
      is_acknowledged = answer.0;
      slot = slot;
    })
    (holder_by answer.1 (next_word answer.1))) (option_and_then (reads answer_word) (next_word lines.1)))
    (data_in (codes "data=") text)

-- the datum of its parts
abbrev pub datum_of : Option ℕ → Names → Levels → Answer → LogDatum
datum_of time names levels answer = record {
  time = time;
  index = names.index;
  am = names.am;
  address = names.address;
  ds1 = levels.ds1;
  ds0 = levels.ds0;
  a01 = levels.a01;
  lword = levels.lword;
  write = levels.write;
  lines = answer.lines;
  idle = answer.idle;
  is_wide = answer.is_wide;
  is_acknowledged = answer.is_acknowledged;
  slot = answer.slot;
}

-- the datum of a line from its `n=` on
abbrev pub datum_in : Option ℕ → List ℕ → Option LogEntry
datum_in time text =
    option_and_then (λ names.
    option_and_then (λ levels.
    option_map (λ answer. entries.Datum (datum_of time names.0 levels.0 answer))
    (answer_in levels.1)) (levels_in names.1)) (names_in text)

-- the direction of an access: whether it is a write
abbrev pub direction : List ℕ → Option Bool
direction word = if bytes_eq word (codes "r") then Some false else (if bytes_eq word (codes "w") then Some true else None)

-- one, two or four bytes, and their number
abbrev pub bytes_of : List ℕ → Option (ℕ × ℕ)
bytes_of word =
    if length word == 2 || length word == 4 || length word == 8
    then option_map (λ bytes. (length word / 2, bytes)) (hex_number (length word) word) else None

-- the slot, the direction and the offset of an access
abbrev pub access_names_in : List ℕ → Option ((ℕ × Bool × ℕ) × List ℕ)
access_names_in text =
    option_and_then (λ slot.
    option_and_then (λ write.
    option_map (λ offset. ((slot.0, write.0, offset.0), offset.1))
    (option_and_then (reads (hex_number 8)) (next_word write.1))) (option_and_then (reads direction) (next_word slot.1)))
    (slot_in text)

-- the bytes of an access and their number, to the end of a line
abbrev pub access_bytes_in : List ℕ → Option (ℕ × ℕ)
access_bytes_in text =
    option_and_then (λ bytes. alone (next_word bytes.1) bytes.0) (option_and_then (reads bytes_of) (next_word text))

-- the access of its parts
abbrev pub access_of : Option ℕ → ℕ × Bool × ℕ → ℕ × ℕ → LogAccess
access_of time names bytes = record {
  time = time;
  slot = names.0;
  is_write = names.1;
  offset = names.2;
  len = bytes.0;
  bytes = bytes.1;
}

-- the access of a line after its `lp`
abbrev pub access_in : Option ℕ → List ℕ → Option LogEntry
access_in time text =
    option_and_then (λ names. option_map (λ bytes. entries.Access (access_of time names.0 bytes)) (access_bytes_in names.1))
    (access_names_in text)

-- the access of a line from its `lp` on, by that word
abbrev pub said_access : Option ℕ → Option (List ℕ × List ℕ) → Option LogEntry
said_access time None = None
said_access time (Some word) = access_in time word.1

-- a line after its time, by its first word
abbrev pub said_by : Option ℕ → List ℕ → Option (List ℕ × List ℕ) → Option LogEntry
said_by time text None = None
said_by time text (Some word) =
    if bytes_eq word.0 (codes "lp") then access_in time word.1
    else (if bytes_eq (take 2 word.0) (codes "n=") then datum_in time text else None)

-- a line that begins with a number, which is its time
abbrev pub timed : Option ℕ → List ℕ → List ℕ × List ℕ → Option LogEntry
timed None text word = said_by None text (Some word)
timed (Some time) text word = said_by (Some time) word.1 (next_word word.1)

-- a line by its first word; a blank one says that there is nothing
abbrev pub line_by : List ℕ → Option (List ℕ × List ℕ) → Option LogEntry
line_by text None = Some entries.Nothing
line_by text (Some word) = timed (decimal word.0) text word

-- what a line of a bus log says, without its end and its comment
abbrev pub entry_of : List ℕ → Option LogEntry
entry_of text = line_by text (next_word text)
