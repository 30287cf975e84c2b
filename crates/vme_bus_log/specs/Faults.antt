-- What is wrong with a line that is none of a bus log: the first of its words that is not there, or is not the one that it has
-- to be.
use Rattle.std.specs.Prelude.{ℕ, if◌then◌else◌, List, [], ◌∷◌, ◌++◌, take, codes, Option, Some, None, is_some, Result, Ok, Err, ok_or}
use Rattle.std.specs.Option.{option_map, option_and_then}
use Rattle.std.specs.Str.{bytes_eq}
use Rattle.vme_lexer.specs.Numbers.{hex_number}
use Rattle.vme_bus_log.specs.declared.entry.LogEntry.{LogEntry}
use Rattle.vme_bus_log.specs.declared.fault.LogFault.{LogFault}
use Rattle.vme_bus_log.specs.declared.fault.LogFault.TheVariants as faults
use Rattle.vme_bus_log.specs.Entries.{answer_word, bytes_of, direction, entry_of, modifier_in, slot_in}
use Rattle.vme_bus_log.specs.Fields.{count_in, data_in, hex_in, level_in, reads}
use Rattle.vme_bus_log.specs.Words.{decimal, next_word}

-- what is wrong with a line: it is too long, it has no first word of an entry, it ends before the word with a name, it has
-- another word in its place, or a word too many
pub data Fault : Type 0 where
  TooLong : Fault
  NoEntry : Fault
  Missing : List ℕ → Fault
  BadWord : List ℕ → Fault
  MoreWords : Fault

-- what a reader reports
abbrev pub reported : LogFault → Fault
reported faults.LineTooLong = TooLong
reported faults.NoEntry = NoEntry
reported (faults.Missing name) = Missing name.now
reported (faults.BadWord name) = BadWord name.now
reported faults.MoreWords = MoreWords

-- a word of a line: its name, and the text after it, if a text begins with it
pub record Field : Type 0 where
  pub name : List ℕ
  pub after : List ℕ → Option (List ℕ)

-- a word that says something, by how it is read
abbrev pub field : {X : Type 0} → List ℕ → (List ℕ → Option (X × List ℕ)) → Field
field name read = record { name = name; after = λ text. option_map (λ it. it.1) (read text) }

-- a word that something reads
abbrev pub word_by : {X : Type 0} → (List ℕ → Option X) → List ℕ → Option (X × List ℕ)
word_by read text = option_and_then (reads read) (next_word text)

-- what is wrong with a text that does not begin with the word with a name: it has another one, or none
abbrev pub word_fault : List ℕ → List ℕ → Fault
word_fault name text = if is_some (next_word text) then BadWord name else Missing name

-- what is wrong with a text that has to begin with a word, before other things, by the text after it
abbrev pub field_fault : List ℕ → List ℕ → (List ℕ → Fault) → Option (List ℕ) → Fault
field_fault name text others None = word_fault name text
field_fault name text others (Some rest) = others rest

-- what is wrong with a text that is not some words before an end: the first word that it does not have, or else its end
abbrev pub words_fault : List Field → (List ℕ → Fault) → List ℕ → Fault
words_fault [] end text = end text
words_fault (f ∷ fields) end text = field_fault f.name text (words_fault fields end) (f.after text)

-- what is wrong with a text that is not these words alone
abbrev pub line_fault : List Field → List ℕ → Fault
line_fault fields text = words_fault fields (λ rest. MoreWords) text

-- the words of a datum before the levels of lines
abbrev pub name_words : List Field
name_words =
    field (codes "n=") (count_in (codes "n=")) ∷ field (codes "am=") modifier_in ∷ field (codes "a=") (hex_in (codes "a=") 8) ∷ []

-- those of levels
abbrev pub level_words : List Field
level_words =
    field (codes "ds1=") (level_in (codes "ds1=")) ∷ field (codes "ds0=") (level_in (codes "ds0="))
    ∷ field (codes "a01=") (level_in (codes "a01=")) ∷ field (codes "lword=") (level_in (codes "lword="))
    ∷ field (codes "write=") (level_in (codes "write=")) ∷ []

-- a slot
abbrev pub slot_words : List Field
slot_words = field (codes "slot=") slot_in ∷ []

-- the data, the answer and a slot
abbrev pub answer_words : List Field
answer_words =
    field (codes "data=") (data_in (codes "data=")) ∷ field (codes "dtack") (word_by answer_word) ∷ slot_words

-- the words of a datum
abbrev pub datum_words : List Field
datum_words = name_words ++ (level_words ++ answer_words)

-- the slot, the direction and the offset of an access
abbrev pub access_name_words : List Field
access_name_words =
    field (codes "slot=") slot_in ∷ field (codes "w") (word_by direction) ∷ field (codes "OFFSET") (word_by (hex_number 8)) ∷ []

-- the bytes of an access
abbrev pub byte_words : List Field
byte_words = field (codes "BYTES") (word_by bytes_of) ∷ []

-- what is wrong with a line after its time, by its first word: `lp` begins an access, and `n=` a datum
abbrev pub said_fault : List ℕ → Option (List ℕ × List ℕ) → Fault
said_fault text None = NoEntry
said_fault text (Some word) =
    if bytes_eq word.0 (codes "lp") then line_fault (access_name_words ++ byte_words) word.1
    else (if bytes_eq (take 2 word.0) (codes "n=") then line_fault datum_words text else NoEntry)

-- what is wrong with a line that begins with a word, which may be its time
abbrev pub timed_fault : Option ℕ → List ℕ → List ℕ × List ℕ → Fault
timed_fault None text word = said_fault text (Some word)
timed_fault (Some time) text word = said_fault word.1 (next_word word.1)

-- what is wrong with a line that has a word, without its end and its comment
abbrev pub entry_fault : List ℕ → Option (List ℕ × List ℕ) → Fault
entry_fault text None = NoEntry
entry_fault text (Some word) = timed_fault (decimal word.0) text word

-- what a line says, without its end and its comment, or what is wrong with it
abbrev pub entry_says : List ℕ → Result LogEntry Fault
entry_says text = ok_or (entry_of text) (entry_fault text (next_word text))

-- the same as a reader returns it
abbrev pub returned : Result LogEntry LogFault → Result LogEntry Fault
returned (Ok entry) = Ok entry
returned (Err fault) = Err (reported fault)
