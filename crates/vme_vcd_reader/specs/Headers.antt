-- The header of a dump, word by word: IEEE 1364-2005, clause 18.2.
use Rattle.std.specs.Prelude.{ℕ, ◌+◌, ◌-◌, ◌*◌, ◌^◌, nat_le, nat_lt, min, Bool, true, false, ◌==◌, ◌&&◌, if◌then◌else◌, List, [], ◌∷◌, ◌++◌, length, slice_index, unwrap_or, bytes_eq, codes, Option, Some, None, Result, Ok, Err}
use Rattle.std.specs.Option.{option_and_then}
use Rattle.vme_vcd_reader.specs.declared.fault.VcdFault.{VcdFault}
use Rattle.vme_vcd_reader.specs.declared.fault.VcdFault.TheVariants as faults
use Rattle.vme_vcd_reader.specs.declared.header.Next.{Next}
use Rattle.vme_vcd_reader.specs.declared.header.Next.TheVariants as nexts
use Rattle.vme_vcd_reader.specs.declared.variable.Mapped.{Mapped}
use Rattle.vme_vcd_reader.specs.Names.{identifier_of, no_identifier}
use Rattle.vme_vcd_reader.specs.Words.{is_blank}

-- a header as far as it is read: the begin of a word, and what the word is; the names of the open scopes, the innermost first,
-- and the number of scopes that were opened; the size, the identifier and the name of the last variable, as far as they are read
pub record Heading : Type 0 where
  pub word : List ℕ
  pub next : Next
  pub scopes : List (List ℕ)
  pub opened : ℕ
  pub size : ℕ
  pub identifier : ℕ
  pub name : List ℕ

-- what becomes of a header with a word: it goes on, and a variable is declared or none; it ends; or no dump has the word there
pub data Outcome : Type 0 where
  Goes : Heading → Outcome
  Declares : Heading → Outcome
  Ends : Outcome
  Rejects : VcdFault → Outcome

-- a header before its first byte
abbrev pub beginning : Heading
beginning = record { word = []; next = nexts.Keyword; scopes = []; opened = 0; size = 0; identifier = 0; name = [] }

-- a header that goes on with another kind of word
abbrev pub expecting : Heading → Next → Outcome
expecting h next = Goes (record h { next = next })

-- more bytes than are kept of a word
abbrev pub is_long : List ℕ → Bool
is_long word = nat_lt 255 (length word)

-- whether a word is read: not the kind of a variable, and none of a command that is skipped
abbrev pub is_read : Next → Bool
is_read nexts.Skipped = false
is_read nexts.VariableKind = false
is_read next = true

-- the innermost scope ends
abbrev pub scope_ended : Heading → List (List ℕ) → Outcome
scope_ended h [] = Rejects faults.NoScope
scope_ended h (name ∷ names) = Goes (record h { next = nexts.Skipped; scopes = names })

-- a scope is opened, of which 64 may be open
abbrev pub scope_opened : Heading → Outcome
scope_opened h =
    if nat_le 64 (length h.scopes) then Rejects faults.ScopesTooDeep
    else Goes (record h { next = nexts.Skipped; scopes = h.word ∷ h.scopes; opened = min (h.opened + 1) (2 ^ 64 - 1) })

-- what the word after a keyword is: other commands than these three, and $upscope, are skipped
abbrev pub after_keyword : List ℕ → Option Next
after_keyword word =
    if bytes_eq word (codes "$scope") then Some nexts.ScopeKind else
    (if bytes_eq word (codes "$var") then Some nexts.VariableKind else
    (if bytes_eq word (codes "$enddefinitions") then Some nexts.HeaderEnd else
    (if slice_index word 0 == 36 then Some nexts.Skipped else None)))

-- a header that goes on after a keyword, if it is one
abbrev pub goes_on : Heading → Option Next → Outcome
goes_on h None = Rejects faults.NoKeyword
goes_on h (Some next) = expecting h next

-- a keyword: $upscope ends a scope
abbrev pub keyword_read : Heading → Outcome
keyword_read h = if bytes_eq h.word (codes "$upscope") then scope_ended h h.scopes else goes_on h (after_keyword h.word)

-- a number with one more decimal digit, if it is below 2^16
abbrev pub with_small_digit : ℕ → ℕ → Option ℕ
with_small_digit n c =
    if nat_le 48 c && nat_le c 57 && nat_lt (10 * n + (c - 48)) (2 ^ 16) then Some (10 * n + (c - 48)) else None

-- the number below 2^16 that decimal digits spell after digits that spell n
abbrev pub small_from : ℕ → List ℕ → Option ℕ
small_from n [] = Some n
small_from n (c ∷ cs) = option_and_then (λ m. small_from m cs) (with_small_digit n c)

-- the number below 2^16 that one to five decimal digits spell
abbrev pub small_number : List ℕ → Option ℕ
small_number digits = if nat_le 1 (length digits) && nat_le (length digits) 5 then small_from 0 digits else None

-- the end of $var: a variable whose identifier has no number is none that is read
abbrev pub variable_ended : Heading → Outcome
variable_ended h =
    if is_long h.name then Rejects faults.WordTooLong else
    (if length h.name == 0 then Rejects faults.BadVariable else
    (if h.identifier == no_identifier then expecting h nexts.Keyword else Declares (record h { next = nexts.Keyword })))

-- $end, by what the word is
abbrev pub end_read : Heading → Next → Outcome
end_read h nexts.Keyword = expecting h nexts.Skipped
end_read h nexts.Skipped = expecting h nexts.Keyword
end_read h nexts.HeaderEnd = Ends
end_read h nexts.Name = variable_ended h
end_read h next = Rejects faults.BadVariable

-- another word, by what it is: a size that is no number below 2^16 is that of no line
abbrev pub other_read : Heading → Next → Outcome
other_read h nexts.Keyword = keyword_read h
other_read h nexts.Skipped = Goes h
other_read h nexts.ScopeKind = expecting h nexts.ScopeName
other_read h nexts.ScopeName = scope_opened h
other_read h nexts.VariableKind = expecting h nexts.Size
other_read h nexts.Size = Goes (record h { next = nexts.Identifier; size = unwrap_or (small_number h.word) (2 ^ 16 - 1) })
other_read h nexts.Identifier = Goes (record h { next = nexts.Name; identifier = identifier_of h.word; name = [] })
other_read h nexts.Name = Goes (record h { name = h.name ++ h.word })
other_read h nexts.HeaderEnd = Rejects faults.NoKeyword

-- a word
abbrev pub word_read : Heading → Outcome
word_read h =
    if is_long h.word && is_read h.next then Rejects faults.WordTooLong else
    (if bytes_eq h.word (codes "$end") then end_read h h.next else other_read h h.next)

-- the same before the next word
abbrev pub cleared : Outcome → Outcome
cleared (Goes h) = Goes (record h { word = [] })
cleared (Declares h) = Declares (record h { word = [] })
cleared Ends = Ends
cleared (Rejects fault) = Rejects fault

-- a blank after the begin of a word: it ends the word, if there is one
abbrev pub blank_read : Heading → List ℕ → Outcome
blank_read h [] = Goes h
blank_read h (c ∷ cs) = cleared (word_read h)

-- a byte
abbrev pub byte_read : Heading → ℕ → Outcome
byte_read h b = if is_blank b then blank_read h h.word else Goes (record h { word = h.word ++ b ∷ [] })

-- why a reader does not read on: no dump has the word there, or an allocation failed
abbrev pub fault_of : Outcome → VcdFault
fault_of (Rejects fault) = fault
fault_of outcome = faults.Memory

-- why no dump ends here, if none does: by what becomes of its header with a last blank, and by its lines
abbrev pub header_end : Outcome → Result (List (ℕ × Mapped)) VcdFault → Option VcdFault
header_end (Rejects fault) lines = Some fault
header_end Ends (Err fault) = Some fault
header_end Ends (Ok lines) = None
header_end (Goes h) lines = Some faults.EndsInHeader
header_end (Declares h) lines = Some faults.EndsInHeader
