-- The grammar of a line: which lines are read as what, and which refusal any other line has.
use Rattle.std.specs.Prelude.{◌≡◌, ℕ, nat_lt, ◌==◌, ◌&&◌, if◌then◌else◌, Bool, true, false, not, List, [], ◌∷◌, length, drop, find, slice_get, Option, Some, None, Result, Ok, Err}
use Rattle.std.specs.List.{list_any}
use Rattle.std.specs.Str.{bytes_eq}
use Rattle.std.specs.Option.{ok_or, option_map_or}
use Rattle.vme_grammar.specs.declared.fault.LineFault.{LineFault}
use Rattle.vme_grammar.specs.declared.fault.LineFault.TheVariants.{LineTooLong, UnknownWord, WordCount}
use Rattle.vme_grammar.specs.declared.form.LineForm.{LineForm}
use Rattle.vme_grammar.specs.declared.line.Line.{Line}
use Rattle.vme_grammar.specs.declared.line.Line.TheVariants.{Bus, Local, Await, Lock, Unlock, Put, Take}
use Rattle.vme_memory.specs.declared.command.BoardCmd.TheVariants.{LocalRead, LocalWrite, LocalModify, Cycle}
use Rattle.vme_lexer.specs.Words.{words_of}
use Rattle.vme_grammar.specs.Operands.{Operands, no_operands}
use Rattle.vme_grammar.specs.Fields.{Field, with_field, fault_of}
use Rattle.vme_grammar.specs.Forms.{Place, Word, Of, places, fields_of, forms, line_at}

infixl 10 ◌>>=◌
-- one check after another: the first refusal is the result
abbrev pub ◌>>=◌ : {A B : Type 0} → Result A LineFault → (A → Result B LineFault) → Result B LineFault
(Ok x) >>= f = f x
(Err fault) >>= f = Err fault

-- the given refusal, if the test holds
abbrev pub refuse_line : Bool → LineFault → Result (Unit {0}) LineFault
refuse_line true fault = Err fault
refuse_line false fault = Ok tt

-- whether words match the fixed words among some places; an absent word counts as `absent`
abbrev pub matches_fixed : Bool → List Place → List (List ℕ) → Bool
matches_fixed absent [] words = true
matches_fixed absent (Word text ∷ more) words =
    option_map_or (λ word. bytes_eq word text) (slice_get words 0) absent && matches_fixed absent more (drop 1 words)
matches_fixed absent (Of field ∷ more) words = matches_fixed absent more (drop 1 words)

-- the form of a line: UnknownWord if the words match no form, absent words counted as matches; WordCount if they match
-- a form only with absent words
unfoldable pub form_of : List (List ℕ) → Result LineForm LineFault
form_of words = do
  _ ← refuse_line (not (list_any (λ form. matches_fixed true (places form) words) forms)) UnknownWord
  ok_or (find (λ form. matches_fixed false (places form) words) forms) WordCount

-- the operands that fields give, one word a field; the refusal is that of the first word from the left that is
-- malformed
abbrev pub fields_read : List Field → List (List ℕ) → Operands → Result Operands LineFault
fields_read [] words o = Ok o
fields_read (field ∷ fields) [] o = Ok o
fields_read (field ∷ fields) (word ∷ words) o = do
  operands ← ok_or (with_field field word o) (fault_of field)
  fields_read fields words operands

-- the operands that fields give; a wrong number of words is refused before any malformed word
unfoldable pub operands_of : List Field → List (List ℕ) → Result Operands LineFault
operands_of fields words = do
  _ ← refuse_line (not (length words == length fields)) WordCount
  fields_read fields words no_operands

-- the line that words spell, by their form
unfoldable pub line_of_words : List (List ℕ) → Result Line LineFault
line_of_words words = do
  form ← form_of words
  operands ← operands_of (fields_of form) words
  Ok (line_at form operands)

-- the line that words spell, if there are any words
abbrev pub line_if_any : List (List ℕ) → Result (Option Line) LineFault
line_if_any [] = Ok None
line_if_any (word ∷ words) = do
  line ← line_of_words (word ∷ words)
  Ok (Some line)

-- the line that a text is read as, None for a line without words, or its refusal
unfoldable pub line_of : List ℕ → Result (Option Line) LineFault
line_of line = if nat_lt 80 (length line) then Err LineTooLong else line_if_any (words_of line)

-- words fill places, one word a place: a fixed word equals its place, and a field's word adds what it spells
pub data Fill : List Place → List (List ℕ) → Operands → Operands → Type 0 where
  no_place : {o : Operands} → Fill [] [] o o
  word : {more : List Place} {words : List (List ℕ)} {text : List ℕ} {o given : Operands}
      → Fill more words o given → Fill (Word text ∷ more) (text ∷ words) o given
  field : {more : List Place} {words : List (List ℕ)} {text : List ℕ} {o next given : Operands} {kind : Field}
      → with_field kind text o ≡ Some next → Fill more words next given → Fill (Of kind ∷ more) (text ∷ words) o given

-- words spell a line: they fill the places of a form
pub record Spell (words : List (List ℕ)) (line : Line) : Type 0 where
  pub form : LineForm
  pub operands : Operands
  pub places_filled : Fill (places form) words no_operands operands
  pub same : line ≡ line_at form operands

-- a line that a script can have: none commands the local port to do a bus cycle
abbrev pub IsOwnLine : Line → Type 0
IsOwnLine (Bus request) = Unit {0}
IsOwnLine (Local (LocalRead offset n)) = Unit {0}
IsOwnLine (Local (LocalWrite offset bytes)) = Unit {0}
IsOwnLine (Local (LocalModify offset n f)) = Unit {0}
IsOwnLine (Local (Cycle signals at f)) = ⊥
IsOwnLine (Await am addr bytes) = Unit {0}
IsOwnLine (Lock am addr) = Unit {0}
IsOwnLine (Unlock am addr) = Unit {0}
IsOwnLine (Put mailbox number) = Unit {0}
IsOwnLine (Take mailbox) = Unit {0}
