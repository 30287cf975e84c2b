-- Lines by their first word: the form that it names, and the line that the words after it spell.
use Rattle.std.specs.Prelude.{ℕ, true, List, [], ◌∷◌, drop, find, slice_get, Option, Some, None, Result, Ok, Err}
use Rattle.std.specs.Option.{ok_or}
use Rattle.std.specs.Str.{bytes_eq}
use Rattle.vme_grammar.specs.declared.line.Line.{Line}
use Rattle.vme_grammar.specs.declared.fault.LineFault.{LineFault}
use Rattle.vme_grammar.specs.declared.fault.LineFault.TheVariants.{UnknownWord, WordCount}
use Rattle.vme_grammar.specs.declared.form.LineForm.{LineForm}
use Rattle.vme_grammar.specs.declared.form.LineForm.TheVariants.{Read, Write, BlockRead, BlockWrite, BlockFill, Modify, LocalRead, LocalWrite, LocalModify, Await, Lock, Unlock, Put, Take}
use Rattle.vme_grammar.specs.declared.function.Function.{Function}
use Rattle.vme_grammar.specs.Forms.{name_of, functions, places, fields_of, forms, line_at}
use Rattle.vme_grammar.specs.Grammar.{◌>>=◌, matches_fixed, operands_of}

-- the first form that begins with a word
unfoldable pub form_named : List ℕ → Option LineForm
form_named word = find (λ form. matches_fixed true (places form) (word ∷ [])) forms

-- the function that a word names, if there is a word
unfoldable pub function_of : Option (List ℕ) → Result Function LineFault
function_of None = Err WordCount
function_of (Some word) = ok_or (find (λ function. bytes_eq word (name_of function)) functions) UnknownWord

-- a form with the function that the words after the first name at its place, if it has one
abbrev pub with_function : LineForm → List (List ℕ) → Result LineForm LineFault
with_function (Modify first) words = do
  function ← function_of (slice_get words 3)
  Ok (Modify function)
with_function (LocalModify first) words = do
  function ← function_of (slice_get words 2)
  Ok (LocalModify function)
with_function Read words = Ok Read
with_function Write words = Ok Write
with_function BlockRead words = Ok BlockRead
with_function BlockWrite words = Ok BlockWrite
with_function BlockFill words = Ok BlockFill
with_function LocalRead words = Ok LocalRead
with_function LocalWrite words = Ok LocalWrite
with_function Await words = Ok Await
with_function Lock words = Ok Lock
with_function Unlock words = Ok Unlock
with_function Put words = Ok Put
with_function Take words = Ok Take

-- the line of a form, by the words after the first
unfoldable pub line_by : LineForm → List (List ℕ) → Result Line LineFault
line_by form words = do
  operands ← operands_of (drop 1 (fields_of form)) words
  Ok (line_at form operands)

-- the line of a form whose function the words after the first name
unfoldable pub line_named : LineForm → List (List ℕ) → Result Line LineFault
line_named first words = do
  form ← with_function first words
  line_by form words
