-- The words of a read-modify-write, in the order in which they are read.
use Rattle.std.specs.Prelude.{ℕ, ◌==◌, not, List, [], ◌∷◌, length, slice_get, Option, Some, None, Result, Ok}
use Rattle.std.specs.Option.{ok_or, option_and_then}
use Rattle.arrayvec.specs.ArrayVec.{ArrayVec}
use Rattle.vme_cycle.specs.declared.modify.Modify as modify
use Rattle.vme_cycle.specs.declared.modify.Modify.TheVariants as modifies
use Rattle.vme_cycle.specs.declared.request.Request.TheVariants as requests
use Rattle.vme_memory.specs.declared.command.BoardCmd.TheVariants as commands
use Rattle.vme_grammar.specs.declared.line.Line.{Line}
use Rattle.vme_grammar.specs.declared.line.Line.TheVariants as lines
use Rattle.vme_grammar.specs.declared.fault.LineFault.{LineFault}
use Rattle.vme_grammar.specs.declared.fault.LineFault.TheVariants.{WordCount, BadCode, BadAddress, BadNumber, BadBytes}
use Rattle.vme_grammar.specs.declared.function.Function.{Function}
use Rattle.vme_grammar.specs.declared.function.Function.TheVariants.{Set, Exchange, Add, Compare}
use Rattle.vme_lexer.specs.Numbers.{hex_number, small_number, local_number, exact_bytes}
use Rattle.vme_grammar.specs.Grammar.{◌>>=◌, refuse_line}
use Rattle.vme_grammar.specs.Naming.{function_of}

-- the first three words, and the words after them
abbrev pub three_and_more : List (List ℕ) → Option (List ℕ × List ℕ × List ℕ × List (List ℕ))
three_and_more [] = None
three_and_more (a ∷ []) = None
three_and_more (a ∷ b ∷ []) = None
three_and_more (a ∷ b ∷ c ∷ more) = Some (a, b, c, more)

-- the first four words, and the words after them
abbrev pub four_and_more : List (List ℕ) → Option (List ℕ × List ℕ × List ℕ × List ℕ × List (List ℕ))
four_and_more [] = None
four_and_more (a ∷ []) = None
four_and_more (a ∷ b ∷ []) = None
four_and_more (a ∷ b ∷ c ∷ []) = None
four_and_more (a ∷ b ∷ c ∷ d ∷ more) = Some (a, b, c, d, more)

-- the code and the address that two words spell: AM ADDR
unfoldable pub field_place : List ℕ → List ℕ → Result (ℕ × ℕ) LineFault
field_place am addr = do
  code ← ok_or (hex_number 2 am) BadCode
  address ← ok_or (hex_number 8 addr) BadAddress
  Ok (code, address)

-- the number of data that a function takes
abbrev pub operand_count : Function → ℕ
operand_count Set = 0
operand_count Exchange = 1
operand_count Add = 1
operand_count Compare = 2

-- the datum of n bytes that a word spells, if there is a word
abbrev pub operand : ℕ → Option (List ℕ) → Result (ArrayVec ℕ) LineFault
operand n word = do
  bytes ← ok_or (option_and_then (λ hex. exact_bytes n hex) word) BadBytes
  Ok (record { items = bytes })

-- a function with its data, of n bytes each
unfoldable pub modify_of : Function → ℕ → List (List ℕ) → Result modify.Modify LineFault
modify_of Set n operands = Ok modifies.Set
modify_of Exchange n operands = do
  put ← operand n (slice_get operands 0)
  Ok (modifies.Exchange put)
modify_of Add n operands = do
  by ← operand n (slice_get operands 0)
  Ok (modifies.Add by)
modify_of Compare n operands = do
  expect ← operand n (slice_get operands 0)
  put ← operand n (slice_get operands 1)
  Ok (modifies.Compare expect put)

-- the line that the words after `m` spell: AM ADDR N, and a function's name and data
unfoldable pub modify_line : List (List ℕ) → Result Line LineFault
modify_line words = do
  parts ← ok_or (four_and_more words) WordCount
  function ← function_of (Some parts.3)
  _ ← refuse_line (not (length parts.4 == operand_count function)) WordCount
  place ← field_place parts.0 parts.1
  n ← ok_or (small_number parts.2) BadNumber
  f ← modify_of function n parts.4
  Ok (lines.Bus (requests.Modify place.0 place.1 n f))

-- the line that the words after `lm` spell: OFF N, and a function's name and data
unfoldable pub local_modify_line : List (List ℕ) → Result Line LineFault
local_modify_line words = do
  parts ← ok_or (three_and_more words) WordCount
  function ← function_of (Some parts.2)
  _ ← refuse_line (not (length parts.3 == operand_count function)) WordCount
  offset ← ok_or (hex_number 8 parts.0) BadAddress
  n ← ok_or (local_number parts.1) BadNumber
  f ← modify_of function n parts.3
  Ok (lines.Local (commands.LocalModify offset n f))
