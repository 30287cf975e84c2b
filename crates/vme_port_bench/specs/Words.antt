-- Defines how the program reads the words of the command line.
use Rattle.std.specs.Prelude.{ℕ, ◌<◌, ◌^◌, List, [], ◌∷◌, String, string_bytes}
use Rattle.std.specs.declared.alloc.Global.{Global}
use Rattle.std.specs.Str.Parse.{IsNumeral, digits_value, without_leading_plus}
use Rattle.vme_port_bench.specs.declared.arguments.Arguments.{Arguments}

-- the number that a word of decimal digits denotes; a plus sign may precede the digits
abbrev pub number_of : String Global → ℕ
number_of word = digits_value 10 (without_leading_plus (string_bytes word))

-- a word denotes a number of at most 64 bits
abbrev pub IsNumber : String Global → Type 0
IsNumber word = IsNumeral 10 (without_leading_plus (string_bytes word)) × (number_of word < 2 ^ 64)

-- two words, each a number, follow the name of the program
abbrev pub AreTwoNumbers : List (String Global) → Type 0
AreTwoNumbers (name ∷ threads ∷ calls ∷ []) = IsNumber threads × IsNumber calls
AreTwoNumbers words = ⊥

-- the arguments: the number of threads, and the number of calls of each thread
abbrev pub arguments_of : List (String Global) → Arguments
arguments_of (name ∷ threads ∷ calls ∷ []) = record { threads = number_of threads; calls = number_of calls }
arguments_of words = record { threads = 0; calls = 0 }
