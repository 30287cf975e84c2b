-- The identifiers of variables, as numbers.
use Rattle.std.specs.Prelude.{ℕ, ◌+◌, ◌-◌, ◌*◌, ◌^◌, nat_le, nat_lt, ◌||◌, if◌then◌else◌, List, [], ◌∷◌}

-- the number of all identifiers of more than nine characters, or with one that is not printable
abbrev pub no_identifier : ℕ
no_identifier = 2 ^ 64 - 1

-- an identifier with one more character
abbrev pub with_character : ℕ → ℕ → ℕ
with_character n c = if nat_le (95 ^ 8) n || nat_lt c 33 || nat_lt 126 c then no_identifier else n * 95 + (c - 32)

-- an identifier with more characters
abbrev pub with_characters : ℕ → List ℕ → ℕ
with_characters n [] = n
with_characters n (c ∷ cs) = with_characters (with_character n c) cs

-- the identifier that a word is
abbrev pub identifier_of : List ℕ → ℕ
identifier_of word = with_characters 0 word
