-- The words of a line, apart by blanks, and words read as numbers.
use Rattle.std.specs.Prelude.{ℕ, ◌+◌, ◌-◌, ◌*◌, ◌^◌, nat_le, nat_lt, Bool, not, ◌==◌, ◌&&◌, ◌||◌, if◌then◌else◌, List, [], ◌∷◌, length, take, drop, Option, Some, None}
use Rattle.std.specs.List.{position, position_or_len}
use Rattle.std.specs.Option.{option_and_then, unwrap_or}

-- whether a byte is a blank: a space, a tab, a line feed, a vertical tab, a form feed or a carriage return
abbrev pub is_blank : ℕ → Bool
is_blank b = b == 32 || nat_le 9 b && nat_le b 13

-- a text from its first byte on that is no blank
abbrev pub from_word : List ℕ → List ℕ
from_word text = drop (position_or_len (λ b. not (is_blank b)) text) text

-- the number of bytes of a text before the first blank
abbrev pub word_len : List ℕ → ℕ
word_len text = unwrap_or (position is_blank text) (length text)

-- the bytes before the first blank of a text, and the text from there on
abbrev pub cut_word : List ℕ → List ℕ × List ℕ
cut_word text = (take (word_len text) text, drop (word_len text) text)

-- the first word of a text and the text after it, if it has one
abbrev pub next_word : List ℕ → Option (List ℕ × List ℕ)
next_word text = if length (from_word text) == 0 then None else Some (cut_word (from_word text))

-- the value of a decimal digit
abbrev pub decimal_digit : ℕ → Option ℕ
decimal_digit c = if nat_le 48 c && nat_le c 57 then Some (c - 48) else None

-- a number, if it is below a bound
abbrev pub below : ℕ → ℕ → Option ℕ
below bound n = if nat_lt n bound then Some n else None

-- a number with one more digit, if it is below 2^64
abbrev pub with_digit : ℕ → ℕ → Option ℕ
with_digit n d = below (2 ^ 64) (10 * n + d)

-- the number below 2^64 that decimal digits spell after digits that spell n
abbrev pub decimal_from : ℕ → List ℕ → Option ℕ
decimal_from n [] = Some n
decimal_from n (c ∷ cs) =
    option_and_then (λ d. option_and_then (λ m. decimal_from m cs) (with_digit n d)) (decimal_digit c)

-- the number below 2^64 that a word of one decimal digit or more spells
abbrev pub decimal : List ℕ → Option ℕ
decimal word = if length word == 0 then None else decimal_from 0 word
