-- The fields of a line, each of which stands at the begin of a text: what it says, and the text after it.
use Rattle.std.specs.Prelude.{ℕ, ◌+◌, ◌*◌, ◌^◌, ◌%◌, Bool, true, false, ◌==◌, ◌||◌, if◌then◌else◌, List, [], ◌∷◌, length, take, drop, codes, Option, Some, None}
use Rattle.std.specs.Option.{option_map, option_and_then}
use Rattle.std.specs.Str.{bytes_eq}
use Rattle.vme_lexer.specs.Numbers.{hex_digit, hex_number}
use Rattle.vme_bus_log.specs.Words.{next_word, below, decimal}

-- what a word says, and the text after it
abbrev pub reads : {X : Type 0} → (List ℕ → Option X) → List ℕ × List ℕ → Option (X × List ℕ)
reads read word = option_map (λ said. (said, word.1)) (read word.0)

-- what follows a name at the begin of a word
abbrev pub after_name : List ℕ → List ℕ → Option (List ℕ)
after_name name word = if bytes_eq (take (length name) word) name then Some (drop (length name) word) else None

-- the first word of a text without the name that it begins with
abbrev pub value_in : List ℕ → List ℕ → Option (List ℕ × List ℕ)
value_in name text = option_and_then (reads (after_name name)) (next_word text)

-- a level: 0 or 1
abbrev pub level : List ℕ → Option Bool
level word = if bytes_eq word (codes "0") then Some false else (if bytes_eq word (codes "1") then Some true else None)

-- a level with a name
abbrev pub level_in : List ℕ → List ℕ → Option (Bool × List ℕ)
level_in name text = option_and_then (reads level) (value_in name text)

-- a decimal number below 2^32
abbrev pub count : List ℕ → Option ℕ
count word = option_and_then (below (2 ^ 32)) (decimal word)

-- a decimal number with a name
abbrev pub count_in : List ℕ → List ℕ → Option (ℕ × List ℕ)
count_in name text = option_and_then (reads count) (value_in name text)

-- a number of so many hexadecimal digits with a name
abbrev pub hex_in : List ℕ → ℕ → List ℕ → Option (ℕ × List ℕ)
hex_in name digits text = option_and_then (reads (hex_number digits)) (value_in name text)

-- whether a byte stands for four lines that carry nothing, as a simulator prints them: - z Z x X u U w W
abbrev pub is_idle : ℕ → Bool
is_idle b = b == 45 || b == 122 || b == 90 || b == 120 || b == 88 || b == 117 || b == 85 || b == 119 || b == 87

-- the levels of four lines by a digit, and which of them carry nothing
abbrev pub four_by : Bool → Option ℕ → Option (ℕ × ℕ)
four_by idle (Some d) = Some (d, 0)
four_by true None = Some (0, 15)
four_by false None = None

-- the levels of 64 lines with those of four more below them
abbrev pub shifted : ℕ → ℕ → ℕ
shifted lines four = (16 * lines + four) % 2 ^ 64

-- the levels of lines and which of them carry nothing, by digits after others
abbrev pub lines_from : ℕ → ℕ → List ℕ → Option (ℕ × ℕ)
lines_from lines idle [] = Some (lines, idle)
lines_from lines idle (b ∷ bs) =
    option_and_then (λ four. lines_from (shifted lines four.0) (shifted idle four.1) bs) (four_by (is_idle b) (hex_digit b))

-- the data lines by eight or sixteen digits
abbrev pub data_lines : List ℕ → Option (ℕ × ℕ)
data_lines word = if length word == 8 || length word == 16 then lines_from 0 0 word else None

-- the data lines with a name: their levels, which carry nothing, and whether there are sixteen digits
abbrev pub data_of : List ℕ → Option (ℕ × ℕ × Bool)
data_of word = option_map (λ it. (it.0, it.1, length word == 16)) (data_lines word)

-- the same at the begin of a text
abbrev pub data_in : List ℕ → List ℕ → Option ((ℕ × ℕ × Bool) × List ℕ)
data_in name text = option_and_then (reads data_of) (value_in name text)
