-- The characters of a JSON string.
use Rattle.std.specs.Prelude.{ℕ, ◌^◌, ◌-◌, nat_lt, false, ◌==◌, if◌then◌else◌, List, [], ◌++◌, chars, codes, encode_utf8, flat_map}
use Rattle.std.specs.Fmt.{digits, format_spec, padded_integral}

-- the escape of a control character: its number in four hexadecimal digits
abbrev pub control_escape : ℕ → List ℕ
control_escape c = codes "\\u" ++ padded_integral (format_spec 32 0 4 4 (2 ^ 64 - 1)) false [] (digits 16 false c)

-- what a JSON string has for a character: it escapes control characters and the two that it cannot contain
abbrev pub escaped_char : ℕ → List ℕ
escaped_char c =
    if c == 34 then codes "\\\""
    else (if c == 92 then codes "\\\\"
    else (if c == 10 then codes "\\n" else (if nat_lt c 32 then control_escape c else encode_utf8 c)))

-- the characters of the JSON string that shows a text, without its quotes
unfoldable pub escaped : List ℕ → List ℕ
escaped text = flat_map escaped_char (chars text)
