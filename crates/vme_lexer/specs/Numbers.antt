-- Words of a line read as numbers and as bytes.
use Rattle.std.specs.Prelude.{ℕ, ◌+◌, ◌-◌, ◌*◌, nat_le, ◌==◌, ◌&&◌, if◌then◌else◌, List, [], ◌∷◌, length, slice_index, Option, Some, None, codes}
use Rattle.std.specs.Option.{option_map, option_and_then}
use Rattle.std.specs.Str.{bytes_eq}
use Rattle.vme_memory.specs.Classes.{is_local_len}

-- the value of a hexadecimal digit of either case: 0 to 9, a to f, A to F
abbrev pub hex_digit : ℕ → Option ℕ
hex_digit c =
    if nat_le 48 c && nat_le c 57 then Some (c - 48) else
    (if nat_le 97 c && nat_le c 102 then Some (c - 87) else
    (if nat_le 65 c && nat_le c 70 then Some (c - 55) else None))

-- the number that hexadecimal digits spell after digits that spell n
abbrev pub hex_from : ℕ → List ℕ → Option ℕ
hex_from n [] = Some n
hex_from n (c ∷ cs) = option_and_then (λ d. hex_from (16 * n + d) cs) (hex_digit c)

-- the number that a word of exactly len hexadecimal digits spells
unfoldable pub hex_number : ℕ → List ℕ → Option ℕ
hex_number len word = if length word == len then hex_from 0 word else None

-- the bytes that pairs of hexadecimal digits spell
abbrev pub hex_pairs : List ℕ → Option (List ℕ)
hex_pairs [] = Some []
hex_pairs (c ∷ []) = None
hex_pairs (c ∷ d ∷ cs) =
    option_and_then (λ high. option_and_then (λ low. option_map (λ bytes. (16 * high + low) ∷ bytes) (hex_pairs cs))
    (hex_digit d)) (hex_digit c)

-- the bytes that a word spells, from one to `most`
unfoldable pub hex_bytes : ℕ → List ℕ → Option (List ℕ)
hex_bytes most word = if nat_le 1 (length word) && nat_le (length word) (2 * most) then hex_pairs word else None

-- the bytes that a word spells, exactly len of them and at most eight
unfoldable pub exact_bytes : ℕ → List ℕ → Option (List ℕ)
exact_bytes len word = if length word == 2 * len then hex_bytes 8 word else None

-- the number that one digit from 1 to 8 spells
unfoldable pub small_number : List ℕ → Option ℕ
small_number word =
    let c = slice_index word 0 in
    if length word == 1 && nat_le 49 c && nat_le c 56 then Some (c - 48) else None

-- the number that one of the digits 1, 2 and 4 spells
unfoldable pub local_number : List ℕ → Option ℕ
local_number word =
    if bytes_eq word (codes "1") then Some 1 else
    (if bytes_eq word (codes "2") then Some 2 else
    (if bytes_eq word (codes "4") then Some 4 else None))

-- the one, two or four bytes that a word spells
unfoldable pub local_bytes : List ℕ → Option (List ℕ)
local_bytes word =
    option_and_then (λ bytes. if is_local_len (length bytes) then Some bytes else None) (hex_bytes 8 word)

-- the value of a decimal digit
abbrev pub decimal_digit : ℕ → Option ℕ
decimal_digit c = if nat_le 48 c && nat_le c 57 then Some (c - 48) else None

-- the number that decimal digits spell after digits that spell n
abbrev pub decimal_from : ℕ → List ℕ → Option ℕ
decimal_from n [] = Some n
decimal_from n (c ∷ cs) = option_and_then (λ d. decimal_from (10 * n + d) cs) (decimal_digit c)

-- the number that a word of one to `most` decimal digits spells
unfoldable pub decimal_number : ℕ → List ℕ → Option ℕ
decimal_number most word = if nat_le 1 (length word) && nat_le (length word) most then decimal_from 0 word else None
