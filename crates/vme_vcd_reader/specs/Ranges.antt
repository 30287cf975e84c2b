-- The name of a variable, and the range that may stand behind it.
use Rattle.std.specs.Prelude.{ℕ, ◌+◌, ◌-◌, Bool, true, false, ◌==◌, if◌then◌else◌, List, [], ◌∷◌, length, take, drop, bytes_eq, codes, unwrap_or, Option, Some, None}
use Rattle.std.specs.List.{position}
use Rattle.std.specs.Option.{option_map, option_and_then}
use Rattle.vme_vcd_reader.specs.Headers.{small_number}

-- an index after another byte, or here if there is none
abbrev pub or_here : Option ℕ → Bool → Option ℕ
or_here (Some place) is_here = Some (place + 1)
or_here None true = Some 0
or_here None false = None

-- the last index of a byte
abbrev pub last_place : ℕ → List ℕ → Option ℕ
last_place c [] = None
last_place c (b ∷ bs) = or_here (last_place c bs) (b == c)

-- two numbers with a colon between them, or one that is both
abbrev pub indices : List ℕ → Option ℕ → Option (ℕ × ℕ)
indices text None = option_map (λ one. (one, one)) (small_number text)
indices text (Some place) = option_and_then (λ one. option_map (λ other. (one, other)) (small_number (drop (place + 1) text)))
    (small_number (take place text))

-- the indices of the first and the last bit that a range names
abbrev pub range_of : List ℕ → Option (ℕ × ℕ)
range_of text = indices text (position (λ b. b == 58) text)

-- what stands before an index, and after it
abbrev pub cut_at : List ℕ → ℕ → List ℕ × List ℕ
cut_at text place = (take place text, drop (place + 1) text)

-- of a name with ] at its end, what stands before the last [, and between them
abbrev pub cut_range : List ℕ → Option (List ℕ × List ℕ)
cut_range name =
    if bytes_eq (drop (length name - 1) name) (codes "]")
    then option_map (cut_at (take (length name - 1) name)) (last_place 91 (take (length name - 1) name))
    else None

-- a name that ends with a range, and the range
abbrev pub ranged : List ℕ × List ℕ → Option (List ℕ × Option (ℕ × ℕ))
ranged cut = option_map (λ range. (cut.0, Some range)) (range_of cut.1)

-- a name without the range behind it, and the range, if there is one
abbrev pub named : List ℕ → List ℕ × Option (ℕ × ℕ)
named name = unwrap_or (option_and_then ranged (cut_range name)) (name, None)
