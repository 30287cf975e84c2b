-- Where a text is cut, and the number that it writes.
use Rattle.std.specs.Prelude.{ℕ, ◌==◌, ◌^◌, nat_lt, ◌&&◌, if◌then◌else◌, List, [], ◌∷◌, length, Option, Some, None}
use Rattle.std.specs.Option.{option_map, option_or}
use Rattle.std.specs.Str.{all_ascii_digits}
use Rattle.std.specs.Str.Parse.{digits_value, without_leading_plus}

-- what follows a text with which another begins
abbrev pub strip : List ℕ → List ℕ → Option (List ℕ)
strip [] xs = Some xs
strip (p ∷ ps) [] = None
strip (p ∷ ps) (x ∷ xs) = if x == p then strip ps xs else None

-- the pair with x before its first text
abbrev pub onto : ℕ → List ℕ × List ℕ → List ℕ × List ℕ
onto x (before, after) = (x ∷ before, after)

-- the pair of no text and this one
abbrev pub at_front : List ℕ → List ℕ × List ℕ
at_front after = ([], after)

-- what stands before and after the first place of a text in another
abbrev pub cut : List ℕ → List ℕ → Option (List ℕ × List ℕ)
cut p [] = None
cut p (x ∷ xs) = option_or (option_map at_front (strip p (x ∷ xs))) (option_map (onto x) (cut p xs))

-- what stands before and after its last place
abbrev pub cut_last : List ℕ → List ℕ → Option (List ℕ × List ℕ)
cut_last p [] = None
cut_last p (x ∷ xs) = option_or (option_map (onto x) (cut_last p xs)) (option_map at_front (strip p (x ∷ xs)))

-- what stands before a byte at the end of a text
abbrev pub before_end : ℕ → List ℕ → Option (List ℕ)
before_end c [] = None
before_end c (x ∷ []) = if x == c then Some [] else None
before_end c (x ∷ y ∷ ys) = option_map (λ start. x ∷ start) (before_end c (y ∷ ys))

-- the number that decimal digits write, if it is below a limit
abbrev pub digits_below : ℕ → List ℕ → Option ℕ
digits_below limit digits =
    if nat_lt 0 (length digits) && (all_ascii_digits digits && nat_lt (digits_value 10 digits) limit)
    then Some (digits_value 10 digits)
    else None

-- the number of some bits that decimal digits write, with `+` before them or not
abbrev pub number : ℕ → List ℕ → Option ℕ
number bits text = digits_below (2 ^ bits) (without_leading_plus text)
