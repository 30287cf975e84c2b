-- The variables that the value of a key names.
use Rattle.std.specs.Prelude.{ℕ, zero, suc, ◌+◌, ◌-◌, ◌%◌, ◌==◌, min, max, nat_lt, nat_le, Bool, true, false, ◌&&◌, if◌then◌else◌, List, [], ◌∷◌, ◌++◌, length, map, Result, Ok, Err, codes}
use Rattle.std.specs.Option.{unwrap_or, ok_or, option_map_or}
use Rattle.std.specs.Fmt.{decimal}
use Rattle.vme_line_map.specs.Groups.{lines}
use Rattle.vme_line_map.specs.Texts.{strip, cut, cut_last, before_end, number}
use Rattle.vme_line_map.specs.Variables.{Variable}
use Rattle.vme_line_map.specs.declared.group.Group.{Group}
use Rattle.vme_line_map.specs.declared.group.Group.TheVariants.{Modifier, Address, Data}
use Rattle.vme_line_map.specs.declared.map.Place.{Place}
use Rattle.vme_line_map.specs.declared.map.Place.TheVariants.{Ranged, From, Bits}
use Rattle.vme_line_map.specs.declared.pattern.Named.{Named}
use Rattle.vme_line_map.specs.declared.fault.LinesProblem.{LinesProblem}
use Rattle.vme_line_map.specs.declared.fault.LinesProblem.TheVariants.{BadName, BadRange, BadBits, TooManyBits}

-- the next step, if the one before it has a value
abbrev pub and_then : {A B E : Type 0} → Result A E → (A → Result B E) → Result B E
and_then (Ok x) f = f x
and_then (Err e) f = Err e

infixl 10 ◌>>=◌
-- the same between steps on lines of their own
abbrev pub ◌>>=◌ : {A B E : Type 0} → Result A E → (A → Result B E) → Result B E
r >>= f = and_then r f

-- whether a variable's own range says which lines of a group it has
abbrev pub is_vector : Group → Bool
is_vector Modifier = true
is_vector Address = true
is_vector Data = true
is_vector _ = false

-- all bits of a variable
abbrev pub whole : Group → ℕ → Place
whole group first = if is_vector group && (first == 0) then Ranged 0 else From first

-- the lowest address line of some bits, one more than this: A01 if their number is odd, A02 if it is two less than a multiple of
-- eight, else A00
abbrev pub first_address : ℕ → ℕ
first_address before_last = if before_last % 2 == 0 then 1 else (if before_last % 8 == 5 then 2 else 0)

-- the line of the lowest of some bits: of an address, the one that their number says
abbrev pub first_line : Group → ℕ → ℕ → ℕ
first_line Address zero before_last = first_address before_last
first_line _ first before_last = first

-- the bits between two indices, from a line on, if there are as many lines
abbrev pub bits_from : Group → ℕ → ℕ → ℕ → Result Place LinesProblem
bits_from group low high first = if nat_lt ((high - low) + first) (lines group) then Ok (Bits high low first) else Err TooManyBits

-- the bits between two indices
abbrev pub bits_of : Group → ℕ → ℕ → ℕ → Result Place LinesProblem
bits_of group first one other =
    bits_from group (min one other) (max one other) (first_line group first (max one other - min one other))

-- the two indices of `N:M`, or that of `N` twice
abbrev pub ends : List ℕ → List ℕ × List ℕ
ends indices = unwrap_or (cut (codes ":") indices) (indices, indices)

-- the bits that `N` or `N:M` says
abbrev pub bits_in : Group → ℕ → List ℕ → Result Place LinesProblem
bits_in group first indices = do
  one ← ok_or (number 16 (ends indices).0) BadBits
  other ← ok_or (number 16 (ends indices).1) BadBits
  bits_of group first one other

-- the name before the last `[`, and the bits that the text after it says
abbrev pub bracketed : Group → ℕ → List ℕ → Result (List ℕ × Place) LinesProblem
bracketed group first inner = do
  parts ← ok_or (cut_last (codes "[") inner) BadBits
  place ← bits_in group first parts.1
  Ok (parts.0, place)

-- a name with all bits, or the name before `[N]` or `[N:M]` with those
abbrev pub place_of : Group → ℕ → List ℕ → Result (List ℕ × Place) LinesProblem
place_of group first text = option_map_or (bracketed group first) (before_end 93 text) (Ok (text, whole group first))

-- so many numbers from one on
abbrev pub numbers_from : ℕ → ℕ → List ℕ
numbers_from n zero = []
numbers_from n (suc count) = n ∷ numbers_from (n + 1) count

-- a variable of one bit for a line, named with the line in decimal between two texts
abbrev pub line_variable : Named → List ℕ → List ℕ → ℕ → Variable
line_variable named before after line =
    record { name = before ++ decimal line ++ after; group = named.group; place = From line; is_inverted = named.is_inverted }

-- a variable for each line from one to another
abbrev pub variables_between : (ℕ → Variable) → ℕ → ℕ → List Variable
variables_between variable low high = map variable (numbers_from low (high + 1 - low))

-- the lowest and the highest line of `FIRST..LAST`
abbrev pub range_in : Group → List ℕ → Result (ℕ × ℕ) LinesProblem
range_in group range = do
  parts ← ok_or (cut (codes "..") range) BadRange
  one ← ok_or (number 8 parts.0) BadRange
  other ← ok_or (number 8 parts.1) BadRange
  if nat_lt (max one other) (lines group) then Ok (min one other, max one other) else Err TooManyBits

-- a variable for each line of `{FIRST..LAST}` in a name: the text before `{`, and the one after it
abbrev pub each_line : Named → List ℕ → List ℕ → Result (List Variable) LinesProblem
each_line named before rest = do
  parts ← ok_or (cut (codes "}") rest) BadRange
  range ← range_in named.group parts.0
  Ok (variables_between (line_variable named before parts.1) range.0 range.1)

-- the one variable of a name without `{`
abbrev pub one_variable : Named → List ℕ → Result (List Variable) LinesProblem
one_variable named name = do
  placed ← place_of named.group named.first name
  Ok (record { name = placed.0; group = named.group; place = placed.1; is_inverted = named.is_inverted } ∷ [])

-- the variables of a name of 1 to 255 bytes
abbrev pub of_name : Named → List ℕ → Result (List Variable) LinesProblem
of_name named name =
    if nat_lt 0 (length name) && nat_le (length name) 255
    then option_map_or (λ parts. each_line named parts.0 parts.1) (cut (codes "{") name) (one_variable named name)
    else Err BadName

-- lines that are named, from one on
abbrev pub lines_from : Group → ℕ → Bool → Named
lines_from group first is_inverted = record { group = group; first = first; is_inverted = is_inverted }

-- the variables that a text names; after `!` they are inverted
abbrev pub pattern : Group → ℕ → List ℕ → Result (List Variable) LinesProblem
pattern group first text =
    option_map_or (of_name (lines_from group first true)) (strip (codes "!") text) (of_name (lines_from group first false) text)
