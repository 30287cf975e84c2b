-- The text of a bus log: its lines, and what each of them says.
use Rattle.std.specs.Prelude.{◌≡◌, ℕ, ◌<◌, ◌≤◌, nat_le, Bool, true, false, not, ◌==◌, if◌then◌else◌, List, [], ◌∷◌, ◌++◌, length, map, Result, Err}
use Rattle.std.specs.List.{All, slice_split, take_while}
use Rattle.vme_bus_log.specs.declared.entry.LogEntry.{LogEntry}
use Rattle.vme_bus_log.specs.Faults.{Fault, TooLong, entry_says}

-- a line without its comment, which begins with #
abbrev pub without_comment : List ℕ → List ℕ
without_comment line = take_while (λ b. not (b == 35)) line

-- what a line of a text says, or why it is none of a log: it has at most 255 bytes before its comment
unfoldable pub line_says : List ℕ → Result LogEntry Fault
line_says line = if nat_le (length (without_comment line)) 255 then entry_says (without_comment line) else Err TooLong

-- what each line of a text says; a line ends with a line feed, the last one with the text
abbrev pub log_says : List ℕ → List (Result LogEntry Fault)
log_says text = map line_says (slice_split (λ b. b == 10) text)

-- a text has no line feed
abbrev pub EndsNoLine : List ℕ → Type 0
EndsNoLine text = All (λ b. (b == 10) ≡ false) text

-- a text is cut at its first line feed, into the line before it and the text after it
pub record IsLineOf (text line after : List ℕ) : Type 0 where
  pub within : EndsNoLine line
  pub parts : text ≡ line ++ 10 ∷ after
  pub shorter : length after < length text

-- two begins of a line say the same, whatever text follows them
abbrev pub SaysAs : List ℕ → List ℕ → Type 0
SaysAs begin other = (rest : List ℕ) → log_says (begin ++ rest) ≡ log_says (other ++ rest)

-- what a reader remembers of a text: the begin of a line, as far as it counts, and the line's number, from 1
pub record Reading : Type 0 where
  pub line : List ℕ
  pub number : ℕ

-- the begin of a line by the bytes that are kept of it: a zero stands for those past the 255th, a # for its comment
abbrev pub line_so_far : List ℕ → Bool → Bool → List ℕ
line_so_far kept long comment = kept ++ ((if long then 0 ∷ [] else []) ++ (if comment then 35 ∷ [] else []))

-- the bytes that are kept of a line end no line and begin no comment, and are 255 if the line has more
pub record IsKept (kept : List ℕ) (long : Bool) : Type 0 where
  pub within : All (λ b. (b == 10) ≡ false) kept
  pub before : All (λ b. (b == 35) ≡ false) kept
  pub fits : length kept ≤ 255
  pub full : long ≡ true → length kept ≡ 255
