-- Blanks: what lines of them say, and how long they are.
use Rattle.std.proofs.Common.{◌≡◌, ℕ, ◌+◌, Bool, true, false, not, ◌==◌, ◌||◌, nat_le, nat_lt, List, [], ◌∷◌, ◌++◌, length, arith, eqb-true, subst, Option, Some, None, Result, Ok, Err, ok_or, refl, ap, sym, ◌∙◌}
use Rattle.std.specs.Prelude.{if◌then◌else◌}
use Rattle.std.specs.List.{prefix_len}
use Rattle.std.proofs.lemmas.Bool.{false≢true}
use Rattle.std.proofs.lemmas.List.{take_all}
use Rattle.std.proofs.lemmas.List.Elements.{All-head, All-tail}
use Rattle.std.proofs.Math.ListN.{drop_of_length-le}
use Rattle.vme_bus_log.specs.declared.entry.LogEntry.{LogEntry}
use Rattle.vme_bus_log.specs.declared.entry.LogEntry.TheVariants as entries
use Rattle.vme_bus_log.specs.Entries.{line_by}
use Rattle.vme_bus_log.specs.Faults.{Fault, TooLong, entry_fault, entry_says}
use Rattle.vme_bus_log.specs.Texts.{EndsNoLine, line_says, without_comment}
use Rattle.vme_bus_log.specs.Words.{from_word, is_blank, next_word, cut_word}
use Rattle.vme_vcd_reader.specs.Words.{is_blank as is_word_end}
use Rattle.vme_judge.specs.declared.run.Kind.{Kind}
use Rattle.vme_judge.specs.declared.run.Kind.TheVariants as kinds
use Rattle.vme_judge.specs.Blanks.{AreBlanks}
use Rattle.vme_judge.specs.DumpTexts.{long_blanks}
use Rattle.vme_judge.specs.Runs.{form_after}
use Rattle.vme_judge.specs.Seen.{one_more}
use Rattle.vme_judge.specs.Verdicts.{is_space}
use Rattle.vme_judge.proofs.Pieces.{form_on}

-- the form is not known after a first byte only if it is a blank
unknown_by : (blank dollar : Bool) (kind : Kind) → (if blank then kind else (if dollar then kinds.Dump else kinds.Log)) ≡ kinds.Unknown
    → (blank ≡ true) × (kind ≡ kinds.Unknown)
unknown_by true dollar kind is = (refl, is)
unknown_by false true kind is = absurd (cc is)
unknown_by false false kind is = absurd (cc is)

-- the first of blanks is one, and so are the others
pub blank_first : (b : ℕ) (bytes : List ℕ) → AreBlanks (b ∷ bytes) → (is_space b ≡ true) × AreBlanks bytes
blank_first b bytes are = unknown_by (is_space b) (b == 36) (form_after kinds.Unknown bytes) are

-- what holds of each of the four blanks holds of a blank
blank_is : (P : ℕ → Type 0) (a b c d : Bool) (n : ℕ) → (n == 32) ≡ a → (n == 9) ≡ b → (n == 13) ≡ c → (n == 10) ≡ d
    → (a || b || c || d) ≡ true → P 32 → P 9 → P 13 → P 10 → P n
blank_is P true b c d n is1 is2 is3 is4 any p32 p9 p13 p10 = subst P (sym (eqb-true n 32 is1)) p32
blank_is P false true c d n is1 is2 is3 is4 any p32 p9 p13 p10 = subst P (sym (eqb-true n 9 is2)) p9
blank_is P false false true d n is1 is2 is3 is4 any p32 p9 p13 p10 = subst P (sym (eqb-true n 13 is3)) p13
blank_is P false false false true n is1 is2 is3 is4 any p32 p9 p13 p10 = subst P (sym (eqb-true n 10 is4)) p10
blank_is P false false false false n is1 is2 is3 is4 any p32 p9 p13 p10 = absurd (false≢true any)

-- the same by the test
pub each_blank : (P : ℕ → Type 0) (n : ℕ) → is_space n ≡ true → P 32 → P 9 → P 13 → P 10 → P n
each_blank P n is = blank_is P (n == 32) (n == 9) (n == 13) (n == 10) n refl refl refl refl is

-- a blank is one between the words of a log
log_blank : (b : ℕ) → is_space b ≡ true → is_blank b ≡ true
log_blank b is = each_blank (λ b. is_blank b ≡ true) b is refl refl refl refl

-- and one between those of a dump
pub dump_blank : (b : ℕ) → is_space b ≡ true → is_word_end b ≡ true
dump_blank b is = each_blank (λ b. is_word_end b ≡ true) b is refl refl refl refl

-- no comment begins with a blank
no_comment : (b : ℕ) → is_space b ≡ true → (b == 35) ≡ false
no_comment b is = each_blank (λ b. (b == 35) ≡ false) b is refl refl refl refl

-- all of a text pass a test
all_pass : (p : ℕ → Bool) (bytes : List ℕ) → ((b : ℕ) → is_space b ≡ true → p b ≡ true) → AreBlanks bytes → prefix_len p bytes ≡ length bytes
all_pass p [] each are = refl
all_pass p (b ∷ bytes) each are =
    let first = blank_first b bytes are in
    rw (each b first.0) (ap (λ n. 1 + n) (all_pass p bytes each first.1) ∙ omega arith)

-- blanks have no word
no_word : (bytes : List ℕ) → AreBlanks bytes → next_word bytes ≡ None
no_word bytes are =
    let none : from_word bytes ≡ [] =
    drop_of_length-le bytes (omega (arith, all_pass (λ b. not (not (is_blank b))) bytes (λ b is. ap (λ t. not (not t)) (log_blank b is)) are)) in
    ap (λ text. let r : Option (List ℕ × List ℕ) = if length text == 0 then None else Some (cut_word text) in r) none

-- blanks have no comment
all_before : (bytes : List ℕ) → AreBlanks bytes → without_comment bytes ≡ bytes
all_before bytes are =
    take_all (prefix_len (λ b. not (b == 35)) bytes) bytes
    (omega (arith, all_pass (λ b. not (b == 35)) bytes (λ b is. ap not (no_comment b is)) are))

-- a line of blanks says nothing, unless it is too long
pub blanks_say : (bytes : List ℕ) → AreBlanks bytes → line_says bytes ≡ (if nat_le (length bytes) 255 then Ok entries.Nothing else Err TooLong)
unfolding line_says
blanks_say bytes are =
    ap (λ line. let r : Result LogEntry Fault = if nat_le (length line) 255 then entry_says line else Err TooLong in r) (all_before bytes are)
    ∙ ap (λ said. let r : Result LogEntry Fault = if nat_le (length bytes) 255 then said else Err TooLong in r)
    (ap (λ word. ok_or (line_by bytes word) (entry_fault bytes word)) (no_word bytes are))

-- blanks before further blanks
pub blanks_on : (bytes more : List ℕ) → AreBlanks bytes → form_after kinds.Unknown (bytes ++ more) ≡ form_after kinds.Unknown more
blanks_on bytes more are = form_on kinds.Unknown bytes more ∙ ap (λ kind. form_after kind more) are

-- blanks before others are blanks
pub blanks_parts : (bytes more : List ℕ) → AreBlanks (bytes ++ more) → AreBlanks bytes × AreBlanks more
blanks_parts [] more are = (refl, are)
blanks_parts (b ∷ bytes) more are =
    let first = blank_first b (bytes ++ more) are in
    let rest = blanks_parts bytes more first.1 in
    (ap (λ test. let r : Kind = if test then form_after kinds.Unknown bytes else (if b == 36 then kinds.Dump else kinds.Log) in r) first.0 ∙ rest.0, rest.1)

-- a blank within a line
long_within : (blanks line b : ℕ) (text : List ℕ) → is_space b ≡ true → (b == 10) ≡ false
    → long_blanks blanks line (b ∷ text) ≡ long_blanks (blanks + 1) line text
long_within blanks line b text is within = rw (is, within) refl

-- blanks within a line, before more of it
pub long_more : (blanks line : ℕ) (part rest : List ℕ) → AreBlanks part → EndsNoLine part
    → long_blanks blanks line (part ++ rest) ≡ long_blanks (blanks + length part) line rest
long_more blanks line [] rest are within = ap (λ n. long_blanks n line rest) (omega arith)
long_more blanks line (b ∷ part) rest are within =
    let first = blank_first b part are in
    long_within blanks line b (part ++ rest) first.0 (All-head (λ b. (b == 10) ≡ false) b part within)
    ∙ long_more (blanks + 1) line part rest first.1 (All-tail (λ b. (b == 10) ≡ false) b part within)
    ∙ ap (λ n. long_blanks n line rest) (omega arith)

-- blanks that end a line
pub long_ended : (blanks line : ℕ) (part rest : List ℕ) → AreBlanks part → EndsNoLine part
    → long_blanks blanks line (part ++ 10 ∷ rest)
    ≡ (if nat_lt 255 (blanks + length part) then Some line else long_blanks 0 (one_more line) rest)
long_ended blanks line part rest are within = long_more blanks line part (10 ∷ rest) are within
