-- The lines of a text that is read byte by byte.
use Rattle.std.proofs.Common.{◌≡◌, ℕ, ◌<◌, Bool, true, false, not, ◌==◌, nat_le, List, [], ◌∷◌, ◌++◌, length, map, get_or, take, ◌+◌, All, Result, Ok, Err, IfErr, ok_or, refl, ap, sym, ◌∙◌, append_assoc, append-nil, arith, length-append, le-leb, ne_eqb, ◌≢◌}
use Rattle.std.specs.Prelude.{if◌then◌else◌}
use Rattle.std.specs.List.{slice_split, onto_first}
use Rattle.std.specs.Result.{result_ok}
use Rattle.std.proofs.lemmas.Bool.{lt-leb}
use Rattle.std.proofs.lemmas.List.Elements.{All-nil, All-cons, All-head, All-tail, All-append}
use Rattle.std.proofs.lemmas.List.Splits.{slice_split-cons_no, slice_split_at, slice_split_none, length-slice_split}
use Rattle.std.proofs.lemmas.List.{take_more}
use Rattle.std.proofs.lemmas.List.Sums.{take_while-cons}
use Rattle.vme_bus_log.specs.declared.entry.LogEntry.{LogEntry}
use Rattle.vme_bus_log.specs.declared.fault.LogFault.{LogFault}
use Rattle.vme_bus_log.specs.Entries.{entry_of}
use Rattle.vme_bus_log.specs.Faults.{Fault, TooLong, entry_fault, entry_says, reported, returned}
use Rattle.vme_bus_log.specs.Words.{next_word}
use Rattle.vme_bus_log.specs.Texts.{without_comment, line_says, log_says, EndsNoLine, SaysAs, line_so_far, IsKept}

-- the byte ends no line
abbrev Within : ℕ → Type 0
Within b = (b == 10) ≡ false

-- the byte begins no comment
abbrev Before : ℕ → Type 0
Before b = (b == 35) ≡ false

-- parts of which the first begins with this
abbrev begun : List ℕ → List (List ℕ) → List (List ℕ)
begun [] parts = parts
begun (x ∷ xs) parts = onto_first x (begun xs parts)

begun_first : (begin part : List ℕ) (parts : List (List ℕ)) → begun begin (part ∷ parts) ≡ (begin ++ part) ∷ parts
begun_first [] part parts = refl
begun_first (x ∷ xs) part parts = ap (onto_first x) (begun_first xs part parts)

-- the parts of a text whose begin ends no line
split_begun : (begin rest : List ℕ) → All Within begin → slice_split (λ b. b == 10) (begin ++ rest) ≡ begun begin (slice_split (λ b. b == 10) rest)
split_begun [] rest within = refl
split_begun (x ∷ xs) rest within =
    slice_split-cons_no (λ b. b == 10) x (xs ++ rest) (All-head Within x xs within)
    ∙ ap (onto_first x) (split_begun xs rest (All-tail Within x xs within))

-- lines of which the first begins in two ways that say the same
same_parts : (a b : List ℕ) (parts : List (List ℕ)) → 0 < length parts → ((tail : List ℕ) → line_says (a ++ tail) ≡ line_says (b ++ tail))
    → map line_says (begun a parts) ≡ map line_says (begun b parts)
same_parts a b [] some same = absurd (omega arith)
same_parts a b (part ∷ parts) some same =
    ap (map line_says) (begun_first a part parts) ∙ ap (λ first. first ∷ map line_says parts) (same part)
    ∙ sym (ap (map line_says) (begun_first b part parts))

-- two begins of a line that say the same whatever line they begin
says_as : (a b : List ℕ) → All Within a → All Within b → ((tail : List ℕ) → line_says (a ++ tail) ≡ line_says (b ++ tail)) → SaysAs a b
says_as a b within_a within_b same = λ rest.
    ap (map line_says) (split_begun a rest within_a)
    ∙ same_parts a b (slice_split (λ b. b == 10) rest) (omega (arith, length-slice_split (λ b. b == 10) rest)) same
    ∙ sym (ap (map line_says) (split_begun b rest within_b))

-- the byte that a line begins with, if it begins no comment, stands before it
before_first : (byte : ℕ) (rest : List ℕ) → Before byte → without_comment (byte ∷ rest) ≡ byte ∷ without_comment rest
before_first byte rest this =
    take_while-cons (λ b. not (b == 35)) byte rest ∙ ap (λ test. if not test then byte ∷ without_comment rest else []) this

-- a line whose begin has no comment, without its comment
pub before_begun : (begin tail : List ℕ) → All Before begin → without_comment (begin ++ tail) ≡ begin ++ without_comment tail
before_begun [] tail before = refl
before_begun (x ∷ xs) tail before =
    before_first x (xs ++ tail) (All-head Before x xs before) ∙ ap (λ ys. x ∷ ys) (before_begun xs tail (All-tail Before x xs before))

-- a line says what its begin before a comment says
comment_says : (kept tail : List ℕ) → All Before kept → line_says (kept ++ 35 ∷ tail) ≡ line_says kept
unfolding line_says
comment_says kept tail before =
    let with : without_comment (kept ++ 35 ∷ tail) ≡ kept = before_begun kept (35 ∷ tail) before ∙ append-nil kept in
    let alone : without_comment kept ≡ kept = ap without_comment (sym (append-nil kept)) ∙ before_begun kept [] before ∙ append-nil kept in
    ap (λ line. if nat_le (length line) 255 then entry_says line else Err TooLong) (with ∙ sym alone)

-- a line of more than 255 bytes before its comment says nothing
long_says : (kept tail : List ℕ) (byte : ℕ) → All Before kept → length kept ≡ 255 → Before byte → line_says (kept ++ byte ∷ tail) ≡ Err TooLong
unfolding line_says
long_says kept tail byte before full this =
    let is : without_comment (kept ++ byte ∷ tail) ≡ kept ++ byte ∷ without_comment tail = before_begun kept (byte ∷ tail) before ∙ ap (λ ys. kept ++ ys) (before_first byte tail this) in
    let past : nat_le (length (without_comment (kept ++ byte ∷ tail))) 255 ≡ false =
    lt-leb _ _ (omega (arith, ap length is, length-append kept (byte ∷ without_comment tail), full)) in
    rw past refl

-- what a line says that has no more than it may and no comment
kept_says : (kept : List ℕ) (long : Bool) → IsKept kept long → line_says kept ≡ entry_says kept
unfolding line_says
kept_says kept long is =
    let alone : without_comment kept ≡ kept =
    ap without_comment (sym (append-nil kept)) ∙ before_begun kept [] is.before ∙ append-nil kept in
    rw (alone, le-leb (length kept) 255 is.fits) refl

-- a zero and a # end no line
zero_within : (long : Bool) → All Within (if long then 0 ∷ [] else [])
zero_within false = All-nil Within
zero_within true = All-cons Within 0 [] refl (All-nil Within)

comment_within : (comment : Bool) → All Within (if comment then 35 ∷ [] else [])
comment_within false = All-nil Within
comment_within true = All-cons Within 35 [] refl (All-nil Within)

-- the begin of a line ends no line
so_far_within : (kept : List ℕ) (long comment : Bool) → IsKept kept long → All Within (line_so_far kept long comment)
so_far_within kept long comment is =
    All-append Within kept _ is.within (All-append Within _ _ (zero_within long) (comment_within comment))

-- what a line says that has ended, by what is kept of it
line_is : (kept : List ℕ) (long comment : Bool) → IsKept kept long
    → line_says (line_so_far kept long comment) ≡ (if long then Err TooLong else entry_says kept)
line_is kept true comment is = long_says kept (if comment then 35 ∷ [] else []) 0 is.before (is.full refl) refl
line_is kept false true is = comment_says kept [] is.before ∙ kept_says kept false is
line_is kept false false is = ap line_says (append-nil kept) ∙ kept_says kept false is

-- what is said of a line that has ended: nothing if it is too long, else what is kept says
pub record HasEnded (line kept : List ℕ) (long comment : Bool) (said : Result LogEntry Fault) : Type 0 where
  pub is : line_so_far kept long comment ≡ line
  pub kept_is : IsKept kept long
  pub says : said ≡ (if long then Err TooLong else entry_says kept)

-- the line that a reader ends is the first one of the text that is left
pub ended : (line kept : List ℕ) (long comment : Bool) (said : Result LogEntry Fault) → HasEnded line kept long comment said
    → (rest : List ℕ) → log_says (line ++ 10 ∷ rest) ≡ said ∷ log_says rest
ended line kept long comment said has rest =
    ap (λ begin. log_says (begin ++ 10 ∷ rest)) (sym has.is)
    ∙ ap (map line_says) (slice_split_at (λ b. b == 10) (line_so_far kept long comment) 10 rest (so_far_within kept long comment has.kept_is) refl)
    ∙ ap (λ first. first ∷ log_says rest) (line_is kept long comment has.kept_is ∙ sym has.says)

-- the line with which the text ends is the only one that is left
pub ended_last : (line kept : List ℕ) (long comment : Bool) (said : Result LogEntry Fault) → HasEnded line kept long comment said
    → log_says line ≡ said ∷ []
ended_last line kept long comment said has =
    ap log_says (sym has.is)
    ∙ ap (map line_says) (slice_split_none (λ b. b == 10) (line_so_far kept long comment) (so_far_within kept long comment has.kept_is))
    ∙ ap (λ first. first ∷ []) (line_is kept long comment has.kept_is ∙ sym has.says)

-- a line that is too long
pub ends_long : (line kept : List ℕ) (long comment : Bool) → line_so_far kept long comment ≡ line → IsKept kept long → long ≡ true
    → HasEnded line kept long comment (Err TooLong)
ends_long line kept long comment is kept_is past =
    record { is = is; kept_is = kept_is; says = sym (ap (λ (test : Bool). if test then Err TooLong else entry_says kept) past) }

-- a line that is not
pub ends_short : (line kept read : List ℕ) (long comment : Bool) (said : Result LogEntry Fault) → line_so_far kept long comment ≡ line
    → IsKept kept long → long ≡ false → read ≡ kept → said ≡ entry_says read → HasEnded line kept long comment said
ends_short line kept read long comment said is kept_is short same says =
    record {
      is = is;
      kept_is = kept_is;
      says = says ∙ ap entry_says same ∙ sym (ap (λ (test : Bool). if test then Err TooLong else entry_says kept) short);
    }

-- what is returned of a line, by what it says and what is wrong with it
pub returned_as : (text : List ℕ) (result : Result LogEntry LogFault) → result_ok result ≡ entry_of text
    → IfErr result (λ fault. entry_fault text (next_word text) ≡ reported fault) → returned result ≡ entry_says text
returned_as text (Ok entry) says why = ap (λ said. ok_or said (entry_fault text (next_word text))) says
returned_as text (Err fault) says why = ap Err (sym why) ∙ ap (λ said. ok_or said (entry_fault text (next_word text))) says

-- one more byte after the # of its comment changes nothing that a line says
comment_tail : (kept : List ℕ) (long : Bool) (byte : ℕ) → IsKept kept long → (tail : List ℕ)
    → line_says ((line_so_far kept long true ++ byte ∷ []) ++ tail) ≡ line_says (line_so_far kept long true ++ tail)
comment_tail kept false byte is tail =
    ap line_says (append_assoc (kept ++ 35 ∷ []) (byte ∷ []) tail ∙ append_assoc kept (35 ∷ []) (byte ∷ tail))
    ∙ comment_says kept (byte ∷ tail) is.before
    ∙ sym (ap line_says (append_assoc kept (35 ∷ []) tail) ∙ comment_says kept tail is.before)
comment_tail kept true byte is tail =
    ap line_says (append_assoc (kept ++ 0 ∷ 35 ∷ []) (byte ∷ []) tail ∙ append_assoc kept (0 ∷ 35 ∷ []) (byte ∷ tail))
    ∙ long_says kept (35 ∷ byte ∷ tail) 0 is.before (is.full refl) refl
    ∙ sym (ap line_says (append_assoc kept (0 ∷ 35 ∷ []) tail) ∙ long_says kept (35 ∷ tail) 0 is.before (is.full refl) refl)

-- the # of a comment
comment_put : (kept : List ℕ) (long : Bool) → line_so_far kept long false ++ 35 ∷ [] ≡ line_so_far kept long true
comment_put kept false = append_assoc kept [] (35 ∷ [])
comment_put kept true = append_assoc kept (0 ∷ []) (35 ∷ [])

-- a line with a byte past the limit says nothing
long_tail : (kept : List ℕ) (long : Bool) (byte : ℕ) (tail : List ℕ) → IsKept kept long → length kept ≡ 255 → Before byte
    → line_says ((line_so_far kept long false ++ byte ∷ []) ++ tail) ≡ Err TooLong
long_tail kept false byte tail is full before =
    ap line_says (append_assoc (kept ++ []) (byte ∷ []) tail ∙ append_assoc kept [] (byte ∷ tail))
    ∙ long_says kept tail byte is.before full before
long_tail kept true byte tail is full before =
    ap line_says (append_assoc (kept ++ 0 ∷ []) (byte ∷ []) tail ∙ append_assoc kept (0 ∷ []) (byte ∷ tail))
    ∙ long_says kept (byte ∷ tail) 0 is.before full refl

long_more : (kept tail : List ℕ) → All Before kept → length kept ≡ 255 → line_says (line_so_far kept true false ++ tail) ≡ Err TooLong
long_more kept tail before full = ap line_says (append_assoc kept (0 ∷ []) tail) ∙ long_says kept tail 0 before full refl

-- a byte of a comment changes nothing
pub in_comment : (kept : List ℕ) (long : Bool) (byte : ℕ) → IsKept kept long → byte ≢ 10
    → SaysAs (line_so_far kept long true ++ byte ∷ []) (line_so_far kept long true)
in_comment kept long byte is within =
    let begin = line_so_far kept long true in
    says_as (begin ++ byte ∷ []) begin
    (All-append Within begin (byte ∷ []) (so_far_within kept long true is) (All-cons Within byte [] (ne_eqb byte 10 within) (All-nil Within)))
    (so_far_within kept long true is) (comment_tail kept long byte is)

-- a # begins a comment
pub comment_begins : (kept : List ℕ) (long : Bool) → SaysAs (line_so_far kept long false ++ 35 ∷ []) (line_so_far kept long true)
comment_begins kept long = λ rest. ap (λ begin. log_says (begin ++ rest)) (comment_put kept long)

-- a byte past the limit
pub past_limit : (kept : List ℕ) (long : Bool) (byte : ℕ) → IsKept kept long → length kept ≡ 255 → byte ≢ 10 → byte ≢ 35
    → SaysAs (line_so_far kept long false ++ byte ∷ []) (line_so_far kept true false)
past_limit kept long byte is full within before =
    let old = line_so_far kept long false in
    let new = line_so_far kept true false in
    let is_full : IsKept kept true = record { within = is.within; before = is.before; fits = is.fits; full = λ _. full } in
    says_as (old ++ byte ∷ []) new
    (All-append Within old (byte ∷ []) (so_far_within kept long false is) (All-cons Within byte [] (ne_eqb byte 10 within) (All-nil Within)))
    (so_far_within kept true false is_full)
    (λ tail. long_tail kept long byte tail is full (ne_eqb byte 35 before) ∙ sym (long_more kept tail is.before full))

-- a byte that is kept
pub kept_more : (kept : List ℕ) (byte : ℕ) → SaysAs (line_so_far kept false false ++ byte ∷ []) (line_so_far (kept ++ byte ∷ []) false false)
kept_more kept byte = λ rest. ap (λ begin. log_says (begin ++ rest))
    (ap (λ begin. begin ++ byte ∷ []) (append-nil kept) ∙ sym (append-nil (kept ++ byte ∷ [])))

-- a line in whose comment a byte stands
pub goes_on_in_comment : (line kept : List ℕ) (long comment : Bool) (byte : ℕ) → line_so_far kept long comment ≡ line → IsKept kept long
    → comment ≡ true → byte ≢ 10 → SaysAs (line ++ byte ∷ []) line
goes_on_in_comment line kept long comment byte is kept_is test within = λ rest.
    let same : line ≡ line_so_far kept long true = sym is ∙ ap (line_so_far kept long) test in
    ap (λ begin. log_says ((begin ++ byte ∷ []) ++ rest)) same ∙ in_comment kept long byte kept_is within rest
    ∙ sym (ap (λ begin. log_says (begin ++ rest)) same)

-- a line that goes on past its limit
pub goes_past_limit : (line kept : List ℕ) (long comment : Bool) (byte : ℕ) → line_so_far kept long comment ≡ line → IsKept kept long
    → comment ≡ false → length kept ≡ 255 → byte ≢ 10 → byte ≢ 35 → SaysAs (line ++ byte ∷ []) (line_so_far kept true comment)
goes_past_limit line kept long comment byte is kept_is test full within before = λ rest.
    let same : line ≡ line_so_far kept long false = sym is ∙ ap (line_so_far kept long) test in
    ap (λ begin. log_says ((begin ++ byte ∷ []) ++ rest)) same ∙ past_limit kept long byte kept_is full within before rest
    ∙ sym (ap (λ test. log_says (line_so_far kept true test ++ rest)) test)

-- a line of which one more byte is taken
pub says_more : (old mid new part : List ℕ) (i b d : ℕ) → i < length part → b ≡ get_or part i d → SaysAs (old ++ take i part) mid
    → SaysAs (mid ++ b ∷ []) new → SaysAs (old ++ take (i + 1) part) new
says_more old mid new part i b d less is one two = λ rest.
    ap (λ xs. log_says ((old ++ xs) ++ rest)) (take_more part i d less ∙ ap (λ x. take i part ++ x ∷ []) (sym is))
    ∙ ap log_says
    (ap (λ xs. xs ++ rest) (sym (append_assoc old (take i part) (b ∷ []))) ∙ append_assoc (old ++ take i part) (b ∷ []) rest)
    ∙ one (b ∷ rest) ∙ ap log_says (sym (append_assoc mid (b ∷ []) rest)) ∙ two rest

-- a line of which nothing was taken before
pub whole_line : (line part : List ℕ) (said : Result LogEntry Fault) → line ≡ [] → EndsNoLine part → said ≡ line_says part
    → (rest : List ℕ) → log_says (line ++ (part ++ 10 ∷ rest)) ≡ said ∷ log_says rest
whole_line line part said empty within says rest =
    ap (λ begin. log_says (begin ++ (part ++ 10 ∷ rest))) empty
    ∙ ap (map line_says) (slice_split_at (λ b. b == 10) part 10 rest within refl) ∙ ap (λ first. first ∷ log_says rest) (sym says)

-- a line of which a begin was taken before
pub kept_line : (line part kept : List ℕ) (said : Result LogEntry Fault) → SaysAs (line ++ part) kept
    → ((rest : List ℕ) → log_says (kept ++ 10 ∷ rest) ≡ said ∷ log_says rest)
    → (rest : List ℕ) → log_says (line ++ (part ++ 10 ∷ rest)) ≡ said ∷ log_says rest
kept_line line part kept said says ends rest =
    ap log_says (sym (append_assoc line part (10 ∷ rest))) ∙ says (10 ∷ rest) ∙ ends rest
