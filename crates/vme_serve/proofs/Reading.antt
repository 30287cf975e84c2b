-- The first line of an input, byte by byte.
use Rattle.std.proofs.Common.{◌≡◌, ℕ, zero, suc, get_or, ◌+◌, ◌-◌, ◌<◌, ◌≤◌, ◌==◌, Bool, true, false, List, [], ◌∷◌, ◌++◌, length, take, All, Option, Some, None, refl, ap, sym, subst, ◌∙◌, arith, inl, inr, append_assoc, ne_eqb, length-append}
use Rattle.std.specs.Prelude.{slice_index, not}
use Rattle.std.specs.Io.KnownBytes.{Consumes, IsAtEnd}
use Rattle.std.specs.List.{slice_split}
use Rattle.std.specs.Str.Lines.{lines, lines_of_parts, strip_carriage_return}
use Rattle.std.proofs.lemmas.Bool.{cases_Bool, cases_lt}
use Rattle.std.proofs.lemmas.Grind.{common_steps}
use Rattle.std.proofs.lemmas.List.{append-nil, length-take}
use Rattle.std.proofs.lemmas.List.Elements.{All-nil, All-push}
use Rattle.std.proofs.lemmas.List.Splits.{slice_split_none, slice_split_at, length-slice_split}
use Rattle.vme_serve.specs.Sessions.{IsKeptOf, TakesLine}

-- whether a byte ends a line
abbrev pub ends : ℕ → Bool
ends byte = byte == 10

lines_of_more : (first : List ℕ) (parts : List (List ℕ)) → 0 < length parts
    → lines_of_parts (first ∷ parts) ≡ strip_carriage_return first ∷ lines_of_parts parts
lines_of_more first [] some = absurd (omega arith)
lines_of_more first (part ∷ parts) some = refl

-- the first line ends at the first LF
pub line_ended : (line rest : List ℕ) → All (λ byte. ends byte ≡ false) line → lines (line ++ 10 ∷ rest) ≡ strip_carriage_return line ∷ lines rest
line_ended line rest none =
    ap lines_of_parts (slice_split_at ends line 10 rest none refl)
    ∙ lines_of_more line (slice_split ends rest) (omega (arith, length-slice_split ends rest))

-- a text without LF is one line, if it has a byte
pub line_left : (line : List ℕ) → All (λ byte. ends byte ≡ false) line → 0 < length line → lines line ≡ line ∷ []
line_left line none some = ap lines_of_parts (slice_split_none ends line none) ∙ rw (ne_eqb (length line) 0 (λ e. omega arith)) refl

-- the bytes of a line so far: they were consumed, none of them ends it, and the first of them are kept
pub record SoFar (old new : Option (List ℕ)) (kept : List ℕ) : Type 0 where
  pub line : List ℕ
  pub consumed : Consumes old new line
  pub none : All (λ byte. ends byte ≡ false) line
  pub first : kept ≡ take 85 line

consumes_more : (old mid new : Option (List ℕ)) (first next : List ℕ) → Consumes old mid first → Consumes mid new next
    → Consumes old new (first ++ next)
consumes_more None mid new first next one two = tt
consumes_more (Some input) None new first next one two = absurd one
consumes_more (Some input) (Some rest) None first next one two = absurd two
consumes_more (Some input) (Some rest) (Some last) first next one two =
    one ∙ ap (λ bytes. first ++ bytes) two ∙ sym (append_assoc first next last)

consumes_none : (old : Option (List ℕ)) → Consumes old old []
consumes_none None = tt
consumes_none (Some input) = refl

-- before the first byte nothing was consumed
pub so_far_none : (old : Option (List ℕ)) (kept : List ℕ) → kept ≡ [] → SoFar old old kept
so_far_none old kept none = record { line = []; consumed = consumes_none old; none = All-nil (λ byte. ends byte ≡ false); first = none }

take_all : (n : ℕ) (bytes : List ℕ) → length bytes ≤ n → take n bytes ≡ bytes
take_all n bytes few = grind (arith, common_steps)

take_first : (n : ℕ) (bytes more : List ℕ) → n ≤ length bytes → take n (bytes ++ more) ≡ take n bytes
take_first n bytes more many = grind (arith, common_steps)

-- the bytes that are kept, with one byte more
kept_more : (line : List ℕ) (byte : ℕ) → take 85 (take 85 line ++ byte ∷ []) ≡ take 85 (line ++ byte ∷ [])
kept_more line byte =
    elim (cases_lt (length line) 85) [
      | inl few ↦ ap (λ bytes. take 85 (bytes ++ byte ∷ [])) (take_all 85 line (omega (arith, few)))
      | inr many ↦
          take_first 85 (take 85 line) (byte ∷ []) (omega (arith, length-take 85 line, many))
          ∙ take_all 85 (take 85 line) (omega (arith, length-take 85 line)) ∙ sym (take_first 85 line (byte ∷ []) many)
    ]

-- one byte more that does not end the line
pub so_far_more : (old mid new : Option (List ℕ)) (kept after : List ℕ) (byte : ℕ) → SoFar old mid kept → Consumes mid new (byte ∷ [])
    → ends byte ≡ false → after ≡ take 85 (kept ++ byte ∷ []) → SoFar old new after
so_far_more old mid new kept after byte so_far next no_end is = record {
  line = so_far.line ++ byte ∷ [];
  consumed = consumes_more old mid new so_far.line (byte ∷ []) so_far.consumed next;
  none = All-push (λ one. ends one ≡ false) so_far.line byte so_far.none no_end;
  first = is ∙ ap (λ bytes. take 85 (bytes ++ byte ∷ [])) so_far.first ∙ kept_more so_far.line byte;
}

strip_short : (line : List ℕ) → length (strip_carriage_return line) ≤ length line
strip_short line = elim (cases_Bool (slice_index line (length line - 1) == 13)) [
  | inl cr ↦ rw cr (omega (arith, length-take (length line - 1) line))
  | inr none ↦ rw none (omega arith)
]

strip_long : (line : List ℕ) → length line ≤ length (strip_carriage_return line) + 1
strip_long line = elim (cases_Bool (slice_index line (length line - 1) == 13)) [
  | inl cr ↦ rw cr (omega (arith, length-take (length line - 1) line))
  | inr none ↦ rw none (omega arith)
]

-- what is kept of a line before its end, without the carriage return
kept_ended : (line : List ℕ) → IsKeptOf (strip_carriage_return line) (strip_carriage_return (take 85 line))
kept_ended line = record {
  whole = λ few. ap strip_carriage_return (take_all 85 line (omega (arith, few, strip_long line)));
  long = λ many.
      elim (cases_lt (length line) 86) [
        | inl less ↦ rw (take_all 85 line (omega (arith, less))) many
        | inr more ↦ omega (arith, more, length-take 85 line, strip_long (take 85 line))
      ];
}

-- what is kept of a line at the end of the input
kept_left : (line : List ℕ) → IsKeptOf line (take 85 line)
kept_left line = record {
  whole = λ few. take_all 85 line (omega (arith, few));
  long = λ many. omega (arith, many, length-take 85 line);
}

-- the line ends at a LF
pub taken : (old mid new : Option (List ℕ)) (kept after : List ℕ) → SoFar old mid kept → Consumes mid new (10 ∷ [])
    → after ≡ strip_carriage_return kept → TakesLine old new after true
taken None mid new kept after so_far next is = tt
taken (Some input) None new kept after so_far next is = absurd so_far.consumed
taken (Some input) (Some rest) None kept after so_far next is = absurd next
taken (Some input) (Some rest) (Some last) kept after so_far next is = (
  strip_carriage_return so_far.line,
  ap lines (so_far.consumed ∙ ap (λ bytes. so_far.line ++ bytes) next) ∙ line_ended so_far.line last so_far.none,
  subst (IsKeptOf (strip_carriage_return so_far.line)) (sym (is ∙ ap strip_carriage_return so_far.first)) (kept_ended so_far.line),
)

-- the input ends with the line, or without one
pub left_over : (old mid new : Option (List ℕ)) (kept : List ℕ) (there : Bool) → SoFar old mid kept → Consumes mid new [] → IsAtEnd new
    → there ≡ not (length kept == 0) → TakesLine old new kept there
left_over None mid new kept there so_far none end is = tt
left_over (Some input) None new kept there so_far none end is = absurd so_far.consumed
left_over (Some input) (Some rest) None kept there so_far none end is = absurd none
left_over (Some input) (Some rest) (Some last) kept there so_far none end is =
    let whole : input ≡ so_far.line =
    so_far.consumed ∙ ap (λ bytes. so_far.line ++ bytes) (none ∙ end) ∙ append-nil so_far.line in
    elim (cases_lt 0 (length so_far.line)) [
      | inl some ↦
          let some_kept : 0 < length kept = omega (arith, some, ap length so_far.first, length-take 85 so_far.line) in
          let yes : there ≡ true = is ∙ ap not (ne_eqb (length kept) 0 (λ e. omega (arith, e, some_kept))) in
          rw yes (
            so_far.line,
            ap lines whole ∙ line_left so_far.line so_far.none some ∙ ap (λ bytes. so_far.line ∷ lines bytes) (sym end),
            subst (IsKeptOf so_far.line) (sym so_far.first) (kept_left so_far.line),
          )
      | inr empty ↦
          let nothing : so_far.line ≡ [] = no_bytes so_far.line empty in
          let no : there ≡ false = is ∙ ap (λ bytes. not (length bytes == 0)) (so_far.first ∙ ap (take 85) nothing) in
          rw no (whole ∙ nothing, end)
    ]
  where
    no_bytes : (bytes : List ℕ) → length bytes ≤ 0 → bytes ≡ []
    no_bytes [] none = refl
    no_bytes (byte ∷ bytes) none = absurd (omega arith)

-- a byte is kept if the line has fewer bytes than it may have
pub kept_byte : (n : ℕ) (old : List ℕ) (byte : ℕ) → length old < n → old ++ byte ∷ [] ≡ take n (old ++ byte ∷ [])
kept_byte n old byte less = sym (take_all n (old ++ byte ∷ []) (omega (arith, less, length-append old (byte ∷ []))))

-- a full line keeps no further byte
pub full_line : (n : ℕ) (old : List ℕ) (byte : ℕ) → length old ≡ n → old ≡ take n (old ++ byte ∷ [])
full_line n old byte full =
    sym (take_first n old (byte ∷ []) (omega (arith, full)) ∙ take_all n old (omega (arith, full)))

-- a read into a buffer of one byte gave that byte
pub one_byte : (count : ℕ) (buffer : List ℕ) (byte : ℕ) → length buffer ≡ 1 → count ≤ length buffer → (count ≡ 0 → ⊥) → get_or buffer 0 0 ≡ byte
    → take count buffer ≡ byte ∷ []
one_byte count [] byte one most some is = absurd (omega (arith, one))
one_byte count (first ∷ []) byte one most some is =
    let same : count ≡ 1 = one_only count (omega (arith, most)) some in
    rw (same, is) refl
  where
    one_only : (n : ℕ) → n ≤ 1 → (n ≡ 0 → ⊥) → n ≡ 1
    one_only zero most some = absurd (some refl)
    one_only (suc n) most some = omega arith
one_byte count (first ∷ second ∷ more) byte one most some is = absurd (omega (arith, one))
