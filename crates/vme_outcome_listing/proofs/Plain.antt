-- The texts of replies have no line ends, so each is one line of a text.
use Rattle.std.proofs.Common.{◌≡◌, ℕ, zero, suc, ◌+◌, ◌-◌, ◌/◌, ◌%◌, ◌<◌, Bool, true, false, not, ◌&&◌, ◌||◌, List, [], ◌∷◌, ◌++◌, length, get_or, take, Option, Some, None, refl, ap, sym, ◌∙◌, append_assoc, arith}
use Rattle.std.specs.Prelude.{◌==◌, if◌then◌else◌, codes, nat_lt, slice_index}
use Rattle.std.specs.Bool.{nat_eq}
use Rattle.std.specs.List.{flat_map, list_any, slice_split, onto_first, starts_with}
use Rattle.std.specs.Fmt.{decimal, digits, digits_onto, digit_glyph}
use Rattle.std.specs.Int.{w32, to_be_bytes}
use Rattle.std.specs.Str.Lines.{lines, lines_of_parts, strip_carriage_return}
use Rattle.std.specs.Prelude.{All}
use Rattle.std.proofs.lemmas.Bool.{and_parts, or_parts, ne_eqb, false≢true}
use Rattle.std.proofs.lemmas.List.Elements.{All-nil, All-cons}
use Rattle.std.proofs.lemmas.List.Splits.{slice_split_at}
use Rattle.vme_am.specs.declared.code.AmFault.TheVariants.{TooLarge, UserDefined, Reserved}
use Rattle.vme_cycle.specs.declared.fault.CycleFault.{CycleFault}
use Rattle.vme_cycle.specs.declared.fault.CycleFault.TheVariants.{Code, WrongKindOfCode, ProgramModify, BadCount, OutsideSpace, NoCycle, CrossesBoundary}
use Rattle.vme_master.specs.declared.outcome.Outcome as outcomes
use Rattle.vme_master.specs.declared.outcome.Outcome.TheVariants.{Read, Done, Old, Berr, Denied}
use Rattle.vme_shared.specs.declared.outcome.SharedOutcome.{SharedOutcome}
use Rattle.vme_shared.specs.declared.outcome.SharedOutcome.TheVariants as shared
use Rattle.vme_shared.specs.declared.reply.LineReply.{LineReply}
use Rattle.vme_shared.specs.declared.reply.LineReply.TheVariants.{Transfer, Refused, Met, Timeout, Shared, Unfinished}
use Rattle.vme_grammar.specs.Texts.{digit, hex_byte, hex_text, more_bytes, outcome_text, cycle_fault_text, output_line}
use Rattle.vme_script.specs.ReplyTexts.{place_text, transfer_text, shared_text, reply_text, line_text}

-- whether a byte ends a line, or is left out at its end
abbrev is_end : ℕ → Bool
is_end byte = nat_eq byte 10 || nat_eq byte 13

-- whether a text has no such byte
abbrev pub plain : List ℕ → Bool
plain [] = true
plain (byte ∷ text) = not (is_end byte) && plain text

-- two texts one after another
plain_append : (one other : List ℕ) → plain one ≡ true → plain other ≡ true → plain (one ++ other) ≡ true
plain_append [] other first second = second
plain_append (byte ∷ one) other first second =
    let parts = and_parts (not (is_end byte)) (plain one) first in rw parts.0 (plain_append one other parts.1 second)

-- one of two texts
plain_if : (test : Bool) (one other : List ℕ) → plain one ≡ true → plain other ≡ true → plain (if test then one else other) ≡ true
plain_if true one other first second = first
plain_if false one other first second = second

-- numbers past both
past_ends : (n d : ℕ) → 13 < n → not (is_end (n + d)) ≡ true
past_ends n d less = rw (ne_eqb (n + d) 10 (λ is. omega (arith, is, less)), ne_eqb (n + d) 13 (λ is. omega (arith, is, less))) refl

-- a digit
plain_glyph : (test : Bool) (d : ℕ) → not (is_end (if test then 48 + d else 87 + d)) ≡ true
plain_glyph true d = past_ends 48 d (omega arith)
plain_glyph false d = past_ends 87 d (omega arith)

-- digits before a text
plain_digits : (k n : ℕ) (text : List ℕ) → plain text ≡ true → plain (digits_onto k 10 false n text) ≡ true
plain_digits zero n text rest = rest
plain_digits (suc k) n text rest =
    let glyph = digit_glyph false (n % 10) in
    let more : plain (glyph ∷ text) ≡ true = rw (plain_glyph (nat_lt (n % 10) 10) (n % 10)) rest in
    plain_if (n / 10 == 0) (glyph ∷ text) (digits_onto k 10 false (n / 10) (glyph ∷ text)) more
    (plain_digits k (n / 10) (glyph ∷ text) more)

plain_decimal : (n : ℕ) → plain (decimal n) ≡ true
unfolding digits
plain_decimal n = plain_digits 64 n [] refl

-- an element of a text
plain_at : (text : List ℕ) (i : ℕ) → plain text ≡ true → not (is_end (get_or text i 0)) ≡ true
plain_at [] i whole = refl
plain_at (byte ∷ text) zero whole = (and_parts (not (is_end byte)) (plain text) whole).0
plain_at (byte ∷ text) (suc i) whole = plain_at text i (and_parts (not (is_end byte)) (plain text) whole).1

-- two digits for each byte
plain_hex : (bytes : List ℕ) → plain (hex_text bytes) ≡ true
plain_hex [] = refl
plain_hex (byte ∷ bytes) =
    rw (plain_at (codes "0123456789abcdef") (byte / 16) refl, plain_at (codes "0123456789abcdef") (byte % 16) refl) (plain_hex bytes)

-- a reply
plain_more : (bytes : List ℕ) → plain (more_bytes bytes) ≡ true
plain_more [] = refl
plain_more (byte ∷ bytes) = plain_hex (byte ∷ bytes)

plain_transfer : (outcome : outcomes.Outcome) → plain (transfer_text outcome) ≡ true
unfolding outcome_text
plain_transfer (Read bytes) = plain_append (codes "read ") (hex_text bytes.items) refl (plain_hex bytes.items)
plain_transfer Done = refl
plain_transfer (Old bytes) = plain_append (codes "old ") (hex_text bytes.items) refl (plain_hex bytes.items)
plain_transfer (Berr count bytes) =
    plain_append (codes "berr ") (decimal count ++ more_bytes bytes.items) refl
    (plain_append (decimal count) (more_bytes bytes.items) (plain_decimal count) (plain_more bytes.items))
plain_transfer Denied = refl

plain_shared : (outcome : SharedOutcome) → plain (shared_text outcome) ≡ true
plain_shared shared.Taken = refl
plain_shared shared.Unlocked = refl
plain_shared shared.Busy = refl
plain_shared shared.Put = refl
plain_shared (shared.Took word) = plain_append (codes "took ") (hex_text (to_be_bytes w32 word)) refl (plain_hex (to_be_bytes w32 word))
plain_shared shared.Full = refl
plain_shared shared.Empty = refl
plain_shared shared.Spent = refl
plain_shared shared.Berr = refl
plain_shared shared.Denied = refl

plain_fault : (fault : CycleFault) → plain (cycle_fault_text fault) ≡ true
plain_fault (Code TooLarge) = refl
plain_fault (Code UserDefined) = refl
plain_fault (Code Reserved) = refl
plain_fault WrongKindOfCode = refl
plain_fault ProgramModify = refl
plain_fault BadCount = refl
plain_fault OutsideSpace = refl
plain_fault NoCycle = refl
plain_fault CrossesBoundary = refl

plain_reply : (reply : LineReply) → plain (reply_text reply) ≡ true
plain_reply (Transfer outcome) = plain_transfer outcome
plain_reply (Refused fault) = plain_append (codes "refused ") (cycle_fault_text fault) refl (plain_fault fault)
plain_reply Met = refl
plain_reply Timeout = refl
plain_reply (Shared outcome) = plain_shared outcome
plain_reply Unfinished = refl

-- the place of a reply, and the reply
plain_line : (slot number : ℕ) (reply : LineReply) → plain (place_text slot number ++ reply_text reply) ≡ true
plain_line slot number reply =
    plain_append (place_text slot number) (reply_text reply)
    (plain_append (decimal slot) (codes ":" ++ (decimal number ++ codes " ")) (plain_decimal slot)
    (plain_append (codes ":") (decimal number ++ codes " ") refl
    (plain_append (decimal number) (codes " ") (plain_decimal number) refl)))
    (plain_reply reply)

-- no byte of a plain text ends a line
no_ends : (text : List ℕ) → plain text ≡ true → All (λ b. nat_eq b 10 ≡ false) text
no_ends [] whole = All-nil (λ b. nat_eq b 10 ≡ false)
no_ends (byte ∷ text) whole =
    let parts = and_parts (not (is_end byte)) (plain text) whole in
    All-cons (λ b. nat_eq b 10 ≡ false) byte text (not_first (nat_eq byte 10) (nat_eq byte 13) parts.0) (no_ends text parts.1)
  where
    not_first : (a b : Bool) → not (a || b) ≡ true → a ≡ false
    not_first true b is = absurd (false≢true is)
    not_first false b is = refl

-- and none is left out at its end
whole_line : (text : List ℕ) → plain text ≡ true → strip_carriage_return text ≡ text
whole_line text whole =
    by (nat_eq (slice_index text (length text - 1)) 10) (nat_eq (slice_index text (length text - 1)) 13) (plain_at text (length text - 1) whole)
  where
    by : (a b : Bool) → not (a || b) ≡ true → (if b then take (length text - 1) text else text) ≡ text
    by true b is = absurd (false≢true is)
    by false true is = absurd (false≢true is)
    by false false is = refl

-- the parts of a text are not none
first_part : (text : List ℕ) → (part : List ℕ) × (parts : List (List ℕ)) × (slice_split (λ b. nat_eq b 10) text ≡ part ∷ parts)
first_part [] = ([], [], refl)
first_part (byte ∷ text) = by (nat_eq byte 10) (slice_split (λ b. nat_eq b 10) text)
  where
    by : (test : Bool) (rest : List (List ℕ))
        → (part : List ℕ) × (parts : List (List ℕ)) × ((if test then [] ∷ rest else onto_first byte rest) ≡ part ∷ parts)
    by true rest = ([], rest, refl)
    by false [] = (byte ∷ [], [], refl)
    by false (part ∷ parts) = (byte ∷ part, parts, refl)

-- a plain text with its end is the first line of a text
pub first_line : (line text : List ℕ) → plain line ≡ true → lines (line ++ 10 ∷ text) ≡ line ∷ lines text
first_line line text whole =
    let first = first_part text in
    ap lines_of_parts (slice_split_at (λ b. nat_eq b 10) line 10 text (no_ends line whole) refl)
    ∙ ap (λ (parts : List (List ℕ)). lines_of_parts (line ∷ parts)) first.2
    ∙ ap (λ (own : List ℕ). own ∷ lines_of_parts (first.0 ∷ first.1)) (whole_line line whole)
    ∙ ap (λ (parts : List (List ℕ)). line ∷ lines_of_parts parts) (sym first.2)

-- the line of a reply is the first line of a text
pub reply_line : (slot number : ℕ) (reply : LineReply) (text : List ℕ)
    → lines (line_text slot number reply ++ text) ≡ (place_text slot number ++ reply_text reply) ∷ lines text
unfolding line_text
reply_line slot number reply text =
    let place = place_text slot number in
    let own = reply_text reply in
    ap lines (append_assoc place (own ++ 10 ∷ []) text ∙ ap (λ (t : List ℕ). place ++ t) (append_assoc own (10 ∷ []) text)
    ∙ sym (append_assoc place own (10 ∷ text)))
    ∙ first_line (place ++ own) text (plain_line slot number reply)
