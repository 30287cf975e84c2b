-- Lines of a body that are read whole.
use Rattle.std.proofs.Common.{ok_or, ◌≡◌, ◌≢◌, ◌⊎◌, inl, inr, ℕ, zero, suc, ◌+◌, ◌-◌, ◌*◌, ◌%◌, ◌^◌, ◌<◌, ◌≤◌, Bool, true, false, ◌==◌, ◌||◌, List, [], ◌∷◌, ◌++◌, length, get_or, take, drop, Option, Some, None, refl, ap, sym, subst, ◌∙◌, arith, append_assoc, append-nil, add-one}
use Rattle.std.specs.Prelude.{if◌then◌else◌, bit_or, IfSome}
use Rattle.std.specs.Option.{option_map, option_and_then}
use Rattle.std.proofs.Math.Seq.{take-suc}
use Rattle.std.proofs.lemmas.Bool.Decides.{eqb_tells, nat_tests}
use Rattle.std.proofs.lemmas.List.{take_rest}
use Rattle.std.proofs.lemmas.Nat.{or_shifted}
use Rattle.vme_vcd_reader.specs.declared.bits.Bits.{Bits}
use Rattle.vme_vcd_reader.specs.declared.bits.Level.{Level}
use Rattle.vme_vcd_reader.specs.declared.bits.Level.TheVariants as levels
use Rattle.vme_vcd_reader.specs.declared.bus.BusLines.{BusLines}
use Rattle.vme_vcd_reader.specs.declared.quick.Quick.{Quick}
use Rattle.vme_vcd_reader.specs.declared.table.Row.{Row}
use Rattle.vme_vcd_reader.specs.Bodies.{Moment, Reading, Shown, after_byte, byte_taken, line_after, next_line, time_taken}
use Rattle.vme_vcd_reader.specs.Levels.{level_of, levels_of, put, value_of, with_levels}
use Rattle.vme_vcd_reader.specs.Faults.{byte_flaw, time_flaw}
use Rattle.vme_vcd_reader.specs.Lines.{HasNoBlank, IsChangeLine, IsNameLine, IsTimeLine, between, bytes_taken, line_ended, list_of, shown_first}
use Rattle.vme_vcd_reader.specs.Names.{identifier_of, no_identifier, with_character}
use Rattle.vme_vcd_reader.specs.Samples.{samples_by, samples_of}
use Rattle.vme_vcd_reader.specs.Tables.{has_variable, variables_after}
use Rattle.vme_vcd_reader.specs.Words.{Awaited, Statement, Variable, Silence, At, blank_says, is_blank, number_from, with_digit}
use Rattle.vme_vcd_reader.proofs.Bodies.{says_result, ended, reading, says_taken}
use Rattle.vme_vcd_reader.proofs.Digits.{numbers_more}

-- bytes after one that completes no sample
abbrev then_bytes : List Row → List ℕ → Reading × Option Shown → Option (Reading × List Shown)
then_bytes rows bs taken = option_map (shown_first taken.1) (bytes_taken rows taken.0 bs)

silent : (o : Option (Reading × List Shown)) → option_map (shown_first None) o ≡ o
silent None = refl
silent (Some more) = refl

listed_by : (r : Reading) (shown : Option Shown) → shown_first shown (r, []) ≡ (r, list_of shown)
listed_by r None = refl
listed_by r (Some shown) = refl

listed : (rows : List Row) (o : Option (Reading × Option Shown))
    → option_and_then (then_bytes rows []) o ≡ option_map (λ (taken : Reading × Option Shown). (taken.0, list_of taken.1)) o
listed rows None = refl
listed rows (Some taken) = ap Some (listed_by taken.0 taken.1)

-- a byte within a word ends no line
no_feed : (b : ℕ) → is_blank b ≡ false → (b == 10) ≡ false
no_feed b within = grind (arith, nat_tests)

within_line : (b line : ℕ) → is_blank b ≡ false → line_after b line ≡ line
within_line b line within = ap (λ feed. if feed then next_line line else line) (no_feed b within)

-- a byte within a word
within_taken : (rows : List Row) (awaited : Awaited) (word : List ℕ) (b : ℕ) (lines : BusLines) (time : Option Moment) (changed : Bool) (line : ℕ) → is_blank b ≡ false
    → byte_taken rows (reading awaited word lines time changed line) b ≡ Some (reading awaited (word ++ b ∷ []) lines time changed line, None)
within_taken rows awaited word b lines time changed line within =
    ap (λ blank. option_map (after_byte b) (says_taken rows (reading awaited word lines time changed line)
    (if blank then blank_says awaited word else Some ((awaited, word ++ b ∷ []), Silence)))) within
    ∙ ap (λ line. Some (reading awaited (word ++ b ∷ []) lines time changed line, None)) (within_line b line within)

-- bytes within a word
word_taken : (rows : List Row) (awaited : Awaited) (word bs more : List ℕ) (lines : BusLines) (time : Option Moment) (changed : Bool) (line : ℕ) → HasNoBlank bs
    → bytes_taken rows (reading awaited word lines time changed line) (bs ++ more) ≡ bytes_taken rows (reading awaited (word ++ bs) lines time changed line) more
word_taken rows awaited word [] more lines time changed line whole =
    ap (λ word. bytes_taken rows (reading awaited word lines time changed line) more) (sym (append-nil word))
word_taken rows awaited word (b ∷ bs) more lines time changed line whole =
    ap (option_and_then (then_bytes rows (bs ++ more))) (within_taken rows awaited word b lines time changed line whole.0)
    ∙ silent (bytes_taken rows (reading awaited (word ++ b ∷ []) lines time changed line) (bs ++ more))
    ∙ word_taken rows awaited (word ++ b ∷ []) bs more lines time changed line whole.1
    ∙ ap (λ word. bytes_taken rows (reading awaited word lines time changed line) more) (append_assoc word (b ∷ []) bs)

-- bytes within a word, and the samples of the text after them
word_shown : (rows : List Row) (awaited : Awaited) (word bs more : List ℕ) (lines : BusLines) (time : Option Moment) (changed : Bool) (line : ℕ) → HasNoBlank bs
    → samples_of rows (reading awaited word lines time changed line) (bs ++ more) ≡ samples_of rows (reading awaited (word ++ bs) lines time changed line) more
word_shown rows awaited word [] more lines time changed line whole =
    ap (λ word. samples_of rows (reading awaited word lines time changed line) more) (sym (append-nil word))
word_shown rows awaited word (b ∷ bs) more lines time changed line whole =
    ap (λ o. samples_by rows (ok_or o (byte_flaw (reading awaited word lines time changed line) b)) (bs ++ more)) (within_taken rows awaited word b lines time changed line whole.0)
    ∙ word_shown rows awaited (word ++ b ∷ []) bs more lines time changed line whole.1
    ∙ ap (λ word. samples_of rows (reading awaited word lines time changed line) more) (append_assoc word (b ∷ []) bs)

-- after a change of a variable
abbrev changed_by : List Row → ℕ → Bits → BusLines → Option Moment → Bool → ℕ → Option (Reading × List Shown)
changed_by rows identifier bits lines time changed line =
    Some (between (variables_after rows identifier bits lines) time (changed || has_variable rows identifier) (next_line line), [])

-- a change of a bit
low_taken : (rows : List Row) (c : ℕ) (cs : List ℕ) (lines : BusLines) (time : Option Moment) (changed : Bool) (line : ℕ) → HasNoBlank (c ∷ cs)
    → bytes_taken rows (between lines time changed line) ((48 ∷ c ∷ cs) ++ 10 ∷ [])
    ≡ changed_by rows (identifier_of (c ∷ cs)) (value_of (levels.Low ∷ [])) lines time changed line
low_taken rows c cs lines time changed line whole = word_taken rows Statement [] (48 ∷ c ∷ cs) (10 ∷ []) lines time changed line (refl, whole)

high_taken : (rows : List Row) (c : ℕ) (cs : List ℕ) (lines : BusLines) (time : Option Moment) (changed : Bool) (line : ℕ) → HasNoBlank (c ∷ cs)
    → bytes_taken rows (between lines time changed line) ((49 ∷ c ∷ cs) ++ 10 ∷ [])
    ≡ changed_by rows (identifier_of (c ∷ cs)) (value_of (levels.High ∷ [])) lines time changed line
high_taken rows c cs lines time changed line whole = word_taken rows Statement [] (49 ∷ c ∷ cs) (10 ∷ []) lines time changed line (refl, whole)

-- a line is what stands before the rest
line_of : (first : ℕ) (line rest text : List ℕ) → text ≡ line ++ 10 ∷ rest → first ∷ text ≡ ((first ∷ line) ++ 10 ∷ []) ++ rest
line_of first line rest text is = ap (λ text. first ∷ text) (is ∙ sym (append_assoc line (10 ∷ []) rest))

pub low_line : (text rest whole : List ℕ) (identifier : ℕ) (bits : Bits) → whole ≡ 48 ∷ text → IsNameLine text rest identifier
    → bits ≡ record { ones = 0; free = 0; undefined = 0 } → IsChangeLine whole rest identifier bits
low_line text rest whole identifier bits at name is = record {
  line = (48 ∷ name.first ∷ name.more) ++ 10 ∷ [];
  text_is = at ∙ line_of 48 (name.first ∷ name.more) rest text name.text_is;
  some = omega arith;
  says = λ rows lines time changed line. low_taken rows name.first name.more lines time changed line name.whole
      ∙ ap (λ n. changed_by rows n (value_of (levels.Low ∷ [])) lines time changed line) (sym name.number)
      ∙ ap (λ bits. changed_by rows identifier bits lines time changed line) (sym is);
}

pub high_line : (text rest whole : List ℕ) (identifier : ℕ) (bits : Bits) → whole ≡ 49 ∷ text → IsNameLine text rest identifier
    → bits ≡ record { ones = 1; free = 0; undefined = 0 } → IsChangeLine whole rest identifier bits
high_line text rest whole identifier bits at name is = record {
  line = (49 ∷ name.first ∷ name.more) ++ 10 ∷ [];
  text_is = at ∙ line_of 49 (name.first ∷ name.more) rest text name.text_is;
  some = omega arith;
  says = λ rows lines time changed line. high_taken rows name.first name.more lines time changed line name.whole
      ∙ ap (λ n. changed_by rows n (value_of (levels.High ∷ [])) lines time changed line) (sym name.number)
      ∙ ap (λ bits. changed_by rows identifier bits lines time changed line) (sym is);
}

-- digits that are 0 or 1
abbrev pub AreBits : List ℕ → Type 0
AreBits [] = Unit {0}
AreBits (d ∷ ds) = ((d ≡ 48) ⊎ (d ≡ 49)) × AreBits ds

-- the number that they spell after n, by its last 64 bits
abbrev pub ones_from : ℕ → List ℕ → ℕ
ones_from n [] = n
ones_from n (d ∷ ds) = ones_from (put n (d - 48)) ds

pub bits_more : (ds : List ℕ) (d : ℕ) → AreBits ds → (d ≡ 48) ⊎ (d ≡ 49) → AreBits (ds ++ d ∷ [])
bits_more [] d are is = (is, tt)
bits_more (x ∷ ds) d are is = (are.0, bits_more ds d are.1 is)

pub ones_more : (ds : List ℕ) (n d : ℕ) → ones_from n (ds ++ d ∷ []) ≡ put (ones_from n ds) (d - 48)
ones_more [] n d = refl
ones_more (x ∷ ds) n d = ones_more ds (put n (x - 48)) d

-- the bits of a number
abbrev ones_bits : ℕ → Bits
ones_bits n = record { ones = n; free = 0; undefined = 0 }

-- their levels
record AreLevels (ds : List ℕ) (n : ℕ) : Type 0 where
  levels : List Level
  are : levels_of ds ≡ Some levels
  bits : with_levels (ones_bits n) levels ≡ ones_bits (ones_from n ds)
  value : value_of levels ≡ with_levels (ones_bits 0) levels

levels_by : (d : ℕ) (ds : List ℕ) (n : ℕ) → (d ≡ 48) ⊎ (d ≡ 49) → AreLevels ds (put n (d - 48)) → AreLevels (d ∷ ds) n
levels_by d ds n (inl is) more = record {
  levels = levels.Low ∷ more.levels;
  are = ap (λ d. option_and_then (λ level. option_map (λ levels. level ∷ levels) (levels_of ds)) (level_of d)) is
      ∙ ap (option_map (λ (ls : List Level). levels.Low ∷ ls)) more.are;
  bits = ap (λ d. with_levels (ones_bits (put n (d - 48))) more.levels) (sym is) ∙ more.bits;
  value = refl;
}
levels_by d ds n (inr is) more = record {
  levels = levels.High ∷ more.levels;
  are = ap (λ d. option_and_then (λ level. option_map (λ levels. level ∷ levels) (levels_of ds)) (level_of d)) is
      ∙ ap (option_map (λ (ls : List Level). levels.High ∷ ls)) more.are;
  bits = ap (λ d. with_levels (ones_bits (put n (d - 48))) more.levels) (sym is) ∙ more.bits;
  value = refl;
}

are_levels : (ds : List ℕ) (n : ℕ) → AreBits ds → AreLevels ds n
are_levels [] n are = record { levels = []; are = refl; bits = refl; value = refl }
are_levels (d ∷ ds) n are = levels_by d ds n are.0 (are_levels ds (put n (d - 48)) are.1)

-- digits that are 0 or 1 are no blanks
bit_whole : (d : ℕ) → (d ≡ 48) ⊎ (d ≡ 49) → is_blank d ≡ false
bit_whole d (inl is) = ap is_blank is
bit_whole d (inr is) = ap is_blank is

bits_whole : (ds : List ℕ) → AreBits ds → HasNoBlank ds
bits_whole [] are = tt
bits_whole (d ∷ ds) are = (bit_whole d are.0, bits_whole ds are.1)

-- a change of a vector: its digits, a space, its identifier and a line feed
digits_taken : (rows : List Row) (d : ℕ) (ds more : List ℕ) (ls : List Level) (lines : BusLines) (time : Option Moment) (changed : Bool) (line : ℕ)
    → levels_of (d ∷ ds) ≡ Some ls
    → bytes_taken rows (reading Statement (98 ∷ d ∷ ds) lines time changed line) (32 ∷ more)
    ≡ bytes_taken rows (reading (Variable ls) [] lines time changed line) more
digits_taken rows d ds more ls lines time changed line are =
    ap (λ (o : Option (List Level)). option_and_then (then_bytes rows more) (option_map (after_byte 32)
    (says_taken rows (reading Statement (98 ∷ d ∷ ds) lines time changed line) (ended (option_map (λ levels. (Variable levels, Silence)) o))))) are
    ∙ silent (bytes_taken rows (reading (Variable ls) [] lines time changed line) more)

vector_taken : (rows : List Row) (d : ℕ) (ds : List ℕ) (c : ℕ) (cs : List ℕ) (lines : BusLines) (time : Option Moment) (changed : Bool) (line : ℕ)
    → AreBits (d ∷ ds) → HasNoBlank (c ∷ cs)
    → bytes_taken rows (between lines time changed line) ((98 ∷ d ∷ ds) ++ 32 ∷ ((c ∷ cs) ++ 10 ∷ []))
    ≡ changed_by rows (identifier_of (c ∷ cs)) (ones_bits (ones_from 0 (d ∷ ds))) lines time changed line
vector_taken rows d ds c cs lines time changed line are whole =
    let known : AreLevels (d ∷ ds) 0 = are_levels (d ∷ ds) 0 are in
    word_taken rows Statement [] (98 ∷ d ∷ ds) (32 ∷ ((c ∷ cs) ++ 10 ∷ [])) lines time changed line (refl, bits_whole (d ∷ ds) are)
    ∙ digits_taken rows d ds ((c ∷ cs) ++ 10 ∷ []) known.levels lines time changed line known.are
    ∙ word_taken rows (Variable known.levels) [] (c ∷ cs) (10 ∷ []) lines time changed line whole
    ∙ ap (λ bits. changed_by rows (identifier_of (c ∷ cs)) bits lines time changed line) (known.value ∙ known.bits)

vector_text : (d : ℕ) (ds name rest text whole : List ℕ) → whole ≡ 98 ∷ ((d ∷ ds) ++ 32 ∷ text) → text ≡ name ++ 10 ∷ rest
    → whole ≡ ((98 ∷ d ∷ ds) ++ 32 ∷ (name ++ 10 ∷ [])) ++ rest
vector_text d ds name rest text whole at is =
    at ∙ ap (λ text. (98 ∷ d ∷ ds) ++ 32 ∷ text) (is ∙ sym (append_assoc name (10 ∷ []) rest))
    ∙ sym (append_assoc (98 ∷ d ∷ ds) (32 ∷ (name ++ 10 ∷ [])) rest)

vector_by : (digits text rest whole : List ℕ) (identifier : ℕ) (bits : Bits) → AreBits digits → 0 < length digits → whole ≡ 98 ∷ (digits ++ 32 ∷ text)
    → IsNameLine text rest identifier → bits ≡ ones_bits (ones_from 0 digits) → IsChangeLine whole rest identifier bits
vector_by [] text rest whole identifier bits are some at name is = absurd (omega arith)
vector_by (d ∷ ds) text rest whole identifier bits are some at name is = record {
  line = (98 ∷ d ∷ ds) ++ 32 ∷ ((name.first ∷ name.more) ++ 10 ∷ []);
  text_is = vector_text d ds (name.first ∷ name.more) rest text whole at name.text_is;
  some = omega arith;
  says = λ rows lines time changed line. vector_taken rows d ds name.first name.more lines time changed line are name.whole
      ∙ ap (λ n. changed_by rows n (ones_bits (ones_from 0 (d ∷ ds))) lines time changed line) (sym name.number)
      ∙ ap (λ bits. changed_by rows identifier bits lines time changed line) (sym is);
}

-- a text by its bytes up to a place, that at the place, and those after it
split_at : (s : List ℕ) (k : ℕ) → k < length s → s ≡ take k s ++ get_or s k 0 ∷ drop (suc k) s
split_at [] k within = absurd (omega arith)
split_at (x ∷ s) zero within = refl
split_at (x ∷ s) (suc k) within = ap (λ s. x ∷ s) (split_at s k (omega arith))

take_some : (s : List ℕ) (k : ℕ) → k < length s → length (take k s) ≡ k
take_some [] k within = absurd (omega arith)
take_some (x ∷ s) zero within = refl
take_some (x ∷ s) (suc k) within = ap suc (take_some s k (omega arith))

-- the digits of a vector up to a space
vector_line : (digits tail rest : List ℕ) (k identifier : ℕ) (bits : Bits) → 0 < k → k < length digits → get_or digits k 0 ≡ 32
    → AreBits (take k digits) → tail ≡ drop (suc k) digits → IsNameLine tail rest identifier → bits ≡ ones_bits (ones_from 0 (take k digits))
    → IsChangeLine (98 ∷ digits) rest identifier bits
vector_line digits tail rest k identifier bits some within here are after name is =
    vector_by (take k digits) tail rest (98 ∷ digits) identifier bits are (omega (arith, take_some digits k within))
    (ap (λ s. 98 ∷ s) (split_at digits k within) ∙ ap (λ c. 98 ∷ (take k digits ++ c ∷ drop (suc k) digits)) here
    ∙ ap (λ tail. 98 ∷ (take k digits ++ 32 ∷ tail)) (sym after))
    name is

pub vector_end : (o : Option Quick) (digits tail : List ℕ) (k ones : ℕ) → 0 < k → k < length digits → get_or digits k 0 ≡ 32
    → AreBits (take k digits) → ones ≡ ones_from 0 (take k digits) → tail ≡ drop (suc k) digits
    → IfSome o (λ quick. IsNameLine tail quick.rest.now quick.identifier)
    → IfSome o (λ quick. quick.bits ≡ record { ones = ones; free = 0; undefined = 0 })
    → IfSome o (λ quick. IsChangeLine (98 ∷ digits) quick.rest.now quick.identifier quick.bits)
vector_end None digits tail k ones some within here are is after name bits = tt
vector_end (Some quick) digits tail k ones some within here are is after name bits =
    vector_line digits tail quick.rest.now k quick.identifier quick.bits some within here are after name (bits ∙ ap ones_bits is)

-- a text by its first byte, or its first two
pub text_first : (text : List ℕ) (a : ℕ) → 1 ≤ length text → get_or text 0 0 ≡ a → text ≡ a ∷ take (length text - 1) (drop 1 text)
text_first [] a long first = absurd (omega arith)
text_first (x ∷ rest) a long first = rw (first, take_rest (x ∷ rest) 1) refl

pub text_second : (text : List ℕ) (a b : ℕ) → 2 ≤ length text → get_or text 0 0 ≡ a → get_or text 1 0 ≡ b
    → text ≡ a ∷ b ∷ take (length text - 2) (drop 2 text)
text_second [] a b long first second = absurd (omega arith)
text_second (x ∷ []) a b long first second = absurd (omega arith)
text_second (x ∷ y ∷ rest) a b long first second = rw (first, second, take_rest (x ∷ y ∷ rest) 2) refl

-- the change of a text by its first byte
pub first_end : (o : Option Quick) (text : List ℕ) (a : ℕ) → 1 ≤ length text → get_or text 0 0 ≡ a
    → IfSome o (λ quick. IsChangeLine (a ∷ take (length text - 1) (drop 1 text)) quick.rest.now quick.identifier quick.bits)
    → IfSome o (λ quick. IsChangeLine text quick.rest.now quick.identifier quick.bits)
first_end None text a long first line = tt
first_end (Some quick) text a long first line =
    subst (λ text. IsChangeLine text quick.rest.now quick.identifier quick.bits) (sym (text_first text a long first)) line

-- the change of a bit by its level
bit_line : (d : ℕ) (tail rest : List ℕ) (identifier : ℕ) (bits : Bits) → (d ≡ 48) ⊎ (d ≡ 49) → IsNameLine tail rest identifier
    → bits ≡ ones_bits (d - 48) → IsChangeLine (d ∷ tail) rest identifier bits
bit_line d tail rest identifier bits (inl is) name value =
    low_line tail rest (d ∷ tail) identifier bits (ap (λ d. d ∷ tail) is) name (value ∙ ap (λ d. ones_bits (d - 48)) is)
bit_line d tail rest identifier bits (inr is) name value =
    high_line tail rest (d ∷ tail) identifier bits (ap (λ d. d ∷ tail) is) name (value ∙ ap (λ d. ones_bits (d - 48)) is)

above : (d : ℕ) → 48 ≤ d → d ≤ 49 → d ≢ 48 → d ≡ 49
above d low high other = omega arith

pub bit_by : (d : ℕ) → 48 ≤ d → d ≤ 49 → (d ≡ 48) ⊎ (d ≡ 49)
bit_by d low high =
    elim (eqb_tells d 48) as (λ v. (d ≡ 48) ⊎ (d ≡ 49)) [ inl is ↦ inl is.1 | inr other ↦ inr (above d low high other.1) ]

pub bit_end : (o : Option Quick) (text : List ℕ) (n : ℕ) → 1 ≤ length text → 48 ≤ get_or text 0 0 → get_or text 0 0 ≤ 49 → n ≡ get_or text 0 0 - 48
    → IfSome o (λ quick. IsNameLine (take (length text - 1) (drop 1 text)) quick.rest.now quick.identifier)
    → IfSome o (λ quick. quick.bits ≡ record { ones = n; free = 0; undefined = 0 })
    → IfSome o (λ quick. IsChangeLine text quick.rest.now quick.identifier quick.bits)
bit_end None text n long low high is name bits = tt
bit_end (Some quick) text n long low high is name bits =
    subst (λ text. IsChangeLine text quick.rest.now quick.identifier quick.bits) (sym (text_first text (get_or text 0 0) long refl))
    (bit_line (get_or text 0 0) (take (length text - 1) (drop 1 text)) quick.rest.now quick.identifier quick.bits
    (bit_by (get_or text 0 0) low high) name (bits ∙ ap ones_bits is))

-- a time: its digits and a line feed
time_taken_by : (rows : List Row) (d : ℕ) (ds : List ℕ) (time : ℕ) (lines : BusLines) (before : Option Moment) (changed : Bool) (line : ℕ)
    → HasNoBlank (d ∷ ds) → number_from 0 (d ∷ ds) ≡ Some time
    → bytes_taken rows (between lines before changed line) ((35 ∷ d ∷ ds) ++ 10 ∷ [])
    ≡ option_map (λ taken. (taken.0, list_of taken.1)) (line_ended (time_taken (between lines before changed line) before time))
time_taken_by rows d ds time lines before changed line whole is =
    word_taken rows Statement [] (35 ∷ d ∷ ds) (10 ∷ []) lines before changed line (refl, whole)
    ∙ ap (λ (o : Option ℕ). option_and_then (then_bytes rows []) (option_map (after_byte 10)
    (says_taken rows (reading Statement (35 ∷ d ∷ ds) lines before changed line) (ended (option_map (λ time. (Statement, At time)) o))))) is
    ∙ listed rows (line_ended (time_taken (between lines before changed line) before time))

-- the samples of a text after it
time_shown : (rows : List Row) (d : ℕ) (ds : List ℕ) (time : ℕ) (lines : BusLines) (before : Option Moment) (changed : Bool) (line : ℕ) (more : List ℕ)
    → HasNoBlank (d ∷ ds) → number_from 0 (d ∷ ds) ≡ Some time
    → samples_of rows (between lines before changed line) (((35 ∷ d ∷ ds) ++ 10 ∷ []) ++ more)
    ≡ samples_by rows (ok_or (line_ended (time_taken (between lines before changed line) before time)) (time_flaw line)) more
time_shown rows d ds time lines before changed line more whole is =
    ap (samples_of rows (between lines before changed line)) (append_assoc (35 ∷ d ∷ ds) (10 ∷ []) more)
    ∙ word_shown rows Statement [] (35 ∷ d ∷ ds) (10 ∷ more) lines before changed line (refl, whole)
    ∙ ap (λ (o : Option ℕ). samples_by rows (says_result rows (reading Statement (35 ∷ d ∷ ds) lines before changed line) 10 true
    (ended (option_map (λ time. (Statement, At time)) o)) (ended (option_map (λ time. (Statement, At time)) o))) more) is

time_by : (digits rest text : List ℕ) (time : ℕ) → HasNoBlank digits → 0 < length digits → number_from 0 digits ≡ Some time
    → text ≡ 35 ∷ (digits ++ 10 ∷ rest) → IsTimeLine text rest time
time_by [] rest text time whole some is at = absurd (omega arith)
time_by (d ∷ ds) rest text time whole some is at = record {
  line = (35 ∷ d ∷ ds) ++ 10 ∷ [];
  text_is = at ∙ sym (append_assoc (35 ∷ d ∷ ds) (10 ∷ []) rest);
  some = omega arith;
  says = λ rows lines before changed line. time_taken_by rows d ds time lines before changed line whole is;
  shows = λ rows lines before changed line more. time_shown rows d ds time lines before changed line more whole is;
}

pub time_line : (text digits rest : List ℕ) (k time : ℕ) → 1 ≤ length text → get_or text 0 0 ≡ 35
    → digits ≡ take (length text - 1) (drop 1 text) → 0 < k → k < length digits → get_or digits k 0 ≡ 10 → HasNoBlank (take k digits)
    → number_from 0 (take k digits) ≡ Some time → rest ≡ drop (suc k) digits → IsTimeLine text rest time
time_line text digits rest k time long first at some within here whole is after =
    time_by (take k digits) rest text time whole (omega (arith, take_some digits k within)) is
    (text_first text 35 long first ∙ ap (λ s. 35 ∷ s) (sym at) ∙ ap (λ s. 35 ∷ s) (split_at digits k within)
    ∙ ap (λ c. 35 ∷ (take k digits ++ c ∷ drop (suc k) digits)) here
    ∙ ap (λ rest. 35 ∷ (take k digits ++ 10 ∷ rest)) (sym after))

-- what a read of the rest of a text gives
pub rest_at : (s rest : List ℕ) (n k : ℕ) → n ≡ suc k → rest ≡ take (length s - n) (drop n s) → rest ≡ drop (suc k) s
rest_at s rest n k at is = is ∙ take_rest s n ∙ ap (λ n. drop n s) at

-- one more digit of a time
pub whole_more : (ds : List ℕ) (d : ℕ) → HasNoBlank ds → is_blank d ≡ false → HasNoBlank (ds ++ d ∷ [])
whole_more [] d whole is = (is, tt)
whole_more (x ∷ ds) d whole is = (whole.0, whole_more ds d whole.1 is)

digit_is : (n d m : ℕ) → n < 2 ^ 60 → 48 ≤ d → d ≤ 57 → m ≡ 10 * n + (d - 48) → with_digit n d ≡ Some m
digit_is n d m small low high is = grind (arith, nat_tests)

pub number_more : (ds : List ℕ) (n d m : ℕ) → number_from 0 ds ≡ Some n → n < 2 ^ 60 → 48 ≤ d → d ≤ 57 → m ≡ 10 * n + (d - 48)
    → number_from 0 (ds ++ d ∷ []) ≡ Some m
number_more ds n d m are small low high is =
    numbers_more ds 0 n d [] are ∙ ap (option_and_then (λ k. number_from k [])) (digit_is n d m small low high is)

-- a number with one more bit
pub or_put : (n bit : ℕ) → bit ≤ 1 → bit_or ((n * 2 ^ 1) % 2 ^ 64) bit ≡ put n bit
or_put n bit small =
    let low : (n * 2 ^ 1) % 2 ^ 64 ≡ (n % 2 ^ 63) * 2 ^ 1 = omega arith in
    ap (λ m. bit_or m bit) low ∙ or_shifted (n % 2 ^ 63) 1 bit (omega arith) ∙ omega arith

take_next : (ds : List ℕ) (k : ℕ) → k < length ds → take (k + 1) ds ≡ take k ds ++ get_or ds k 0 ∷ []
take_next ds k within = ap (λ n. take n ds) (add-one k) ∙ take-suc ds k 0 within

-- a step within the digits of a time
digit_whole : (d : ℕ) → 48 ≤ d → is_blank d ≡ false
digit_whole d low = grind (arith, nat_tests)

pub time_step : (ds : List ℕ) (k n m : ℕ) → k < length ds → 48 ≤ get_or ds k 0 → get_or ds k 0 ≤ 57 → n < 2 ^ 60 → m ≡ 10 * n + (get_or ds k 0 - 48)
    → number_from 0 (take k ds) ≡ Some n → number_from 0 (take (k + 1) ds) ≡ Some m
time_step ds k n m within low high small is are =
    ap (number_from 0) (take_next ds k within) ∙ number_more (take k ds) n (get_or ds k 0) m are small low high is

pub whole_step : (ds : List ℕ) (k : ℕ) → k < length ds → 48 ≤ get_or ds k 0 → HasNoBlank (take k ds) → HasNoBlank (take (k + 1) ds)
whole_step ds k within low whole =
    subst HasNoBlank (sym (take_next ds k within)) (whole_more (take k ds) (get_or ds k 0) whole (digit_whole (get_or ds k 0) low))

-- a step within the digits of a vector
pub bits_step : (ds : List ℕ) (k : ℕ) → k < length ds → 48 ≤ get_or ds k 0 → get_or ds k 0 ≤ 49 → AreBits (take k ds) → AreBits (take (k + 1) ds)
bits_step ds k within low high are =
    subst AreBits (sym (take_next ds k within)) (bits_more (take k ds) (get_or ds k 0) are (bit_by (get_or ds k 0) low high))

pub ones_step : (ds : List ℕ) (k n shifted bit : ℕ) → k < length ds → get_or ds k 0 ≤ 49 → n ≡ ones_from 0 (take k ds)
    → shifted ≡ (n * 2 ^ 1) % 2 ^ 64 → bit ≡ get_or ds k 0 - 48 → bit_or shifted bit ≡ ones_from 0 (take (k + 1) ds)
ones_step ds k n shifted bit within high is at last =
    ap (λ m. bit_or m bit) at ∙ or_put n bit (omega arith)
    ∙ ap (λ n. put n bit) is ∙ ap (put (ones_from 0 (take k ds))) last
    ∙ sym (ones_more (take k ds) 0 (get_or ds k 0)) ∙ sym (ap (ones_from 0) (take_next ds k within))

-- a character of an identifier is no blank
pub character_whole : (n c : ℕ) → with_character n c ≢ no_identifier → is_blank c ≡ false
character_whole n c is = grind (arith, nat_tests)
