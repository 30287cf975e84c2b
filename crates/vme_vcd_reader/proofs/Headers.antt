-- A header, word by word.
use Rattle.std.proofs.Common.{◌≡◌, ◌+◌, ◌-◌, ◌^◌, ◌<◌, ◌≤◌, ℕ, suc, zero, Bool, true, false, ◌&&◌, ◌==◌, nat_lt, nat_le, nat_eq, List, [], ◌∷◌, ◌++◌, length, take, min, refl, ap, sym, subst, ◌∙◌, append_assoc, length-take, take_all, arith, rules, tests}
use Rattle.std.specs.Prelude.{if◌then◌else◌, bytes_eq, codes}
use Rattle.arrayvec.specs.ArrayVec.{ArrayVec}
use Rattle.std.proofs.lemmas.List.{take-append-le, length_push}
use Rattle.vme_vcd_reader.specs.declared.fault.VcdFault.TheVariants as faults
use Rattle.vme_vcd_reader.specs.declared.header.Header.{Header}
use Rattle.vme_vcd_reader.specs.declared.header.Next.{Next}
use Rattle.vme_vcd_reader.specs.declared.header.Next.TheVariants as nexts
use Rattle.vme_vcd_reader.specs.declared.header.Progress.{Progress}
use Rattle.vme_vcd_reader.specs.declared.header.Progress.TheVariants as progress
use Rattle.vme_vcd_reader.specs.declared.word.Word.{Word}
use Rattle.vme_vcd_reader.specs.Headers.{Heading, Outcome, Goes, Declares, Ends, Rejects, is_long, is_read, scope_opened, word_read, end_read, other_read, fault_of, cleared, blank_read, byte_read}
use Rattle.vme_vcd_reader.specs.Names.{identifier_of}
use Rattle.vme_vcd_reader.specs.Words.{is_blank}
use Rattle.vme_vcd_reader.specs.Headings.{IsHeading, IsWord, Stands, Reads, ReadsByte, lengths_of, path_of}

-- a word with a place for its next byte
pub short_word : (word : List ℕ) (w : Word) → IsWord word w → length w.bytes.items < 255 → length word < 255
short_word word w is short =
    let taken : length w.bytes.items ≡ min 255 (length word) = ap length is.bytes ∙ length-take 255 word in
    omega (arith, taken, short)

long_is : (n : ℕ) → n ≤ 255 → nat_lt 255 n ≡ false
long_is n few = search (rules, tests)

longer : (n : ℕ) → 255 < n → nat_lt 255 n ≡ true
longer n many = search (rules, tests)

pub word_grows : (word : List ℕ) (b : ℕ) (w : Word) (bytes : ArrayVec ℕ) → IsWord word w → length w.bytes.items < 255
    → bytes.items ≡ w.bytes.items ++ b ∷ [] → IsWord (word ++ b ∷ []) (record { bytes = bytes; is_cut = w.is_cut })
word_grows word b w bytes is short more =
    let few : length word < 255 = short_word word w is short in
    let all : length (word ++ b ∷ []) ≤ 255 = omega (arith, length_push word b) in
    record {
      bytes = more ∙ ap (λ bytes. bytes ++ b ∷ []) (is.bytes ∙ take_all 255 word (omega arith)) ∙ sym (take_all 255 (word ++ b ∷ []) all);
      cut = is.cut ∙ long_is (length word) (omega arith) ∙ sym (long_is (length (word ++ b ∷ [])) all);
    }

-- a word that is full
pub word_full : (word : List ℕ) (b : ℕ) (w : Word) → IsWord word w → length w.bytes.items ≡ 255
    → IsWord (word ++ b ∷ []) (record { bytes = w.bytes; is_cut = true })
word_full word b w is full =
    let taken : length w.bytes.items ≡ min 255 (length word) = ap length is.bytes ∙ length-take 255 word in
    let long : 255 ≤ length word = omega (arith, taken, full) in
    let more : length (word ++ b ∷ []) ≡ length word + 1 = length_push word b in
    record {
      bytes = is.bytes ∙ sym (take-append-le 255 word (b ∷ []) long);
      cut = sym (longer (length (word ++ b ∷ [])) (omega (arith, more, long)));
    }

few_of : (n : ℕ) → nat_lt 255 n ≡ false → n ≤ 255
few_of n short = grind arith

-- a word that is read is kept whole
pub whole_word : (word : List ℕ) (w : Word) → IsWord word w → is_long word ≡ false → w.bytes.items ≡ word
whole_word word w is short = is.bytes ∙ take_all 255 word (few_of (length word) short)

-- a scope is opened
lengths_are : (scopes : List (List ℕ)) → length (lengths_of scopes) ≡ length scopes
lengths_are [] = refl
lengths_are (name ∷ names) = length_push (lengths_of names) (length (path_of names)) ∙ omega (arith, lengths_are names)

pub open_scopes : (h : Heading) (s : Header) → IsHeading h s → length s.lengths.items ≡ length h.scopes
open_scopes h s is = ap length is.stands.lengths ∙ lengths_are h.scopes

abbrev opened : Heading → Heading
opened h = record h { next = nexts.Skipped; scopes = h.word ∷ h.scopes; opened = min (h.opened + 1) (2 ^ 64 - 1) }

scope_by : (h : Heading) (full : Bool) → nat_le 64 (length h.scopes) ≡ full
    → scope_opened h ≡ (if full then Rejects faults.ScopesTooDeep else Goes (opened h))
scope_by h full is = ap (λ full. if full then Rejects faults.ScopesTooDeep else Goes (opened h)) is

is_full : (n : ℕ) → n ≡ 64 → nat_le 64 n ≡ true
is_full n full = search (rules, tests)

has_place : (n : ℕ) → n < 64 → nat_le 64 n ≡ false
has_place n few = search (rules, tests)

pub too_deep : (h : Heading) (s : Header) → IsHeading h s → length s.lengths.items ≡ 64 → faults.ScopesTooDeep ≡ fault_of (scope_opened h)
too_deep h s is full =
    ap fault_of (sym (scope_by h true (is_full (length h.scopes) (sym (open_scopes h s is) ∙ full))))

pub scope_goes : (h : Heading) (s : Header) → IsHeading h s → length s.lengths.items < 64 → scope_opened h ≡ Goes (opened h)
scope_goes h s is few =
    let same : length s.lengths.items ≡ length h.scopes = open_scopes h s is in
    scope_by h false (has_place (length h.scopes) (omega (arith, same, few)))

pub scope_stands : (h : Heading) (s u : Header) → IsHeading h s → is_long h.word ≡ false → length s.lengths.items < 64
    → u.next ≡ nexts.Skipped → u.path.items ≡ (s.path.items ++ s.word.bytes.items) ++ 46 ∷ []
    → u.lengths.items ≡ s.lengths.items ++ length s.path.items ∷ [] → u.scopes ≡ min (s.scopes + 1) (2 ^ 64 - 1)
    → u.size ≡ s.size → u.identifier ≡ s.identifier → u.name ≡ s.name
    → Reads (scope_opened h) progress.More u
scope_stands h s u is short few next path lengths opens size identifier name =
    let word : s.word.bytes.items ≡ h.word = whole_word h.word s.word is.word short in
    subst (λ o. Reads o progress.More u) (sym (scope_goes h s is few)) (
      refl,
      record {
        next = next;
        path = path ∙ ap (λ path. (path ++ s.word.bytes.items) ++ 46 ∷ []) is.stands.path
            ∙ ap (λ word. (path_of h.scopes ++ word) ++ 46 ∷ []) word ∙ append_assoc (path_of h.scopes) h.word (46 ∷ []);
        lengths = lengths ∙ ap (λ lengths. lengths ++ length s.path.items ∷ []) is.stands.lengths
            ∙ ap (λ path. lengths_of h.scopes ++ length path ∷ []) is.stands.path;
        opened = opens ∙ ap (λ n. min (n + 1) (2 ^ 64 - 1)) is.stands.opened;
        size = size ∙ is.stands.size;
        identifier = identifier ∙ is.stands.identifier;
        name = subst (λ name. IsWord h.name name) (sym name) is.stands.name;
      },
    )

-- a word is as long as those that begin with it and are longer than another one are equal to it
eq_taken : (n : ℕ) (word other : List ℕ) → length other < n → bytes_eq (take n word) other ≡ bytes_eq word other
eq_taken zero word other few = absurd (omega arith)
eq_taken (suc n) [] other few = refl
eq_taken (suc n) (c ∷ cs) [] few = refl
eq_taken (suc n) (c ∷ cs) (d ∷ ds) few = ap (λ (same : Bool). nat_eq c d && same) (eq_taken n cs ds (omega arith))

end_by : (h : Heading) (s : Header) (end : Bool) → IsHeading h s → bytes_eq s.word.bytes.items (codes "$end") ≡ end
    → bytes_eq h.word (codes "$end") ≡ end
end_by h s end is is_end =
    sym (eq_taken 255 h.word (codes "$end") (omega arith)) ∙ ap (λ word. bytes_eq word (codes "$end")) (sym is.word.bytes) ∙ is_end

pub long_by : (h : Heading) (s : Header) (long : Bool) → IsHeading h s → (s.word.is_cut && is_read s.next) ≡ long
    → (is_long h.word && is_read h.next) ≡ long
long_by h s long is too =
    ap (λ (cut : Bool). cut && is_read h.next) (sym is.word.cut) ∙ ap (λ next. s.word.is_cut && is_read next) (sym is.stands.next) ∙ too

-- a word, by whether it is too long and whether it is $end
word_by : (h : Heading) (s : Header) (long end : Bool) → IsHeading h s → (s.word.is_cut && is_read s.next) ≡ long
    → bytes_eq s.word.bytes.items (codes "$end") ≡ end
    → word_read h ≡ (if long then Rejects faults.WordTooLong else (if end then end_read h h.next else other_read h h.next))
word_by h s long end is too is_end =
    ap (λ (long : Bool). if long then Rejects faults.WordTooLong else
    (if bytes_eq h.word (codes "$end") then end_read h h.next else other_read h h.next)) (long_by h s long is too)
    ∙ ap (λ (end : Bool). if long then Rejects faults.WordTooLong else (if end then end_read h h.next else other_read h h.next))
    (end_by h s end is is_end)

pub word_ends : (h : Heading) (s : Header) → IsHeading h s → (s.word.is_cut && is_read s.next) ≡ false
    → bytes_eq s.word.bytes.items (codes "$end") ≡ true → word_read h ≡ end_read h h.next
word_ends h s is too is_end = word_by h s false true is too is_end

pub word_goes : (h : Heading) (s : Header) → IsHeading h s → (s.word.is_cut && is_read s.next) ≡ false
    → bytes_eq s.word.bytes.items (codes "$end") ≡ false → word_read h ≡ other_read h h.next
word_goes h s is too is_end = word_by h s false false is too is_end

pub word_too_long : (h : Heading) (s : Header) → IsHeading h s → (s.word.is_cut && is_read s.next) ≡ true → word_read h ≡ Rejects faults.WordTooLong
word_too_long h s is too = word_by h s true (bytes_eq s.word.bytes.items (codes "$end")) is too refl

-- the name of a variable
and_read : (long read : Bool) → read ≡ true → (long && read) ≡ false → long ≡ false
and_read true true is short = short
and_read true false is short = absurd (cc)
and_read false read is short = refl

not_long : (h : Heading) (s : Header) (next : Next) → IsHeading h s → s.next ≡ next → is_read next ≡ true
    → (is_long h.word && is_read h.next) ≡ false → is_long h.word ≡ false
not_long h s next is at read short = and_read (is_long h.word) (is_read h.next) (ap is_read (sym is.stands.next ∙ at) ∙ read) short

other_at : (h : Heading) (s : Header) (next : Next) → IsHeading h s → s.next ≡ next → other_read h h.next ≡ other_read h next
other_at h s next is at = ap (other_read h) (sym is.stands.next ∙ at)

pub name_begins : (h : Heading) (s : Header) (name : Word) (n : ℕ) → IsHeading h s → s.next ≡ nexts.Identifier
    → (is_long h.word && is_read h.next) ≡ false → n ≡ identifier_of s.word.bytes.items → IsWord [] name
    → Reads (other_read h h.next) progress.More (record s { next = nexts.Name; identifier = n; name = name })
name_begins h s name n is at short number empty =
    let word : s.word.bytes.items ≡ h.word = whole_word h.word s.word is.word (not_long h s nexts.Identifier is at refl short) in
    subst (λ o. Reads o progress.More (record s { next = nexts.Name; identifier = n; name = name })) (sym (other_at h s nexts.Identifier is at)) (
      refl,
      record {
        next = refl;
        path = is.stands.path;
        lengths = is.stands.lengths;
        opened = is.stands.opened;
        size = is.stands.size;
        identifier = number ∙ ap identifier_of word;
        name = empty;
      },
    )

pub name_goes : (h : Heading) (s : Header) (name : Word) → IsHeading h s → s.next ≡ nexts.Name
    → (is_long h.word && is_read h.next) ≡ false → IsWord (h.name ++ s.word.bytes.items) name
    → Reads (other_read h h.next) progress.More (record s { name = name })
name_goes h s name is at short more =
    let word : s.word.bytes.items ≡ h.word = whole_word h.word s.word is.word (not_long h s nexts.Name is at refl short) in
    subst (λ o. Reads o progress.More (record s { name = name })) (sym (other_at h s nexts.Name is at)) (
      refl,
      record {
        next = is.stands.next;
        path = is.stands.path;
        lengths = is.stands.lengths;
        opened = is.stands.opened;
        size = is.stands.size;
        identifier = is.stands.identifier;
        name = subst (λ word. IsWord (h.name ++ word) name) word more;
      },
    )

-- a blank ends a word
fault_cleared : (o : Outcome) → fault_of (cleared o) ≡ fault_of o
fault_cleared (Goes h) = refl
fault_cleared (Declares h) = refl
fault_cleared Ends = refl
fault_cleared (Rejects fault) = refl

some_word : (h : Heading) (word : List ℕ) → (length word == 0) ≡ false → blank_read h word ≡ cleared (word_read h)
some_word h [] some = absurd (cc)
some_word h (c ∷ cs) some = refl

pub blank_ends : (h : Heading) (b : ℕ) → is_blank b ≡ true → (length h.word == 0) ≡ false → byte_read h b ≡ cleared (word_read h)
blank_ends h b blank some =
    ap (λ (blank : Bool). if blank then blank_read h h.word else Goes (record h { word = h.word ++ b ∷ [] })) blank ∙ some_word h h.word some

pub blank_fault : (h : Heading) (b : ℕ) → is_blank b ≡ true → (length h.word == 0) ≡ false → fault_of (byte_read h b) ≡ fault_of (word_read h)
blank_fault h b blank some = ap fault_of (blank_ends h b blank some) ∙ fault_cleared (word_read h)

still_stands : (h : Heading) (s : Header) (word : Word) → Stands h s → IsWord [] word
    → IsHeading (record h { word = [] }) (record s { word = word })
still_stands h s word is empty = record {
  stands = record {
    next = is.next;
    path = is.path;
    lengths = is.lengths;
    opened = is.opened;
    size = is.size;
    identifier = is.identifier;
    name = is.name;
  };
  word = empty;
}

clears : (o : Outcome) (it : Progress) (s : Header) (word : Word) → Reads o it s → IsWord [] word → ReadsByte (cleared o) it (record s { word = word })
clears (Goes h) it s word reads empty = (reads.0, still_stands h s word reads.1 empty)
clears (Declares h) it s word reads empty = (reads.0, still_stands h s word reads.1 empty)
clears Ends it s word reads empty = reads
clears (Rejects fault) it s word reads empty = absurd reads

pub blank_reads : (h : Heading) (b : ℕ) (it : Progress) (s : Header) (word : Word) → is_blank b ≡ true → (length h.word == 0) ≡ false
    → Reads (word_read h) it s → IsWord [] word → ReadsByte (byte_read h b) it (record s { word = word })
blank_reads h b it s word blank some reads empty =
    subst (λ o. ReadsByte o it (record s { word = word })) (sym (blank_ends h b blank some)) (clears (word_read h) it s word reads empty)
