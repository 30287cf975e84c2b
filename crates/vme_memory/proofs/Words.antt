-- Bytes in words: the offsets of a word's bytes, and the effect of a change to one word.
use Rattle.std.proofs.Common.{◌≡◌, ℕ, ◌+◌, ◌-◌, ◌*◌, ◌<◌, ◌≤◌, zero, suc, List, [], ◌∷◌, ◌++◌, length, take, drop, get_or, set, slice_range, replicate, None, min, refl, ap, sym, ◌∙◌, arith}
use Rattle.std.specs.Prelude.{slice_get, ◌/◌, ◌%◌, ◌^◌, bit_or}
use Rattle.std.proofs.lemmas.Grind.{common_steps}
use Rattle.std.proofs.lemmas.List.{set_split, take-append-drop, length-take-le, length-append, length-drop, get_or-drop, take_more, take_min, append-nil, take_at, append_assoc, drop-drop, drop_at, drop-append-le, take-append-le, drop_more}
use Rattle.std.proofs.lemmas.List.Concat.{flat_map-append}
use Rattle.std.proofs.lemmas.Nat.{le_or_l, le_or_r}
use Rattle.std.proofs.lemmas.Option.{slice_get_past}
use Rattle.std.proofs.Math.Seq.{take-add, take-append-add}
use Rattle.vme_memory.specs.Words.{bytes_after_write, word_bytes, bytes_of_words}

-- a word has four bytes
pub word_len : (word : ℕ) → length (word_bytes word) ≡ 4
unfolding word_bytes
word_len word = refl

-- words have four bytes each
pub words_len : (words : List ℕ) → length (bytes_of_words words) ≡ 4 * length words
words_len [] = refl
words_len (word ∷ words) = grind (arith, common_steps, word_len word, words_len words)

-- the bytes of words are those before word i, its own, and those after it
parted :
    (words : List ℕ) (i d : ℕ) → i < length words
    → bytes_of_words words ≡ bytes_of_words (take i words) ++ (word_bytes (get_or words i d) ++ bytes_of_words (drop (i + 1) words))
parted words i d less =
    ap bytes_of_words (sym (take-append-drop i words) ∙ ap (λ rest. take i words ++ rest) (drop_more words i d less))
    ∙ flat_map-append word_bytes (take i words) (get_or words i d ∷ drop (i + 1) words)

-- the words before word i have 4 i bytes
prefix_len : (words : List ℕ) (i : ℕ) → i < length words → length (bytes_of_words (take i words)) ≡ 4 * i
prefix_len words i less = words_len (take i words) ∙ ap (λ n. 4 * n) (length-take-le i words (omega arith))

-- what is dropped past the first of two lists is dropped from the second
drop_past : (before rest : List ℕ) (k p : ℕ) → length before ≡ k → drop (k + p) (before ++ rest) ≡ drop p rest
drop_past before rest k p at = sym (drop-drop p k (before ++ rest)) ∙ ap (drop p) (drop_at before rest k at)

-- what is taken past the first of two lists is the first and a prefix of the second
take_past : (before rest : List ℕ) (k p : ℕ) → length before ≡ k → take (k + p) (before ++ rest) ≡ before ++ take p rest
take_past before rest k p at = ap (λ k. take (k + p) (before ++ rest)) (sym at) ∙ take-append-add before rest p

-- a part of the middle one of three lists is read from it
middle_read :
    (before own after : List ℕ) (k p n : ℕ) → length before ≡ k → p + n ≤ length own
    → take n (drop (k + p) (before ++ (own ++ after))) ≡ take n (drop p own)
middle_read before own after k p n at few =
    let within : p ≤ length own = omega arith in
    ap (take n) (drop_past before (own ++ after) k p at ∙ drop-append-le p own after within)
    ∙ take-append-le n (drop p own) after (grind (arith, common_steps))

-- a write in the middle one of three lists changes only it
middle_written :
    (before own after new : List ℕ) (k p : ℕ) → length before ≡ k → p + length new ≤ length own
    → bytes_after_write (before ++ (own ++ after)) (k + p) new ≡ before ++ (bytes_after_write own p new ++ after)
middle_written before own after new k p at few =
    let within : p ≤ length own = omega arith in
    let prefix : take (k + p) (before ++ (own ++ after)) ≡ before ++ take p own = take_past before (own ++ after) k p at ∙ ap (λ x. before ++ x) (take-append-le p own after within) in
    let same : k + p + length new ≡ k + (p + length new) = omega arith in
    let back : drop (k + p + length new) (before ++ (own ++ after)) ≡ drop (p + length new) own ++ after =
    ap (λ j. drop j (before ++ (own ++ after))) same ∙ drop_past before (own ++ after) k (p + length new) at ∙ drop-append-le (p + length new) own after few in
    rw (prefix, back) (simp append_assoc)

-- n bytes at an offset are a prefix of the bytes from that offset on
range_take : (bytes : List ℕ) (at n : ℕ) → slice_range bytes at (at + n) ≡ take n (drop at bytes)
range_take bytes at n = let same : at + n - at ≡ n = omega arith in ap (λ j. take j (drop at bytes)) same

-- bytes within one word are read from that word
pub read_in_word :
    (words : List ℕ) (i p n d : ℕ) → i < length words → p + n ≤ 4
    → slice_range (bytes_of_words words) (4 * i + p) (4 * i + p + n) ≡ slice_range (word_bytes (get_or words i d)) p (p + n)
read_in_word words i p n d less few =
    let own = word_bytes (get_or words i d) in
    let after = bytes_of_words (drop (i + 1) words) in
    let before = bytes_of_words (take i words) in
    range_take (bytes_of_words words) (4 * i + p) n
    ∙ ap (λ bytes. take n (drop (4 * i + p) bytes)) (parted words i d less)
    ∙ middle_read before own after (4 * i) p n (prefix_len words i less) (omega (arith, word_len (get_or words i d)))
    ∙ sym (range_take own p n)

-- bytes that change in one word are written at their offset among the bytes of all words
pub word_changed :
    (words new : List ℕ) (i p d word : ℕ) → i < length words → p + length new ≤ 4
    → word_bytes word ≡ bytes_after_write (word_bytes (get_or words i d)) p new
    → bytes_of_words (set words i word) ≡ bytes_after_write (bytes_of_words words) (4 * i + p) new
word_changed words new i p d word less few changed =
    let own = word_bytes (get_or words i d) in
    let after = bytes_of_words (drop (i + 1) words) in
    let before = bytes_of_words (take i words) in
    let next : suc i ≡ i + 1 = omega arith in
    let parts : bytes_of_words (set words i word) ≡ before ++ (word_bytes word ++ after) =
    ap bytes_of_words (set_split words i word less ∙ ap (λ j. take i words ++ (word ∷ drop j words)) next)
    ∙ flat_map-append word_bytes (take i words) (word ∷ drop (i + 1) words) in
    parts
    ∙ ap (λ bytes. before ++ (bytes ++ after)) changed
    ∙ sym (middle_written before own after new (4 * i) p (prefix_len words i less) (omega (arith, word_len (get_or words i d))))
    ∙ ap (λ bytes. bytes_after_write bytes (4 * i + p) new) (sym (parted words i d less))

-- consecutive reads are one read
pub read_on :
    (bytes : List ℕ) (at m n : ℕ) → m ≤ n → slice_range bytes at (at + m) ++ slice_range bytes (at + m) (at + m + (n - m)) ≡ slice_range bytes at (at + n)
read_on bytes at m n part =
    let rest = n - m in
    let whole : m + rest ≡ n = omega arith in
    sym (range_take bytes at n
    ∙ ap (λ j. take j (drop at bytes)) (sym whole)
    ∙ take-add m rest (drop at bytes)
    ∙ ap (λ back. take m (drop at bytes) ++ take rest back) (drop-drop m at bytes)
    ∙ sym (ap (λ prefix. prefix ++ slice_range bytes (at + m) (at + m + rest)) (range_take bytes at m)
    ∙ ap (λ back. take m (drop at bytes) ++ back) (range_take bytes (at + m) rest)))

-- consecutive writes are one write
pub written_on :
    (bytes a b : List ℕ) (at : ℕ) → at + length a + length b ≤ length bytes
    → bytes_after_write (bytes_after_write bytes at a) (at + length a) b ≡ bytes_after_write bytes at (a ++ b)
written_on bytes a b at fits =
    let rest = drop (at + length a) bytes in
    let within : at ≤ length bytes = omega arith in
    let upto : length (take at bytes ++ a) ≡ at + length a = length-append (take at bytes) a ∙ ap (λ n. n + length a) (length-take-le at bytes within) in
    let prefix : take (at + length a) (take at bytes ++ a ++ rest) ≡ take at bytes ++ a = take_at (take at bytes ++ a) rest (at + length a) upto in
    let back : drop (at + length a + length b) (take at bytes ++ a ++ rest) ≡ drop (at + length a + length b) bytes =
    sym (drop-drop (length b) (at + length a) (take at bytes ++ a ++ rest))
    ∙ ap (drop (length b)) (drop_at (take at bytes ++ a) rest (at + length a) upto)
    ∙ drop-drop (length b) (at + length a) bytes in
    let long : at + length (a ++ b) ≡ at + length a + length b = omega (arith, length-append a b) in
    rw (prefix, back, long) (simp append_assoc)

-- a write inside bytes that are read and written back is that write alone
pub written_inside :
    (bytes new : List ℕ) (at p n : ℕ) → at + n ≤ length bytes → p + length new ≤ n
    → bytes_after_write bytes at (bytes_after_write (slice_range bytes at (at + n)) p new) ≡ bytes_after_write bytes (at + p) new
written_inside bytes new at p n within few =
    let own = slice_range bytes at (at + n) in
    let after = drop (at + n) bytes in
    let own_len : length own ≡ n = grind (arith, common_steps) in
    let whole : take at bytes ++ (own ++ after) ≡ bytes =
    ap (λ part. take at bytes ++ (part ++ after)) (range_take bytes at n)
    ∙ ap (λ rest. take at bytes ++ (take n (drop at bytes) ++ rest)) (sym (drop-drop n at bytes))
    ∙ ap (λ rest. take at bytes ++ rest) (take-append-drop n (drop at bytes))
    ∙ take-append-drop at bytes in
    let written = bytes_after_write own p new in
    let same : length written ≡ n = grind (arith, common_steps, own_len) in
    let joined : take at bytes ++ written ++ after ≡ take at bytes ++ (written ++ after) = simp append_assoc in
    ap (λ k. take at bytes ++ written ++ drop (at + k) bytes) same
    ∙ joined
    ∙ sym (middle_written (take at bytes) own after new at p (length-take-le at bytes (omega arith)) (omega (arith, own_len)))
    ∙ ap (λ all. bytes_after_write all (at + p) new) whole

-- the bytes after the first i words are those after the first 4 i bytes
pub drop_words : (words : List ℕ) (i : ℕ) → drop (4 * i) (bytes_of_words words) ≡ bytes_of_words (drop i words)
unfolding word_bytes
drop_words words zero = refl
drop_words [] (suc i) = let more : 4 * suc i ≡ suc (suc (suc (suc (4 * i)))) = omega arith in rw more refl
drop_words (word ∷ words) (suc i) = let more : 4 * suc i ≡ suc (suc (suc (suc (4 * i)))) = omega arith in rw more (drop_words words i)

-- the bytes of the first i words are the first 4 i bytes
pub take_words : (words : List ℕ) (i : ℕ) → take (4 * i) (bytes_of_words words) ≡ bytes_of_words (take i words)
unfolding word_bytes
take_words words zero = refl
take_words [] (suc i) = let more : 4 * suc i ≡ suc (suc (suc (suc (4 * i)))) = omega arith in rw more refl
take_words (word ∷ words) (suc i) =
    let more : 4 * suc i ≡ suc (suc (suc (suc (4 * i)))) = omega arith in
    rw more (ap (λ bytes. word / 256 ^ 3 % 256 ∷ word / 256 ^ 2 % 256 ∷ word / 256 ^ 1 % 256 ∷ word % 256 ∷ bytes) (take_words words i))

-- the byte at place p of word i is the byte at offset 4 i + p
pub byte_in_word :
    (words : List ℕ) (i p d : ℕ) → i < length words → p < 4
    → slice_get (bytes_of_words words) (4 * i + p) ≡ slice_get (word_bytes (get_or words i d)) p
unfolding word_bytes
byte_in_word [] i p d less few = absurd (omega arith)
byte_in_word (word ∷ words) zero zero d less few = refl
byte_in_word (word ∷ words) zero (suc zero) d less few = refl
byte_in_word (word ∷ words) zero (suc (suc zero)) d less few = refl
byte_in_word (word ∷ words) zero (suc (suc (suc zero))) d less few = refl
byte_in_word (word ∷ words) zero (suc (suc (suc (suc p)))) d less few = absurd (omega arith)
byte_in_word (word ∷ words) (suc i) p d less few =
    let more : 4 * suc i + p ≡ suc (suc (suc (suc (4 * i + p)))) = omega arith in
    let inside : i < length words = omega arith in
    rw more (byte_in_word words i p d inside few)

-- words of zero are zero bytes
pub zero_words : (n : ℕ) → bytes_of_words (replicate n 0) ≡ replicate (4 * n) 0
unfolding word_bytes
zero_words zero = refl
zero_words (suc n) = let more : 4 * suc n ≡ suc (suc (suc (suc (4 * n)))) = omega arith in rw more (ap (λ bytes. 0 ∷ 0 ∷ 0 ∷ 0 ∷ bytes) (zero_words n))

-- an offset within the bytes is within a word
pub word_there : (words : List ℕ) (at : ℕ) → at < length (bytes_of_words words) → at / 4 < length words
word_there words at less = omega (arith, words_len words)

-- an offset is four times the number of its word, plus its place in the word
split_place : (at : ℕ) → at ≡ 4 * (at / 4) + at % 4
split_place at = omega arith

-- the bytes at an offset that lie within one word are those at their place in that word
pub read_at :
    (words : List ℕ) (at n word : ℕ) → word ≡ get_or words (at / 4) word → at < length (bytes_of_words words) → at % 4 + n ≤ 4
    → slice_range (bytes_of_words words) at (at + n) ≡ slice_range (word_bytes word) (at % 4) (at % 4 + n)
read_at words at n word own less few =
    ap (λ j. slice_range (bytes_of_words words) j (j + n)) (split_place at)
    ∙ read_in_word words (at / 4) (at % 4) n word (word_there words at less) few
    ∙ ap (λ w. slice_range (word_bytes w) (at % 4) (at % 4 + n)) (sym own)

-- bytes that are written within one word are written at their offset
pub written_at :
    (words new : List ℕ) (at old word : ℕ) → old ≡ get_or words (at / 4) old → at < length (bytes_of_words words) → at % 4 + length new ≤ 4
    → word_bytes word ≡ bytes_after_write (word_bytes old) (at % 4) new
    → bytes_of_words (set words (at / 4) word) ≡ bytes_after_write (bytes_of_words words) at new
written_at words new at old word own less few changed =
    word_changed words new (at / 4) (at % 4) old word (word_there words at less) few
    (changed ∙ ap (λ w. bytes_after_write (word_bytes w) (at % 4) new) own)
    ∙ ap (λ j. bytes_after_write (bytes_of_words words) j new) (sym (split_place at))

-- the byte at an offset is the one at its place in its word
pub byte_at :
    (words : List ℕ) (at word : ℕ) → word ≡ get_or words (at / 4) word → at / 4 < length words
    → slice_get (bytes_of_words words) at ≡ slice_get (word_bytes word) (at % 4)
byte_at words at word own less =
    let few : at % 4 < 4 = omega arith in
    ap (slice_get (bytes_of_words words)) (split_place at) ∙ byte_in_word words (at / 4) (at % 4) word less few ∙ ap (λ w. slice_get (word_bytes w) (at % 4)) (sym own)

-- there is no byte past the last word
pub no_byte : (words : List ℕ) (at : ℕ) → length words ≤ at / 4 → slice_get (bytes_of_words words) at ≡ None
no_byte words at past = slice_get_past (bytes_of_words words) at (omega (arith, words_len words))

-- the bytes of a row's words before word i, followed by those of word i, are the bytes of its words before word i + 1
pub row_more :
    (words : List ℕ) (first i word : ℕ) → first ≤ i → i < length words → word ≡ get_or words i word
    → bytes_of_words (take (i - first) (drop first words)) ++ word_bytes word ≡ bytes_of_words (take (i + 1 - first) (drop first words))
row_more words first i word from less own =
    let rest = drop first words in
    let next : i - first + 1 ≡ i + 1 - first = omega arith in
    let back : first + (i - first) ≡ i = omega arith in
    let there : i - first < length rest = omega (arith, length-drop first words) in
    let item : get_or rest (i - first) word ≡ word = get_or-drop first words (i - first) word ∙ ap (λ j. get_or words j word) back ∙ sym own in
    sym (ap (λ n. bytes_of_words (take n rest)) (sym next)
    ∙ ap bytes_of_words (take_more rest (i - first) word there ∙ ap (λ w. take (i - first) rest ++ (w ∷ [])) item)
    ∙ flat_map-append word_bytes (take (i - first) rest) (word ∷ [])
    ∙ ap (λ last. bytes_of_words (take (i - first) rest) ++ last) (append-nil (word_bytes word)))

-- the words from one of zero on are a zero and the words from the next on
drop_zero : (words : List ℕ) (i j word : ℕ) → i < length words → j ≡ i + 1 → word ≡ get_or words i word → word ≡ 0
    → drop i words ≡ 0 ∷ drop j words
drop_zero words i j word less next own none =
    drop_more words i word less ∙ ap (λ w. w ∷ drop (i + 1) words) (sym own ∙ none) ∙ ap (λ k. 0 ∷ drop k words) (sym next)

-- four words of which no bit is set are sixteen zero bytes
pub blank_row :
    (words : List ℕ) (at a b c d : ℕ) → at % 4 ≡ 0 → at / 4 + 4 ≤ length words → a ≡ get_or words (at / 4) a
    → b ≡ get_or words (at / 4 + 1) b → c ≡ get_or words (at / 4 + 2) c → d ≡ get_or words (at / 4 + 3) d
    → bit_or (bit_or (bit_or a b) c) d ≡ 0 → take 16 (drop at (bytes_of_words words)) ≡ replicate 16 0
unfolding word_bytes
blank_row words at a b c d even within own_a own_b own_c own_d none =
    let i = at / 4 in
    let start : at ≡ 4 * i = omega arith in
    let none_d : d ≡ 0 = omega (arith, le_or_r (bit_or (bit_or a b) c) d) in
    let none_c : c ≡ 0 = omega (arith, le_or_l (bit_or (bit_or a b) c) d, le_or_r (bit_or a b) c) in
    let none_b : b ≡ 0 = omega (arith, le_or_l (bit_or (bit_or a b) c) d, le_or_l (bit_or a b) c, le_or_r a b) in
    let none_a : a ≡ 0 = omega (arith, le_or_l (bit_or (bit_or a b) c) d, le_or_l (bit_or a b) c, le_or_l a b) in
    let last : drop (i + 3) words ≡ 0 ∷ drop (i + 4) words = drop_zero words (i + 3) (i + 4) d (omega arith) (omega arith) own_d none_d in
    let third : drop (i + 2) words ≡ 0 ∷ drop (i + 3) words = drop_zero words (i + 2) (i + 3) c (omega arith) (omega arith) own_c none_c in
    let second : drop (i + 1) words ≡ 0 ∷ drop (i + 2) words = drop_zero words (i + 1) (i + 2) b (omega arith) (omega arith) own_b none_b in
    let zeros : drop i words ≡ 0 ∷ 0 ∷ 0 ∷ 0 ∷ drop (i + 4) words =
    drop_zero words i (i + 1) a (omega arith) (omega arith) own_a none_a
    ∙ ap (λ rest. 0 ∷ rest) (second ∙ ap (λ rest. 0 ∷ rest) (third ∙ ap (λ rest. 0 ∷ rest) last)) in
    ap (λ k. take 16 (drop k (bytes_of_words words))) start
    ∙ ap (take 16) (drop_words words i)
    ∙ ap (λ rest. take 16 (bytes_of_words rest)) zeros

-- the bytes of four words, or of fewer at the end, are the sixteen bytes from their offset on, or fewer
pub row_whole :
    (words : List ℕ) (at i : ℕ) → at % 4 ≡ 0 → i - at / 4 ≡ min 4 (length words - at / 4)
    → bytes_of_words (take (i - at / 4) (drop (at / 4) words)) ≡ take 16 (drop at (bytes_of_words words))
row_whole words at i even upto =
    let rest = drop (at / 4) words in
    let start : 4 * (at / 4) ≡ at = omega arith in
    let few : min 4 (length words - at / 4) ≡ min 4 (length rest) = ap (min 4) (sym (length-drop (at / 4) words)) in
    ap (λ n. bytes_of_words (take n rest)) (upto ∙ few)
    ∙ ap bytes_of_words (take_min 4 rest)
    ∙ sym (take_words rest 4)
    ∙ ap (take 16) (sym (drop_words words (at / 4)) ∙ ap (λ j. drop j (bytes_of_words words)) start)
