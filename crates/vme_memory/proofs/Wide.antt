-- Two consecutive words: eight bytes at a multiple of four, and four bytes that lie in both.
use Rattle.std.proofs.Common.{◌≡◌, ℕ, ◌+◌, ◌-◌, ◌*◌, ◌/◌, ◌%◌, ◌<◌, ◌≤◌, List, ◌++◌, length, get_or, set, slice_range, refl, ap, sym, ◌∙◌, arith}
use Rattle.std.proofs.lemmas.List.{length-set}
use Rattle.vme_memory.specs.Words.{bytes_after_write, word_bytes, bytes_of_words}
use Rattle.vme_memory.proofs.Words.{word_len, words_len, read_in_word, read_on, word_changed, written_on, written_inside}

-- a word is its four bytes
whole_word : (word : ℕ) → slice_range (word_bytes word) 0 (0 + 4) ≡ word_bytes word
unfolding word_bytes
whole_word word = refl

-- the four bytes at the offset of a word are its bytes
whole_read :
    (words : List ℕ) (i word : ℕ) → i < length words → word ≡ get_or words i word
    → slice_range (bytes_of_words words) (4 * i + 0) (4 * i + 0 + 4) ≡ word_bytes word
whole_read words i word less own =
    read_in_word words i 0 4 word less (omega arith) ∙ ap (λ w. slice_range (word_bytes w) 0 (0 + 4)) (sym own) ∙ whole_word word

-- if eight bytes at a multiple of four lie within the words, the second word exists
pub wide_there : (words : List ℕ) (at : ℕ) → at + 8 ≤ length (bytes_of_words words) → at % 4 ≡ 0 → at / 4 + 1 < length words
wide_there words at within place = omega (arith, words_len words)

-- the bytes of two consecutive words are the eight bytes at the offset of the first one
pub wide_read :
    (words : List ℕ) (at here next : ℕ) → here ≡ get_or words (at / 4) here → next ≡ get_or words (at / 4 + 1) next
    → at + 8 ≤ length (bytes_of_words words) → at % 4 ≡ 0
    → word_bytes here ++ word_bytes next ≡ slice_range (bytes_of_words words) at (at + 8)
wide_read words at here next own own_next within place =
    let there = wide_there words at within place in
    let first : 4 * (at / 4) + 0 ≡ at = omega arith in
    let second : 4 * (at / 4 + 1) + 0 ≡ at + 4 = omega arith in
    let prefix : slice_range (bytes_of_words words) at (at + 4) ≡ word_bytes here =
    ap (λ j. slice_range (bytes_of_words words) j (j + 4)) (sym first) ∙ whole_read words (at / 4) here (omega (arith, there)) own in
    let back : slice_range (bytes_of_words words) (at + 4) (at + 4 + (8 - 4)) ≡ word_bytes next =
    ap (λ j. slice_range (bytes_of_words words) j (j + 4)) (sym second) ∙ whole_read words (at / 4 + 1) next there own_next in
    ap (λ bytes. bytes ++ word_bytes next) (sym prefix)
    ∙ ap (λ bytes. slice_range (bytes_of_words words) at (at + 4) ++ bytes) (sym back)
    ∙ read_on (bytes_of_words words) at 4 8 (omega arith)

-- a word that replaces another is a write of its four bytes
whole_put : (old word : ℕ) → word_bytes word ≡ bytes_after_write (word_bytes old) 0 (word_bytes word)
unfolding word_bytes
whole_put old word = refl

-- a word that is replaced is a write of its four bytes in the board
whole_written :
    (words : List ℕ) (i word : ℕ) → i < length words
    → bytes_of_words (set words i word) ≡ bytes_after_write (bytes_of_words words) (4 * i + 0) (word_bytes word)
whole_written words i word less = word_changed words (word_bytes word) i 0 0 word less (omega (arith, word_len word)) (whole_put (get_or words i 0) word)

-- two consecutive words that are replaced are a write of their eight bytes
pub wide_written :
    (words : List ℕ) (at here next : ℕ) → at + 8 ≤ length (bytes_of_words words) → at % 4 ≡ 0
    → bytes_of_words (set (set words (at / 4) here) (at / 4 + 1) next)
    ≡ bytes_after_write (bytes_of_words words) at (word_bytes here ++ word_bytes next)
wide_written words at here next within place =
    let there = wide_there words at within place in
    let first : 4 * (at / 4) + 0 ≡ at = omega arith in
    let second : 4 * (at / 4 + 1) + 0 ≡ at + length (word_bytes here) = omega (arith, word_len here) in
    let one = set words (at / 4) here in
    let up : at / 4 + 1 < length one = omega (arith, there, length-set words (at / 4) here) in
    let prefix : bytes_of_words one ≡ bytes_after_write (bytes_of_words words) at (word_bytes here) =
    whole_written words (at / 4) here (omega (arith, there)) ∙ ap (λ j. bytes_after_write (bytes_of_words words) j (word_bytes here)) first in
    whole_written one (at / 4 + 1) next up
    ∙ ap (λ j. bytes_after_write (bytes_of_words one) j (word_bytes next)) second
    ∙ ap (λ bytes. bytes_after_write bytes (at + length (word_bytes here)) (word_bytes next)) prefix
    ∙ written_on (bytes_of_words words) (word_bytes here) (word_bytes next) at (omega (arith, word_len here, word_len next))

-- if four bytes lie in two words, the second word exists
pub across_there : (words : List ℕ) (at : ℕ) → at + 4 ≤ length (bytes_of_words words) → 0 < at % 4 → at / 4 + 1 < length words
across_there words at within over = omega (arith, words_len words)

-- four bytes that are written across two words are written at their offset in the board
pub across_written :
    (words : List ℕ) (at here next put_here put_next new : ℕ) → here ≡ get_or words (at / 4) here → next ≡ get_or words (at / 4 + 1) next
    → at + 4 ≤ length (bytes_of_words words) → 0 < at % 4
    → word_bytes put_here ++ word_bytes put_next ≡ bytes_after_write (word_bytes here ++ word_bytes next) (at % 4) (word_bytes new)
    → bytes_of_words (set (set words (at / 4) put_here) (at / 4 + 1) put_next)
    ≡ bytes_after_write (bytes_of_words words) at (word_bytes new)
across_written words at here next put_here put_next new own own_next within over put =
    let bytes = bytes_of_words words in
    let base = 4 * (at / 4) in
    let there = across_there words at within over in
    let inside : base + 8 ≤ length bytes = omega (arith, there, words_len words) in
    let start : base % 4 ≡ 0 = omega arith in
    let i : base / 4 ≡ at / 4 = omega arith in
    let own_base : here ≡ get_or words (base / 4) here = own ∙ ap (λ i. get_or words i here) (sym i) in
    let own_next_base : next ≡ get_or words (base / 4 + 1) next = own_next ∙ ap (λ i. get_or words (i + 1) next) (sym i) in
    let place : base + at % 4 ≡ at = omega arith in
    ap (λ i. bytes_of_words (set (set words i put_here) (i + 1) put_next)) (sym i)
    ∙ wide_written words base put_here put_next inside start
    ∙ ap (bytes_after_write bytes base) (put
    ∙ ap (λ both. bytes_after_write both (at % 4) (word_bytes new)) (wide_read words base here next own_base own_next_base inside start))
    ∙ written_inside bytes (word_bytes new) base (at % 4) 8 inside (omega (arith, word_len new))
    ∙ ap (λ j. bytes_after_write bytes j (word_bytes new)) place
