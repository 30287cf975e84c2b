-- Bytes at any offset, in one word of a board or in two.
use Rattle.std.proofs.Common.{◌≡◌, ℕ, zero, suc, ◌+◌, ◌-◌, ◌*◌, ◌/◌, ◌%◌, ◌^◌, ◌<◌, ◌≤◌, List, ◌++◌, length, take, get_or, set, slice_range, refl, ap, sym, ◌∙◌, arith}
use Rattle.std.proofs.lemmas.List.{length-take-le}
use Rattle.vme_memory.specs.Words.{bytes_after_write, word_bytes, bytes_of_words}
use Rattle.vme_memory.proofs.Shifts.{halves}
use Rattle.vme_memory.proofs.Words.{word_len, words_len, read_at, read_on, written_at, written_on}

-- bytes that lie in the first of two words are the first ones of the four bytes at their place
first_alone :
    (here next p n : ℕ) → 0 < n → p + n ≤ 4
    → slice_range (word_bytes here) p (p + n) ≡ take n (slice_range (word_bytes here ++ word_bytes next) p (p + 4))
unfolding word_bytes
first_alone here next zero (suc zero) some few = refl
first_alone here next zero (suc (suc zero)) some few = refl
first_alone here next zero (suc (suc (suc zero))) some few = refl
first_alone here next zero (suc (suc (suc (suc zero)))) some few = refl
first_alone here next (suc zero) (suc zero) some few = refl
first_alone here next (suc zero) (suc (suc zero)) some few = refl
first_alone here next (suc zero) (suc (suc (suc zero))) some few = refl
first_alone here next (suc (suc zero)) (suc zero) some few = refl
first_alone here next (suc (suc zero)) (suc (suc zero)) some few = refl
first_alone here next (suc (suc (suc zero))) (suc zero) some few = refl
first_alone here next p n some few = absurd (omega arith)

-- bytes that lie in both of two words are the first ones of the four bytes at their place
both :
    (here next p n : ℕ) → p < 4 → 4 < p + n → n ≤ 4
    → slice_range (word_bytes here) p (p + (4 - p)) ++ slice_range (word_bytes next) 0 (0 + (n - (4 - p)))
    ≡ take n (slice_range (word_bytes here ++ word_bytes next) p (p + 4))
unfolding word_bytes
both here next (suc zero) (suc (suc (suc (suc zero)))) less over few = refl
both here next (suc (suc zero)) (suc (suc (suc zero))) less over few = refl
both here next (suc (suc zero)) (suc (suc (suc (suc zero)))) less over few = refl
both here next (suc (suc (suc zero))) (suc (suc zero)) less over few = refl
both here next (suc (suc (suc zero))) (suc (suc (suc zero))) less over few = refl
both here next (suc (suc (suc zero))) (suc (suc (suc (suc zero)))) less over few = refl
both here next p n less over few = absurd (omega arith)

-- bytes that lie in one word are the first bytes of the word that is read across
pub begun_within :
    (words : List ℕ) (at n here next word : ℕ) → here ≡ get_or words (at / 4) here
    → at + n ≤ length (bytes_of_words words) → 0 < n → at % 4 + n ≤ 4
    → word_bytes word ≡ slice_range (word_bytes here ++ word_bytes next) (at % 4) (at % 4 + 4)
    → take n (word_bytes word) ≡ slice_range (bytes_of_words words) at (at + n)
begun_within words at n here next word own within some few made =
    let there : at < length (bytes_of_words words) = omega arith in
    ap (take n) made ∙ sym (first_alone here next (at % 4) n some few) ∙ sym (read_at words at n here own there few)

-- bytes that lie in two words are the first bytes of the word that is read across
pub begun_over :
    (words : List ℕ) (at n here next word : ℕ) → here ≡ get_or words (at / 4) here → next ≡ get_or words (at / 4 + 1) next
    → at + n ≤ length (bytes_of_words words) → n ≤ 4
    → 4 < at % 4 + n → word_bytes word ≡ slice_range (word_bytes here ++ word_bytes next) (at % 4) (at % 4 + 4)
    → take n (word_bytes word) ≡ slice_range (bytes_of_words words) at (at + n)
begun_over words at n here next word own own_next within few over made =
    let m = 4 - at % 4 in
    let there : at < length (bytes_of_words words) = omega arith in
    let there_next : at + m < length (bytes_of_words words) = omega arith in
    let up : at / 4 + 1 ≡ (at + m) / 4 = omega arith in
    let start : (at + m) % 4 ≡ 0 = omega arith in
    let own_up : next ≡ get_or words ((at + m) / 4) next = own_next ∙ ap (λ i. get_or words i next) up in
    let prefix = read_at words at m here own there (omega arith) in
    let back = read_at words (at + m) (n - m) next own_up there_next (omega arith)
    ∙ ap (λ p. slice_range (word_bytes next) p (p + (n - m))) start in
    ap (take n) made
    ∙ sym (both here next (at % 4) n (omega arith) over few)
    ∙ ap (λ bytes. bytes ++ slice_range (word_bytes next) 0 (0 + (n - m))) (sym prefix)
    ∙ ap (λ bytes. slice_range (bytes_of_words words) at (at + m) ++ bytes) (sym back)
    ∙ read_on (bytes_of_words words) at m n (omega arith)

-- if bytes lie in two words, the second word exists
pub next_there : (words : List ℕ) (at n : ℕ) → at + n ≤ length (bytes_of_words words) → 4 < at % 4 + n → at / 4 + 1 < length words
next_there words at n within over = omega (arith, words_len words)

-- bytes that are written within one word are written at their offset in the board
pub put_at :
    (words : List ℕ) (at len old word new : ℕ) → old ≡ get_or words (at / 4) old
    → at + len ≤ length (bytes_of_words words) → 0 < len
    → at % 4 + len ≤ 4 → word_bytes word ≡ bytes_after_write (word_bytes old) (at % 4) (take len (word_bytes new))
    → bytes_of_words (set words (at / 4) word) ≡ bytes_after_write (bytes_of_words words) at (take len (word_bytes new))
put_at words at len old word new own within some few changed =
    let part = take len (word_bytes new) in
    let short : length part ≡ len = length-take-le len (word_bytes new) (omega (arith, word_len new)) in
    written_at words part at old word own (omega arith) (omega arith) changed

-- bytes that are written from the first byte of a word on are written at their offset in the board
pub put_first :
    (words : List ℕ) (at len old word new : ℕ) → old ≡ get_or words (at / 4) old
    → at + len ≤ length (bytes_of_words words) → at % 4 ≡ 0 → 0 < len → len ≤ 4
    → word_bytes word ≡ bytes_after_write (word_bytes old) 0 (take len (word_bytes new))
    → bytes_of_words (set words (at / 4) word) ≡ bytes_after_write (bytes_of_words words) at (take len (word_bytes new))
put_first words at len old word new own within first some few changed =
    put_at words at len old word new own within some (omega arith)
    (changed ∙ ap (λ p. bytes_after_write (word_bytes old) p (take len (word_bytes new))) (sym first))

-- two writes of the parts of bytes that lie in two words are one write of all these bytes
pub put_over :
    (bytes : List ℕ) (at h n word : ℕ) → word < 2 ^ 32 → at + n ≤ length bytes → 0 < h → h < n → n ≤ 4
    → bytes_after_write (bytes_after_write bytes at (take h (word_bytes word))) (at + h)
    (take (n - h) (word_bytes (word * 2 ^ (8 * h) % 4294967296)))
    ≡ bytes_after_write bytes at (take n (word_bytes word))
put_over bytes at h n word small within some less few =
    let shifted = word * 2 ^ (8 * h) % 4294967296 in
    let a = take h (word_bytes word) in
    let b = take (n - h) (word_bytes shifted) in
    let a_len : length a ≡ h = length-take-le h (word_bytes word) (omega (arith, word_len word)) in
    let b_len : length b ≡ n - h = length-take-le (n - h) (word_bytes shifted) (omega (arith, word_len shifted)) in
    ap (λ k. bytes_after_write (bytes_after_write bytes at a) (at + k) b) (sym a_len)
    ∙ written_on bytes a b at (omega arith)
    ∙ ap (bytes_after_write bytes at) (halves word h n small some less few)
