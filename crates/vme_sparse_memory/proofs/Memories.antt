-- Memories by words.
use Rattle.std.proofs.Common.{◌≡◌, ◌+◌, ◌-◌, ◌*◌, ◌/◌, ◌%◌, ◌<◌, ◌≤◌, ℕ, zero, suc, true, Some, None, All, nat_le, slice_get, List, [], ◌∷◌, ◌++◌, take, drop, length, get_or, min, slice_range, set, replicate, subst, refl, ap, sym, ◌∙◌, arith}
use Rattle.std.specs.Prelude.{◌^◌}
use Rattle.std.proofs.lemmas.List.{append_assoc, drop-drop, get_or-take, get_or-drop, length-drop, length-replicate, replicate-append-replicate, length-take-le, take_min}
use Rattle.std.proofs.lemmas.List.Elements.{All-replicate}
use Rattle.std.proofs.lemmas.Bool.{and_parts, eqb-true, leb-true, le-leb}
use Rattle.std.proofs.lemmas.Option.{slice_get_past, slice_get-get_or}
use Rattle.std.proofs.Math.Seq.{take-add}
use Rattle.std.proofs.lemmas.Grind.{common_steps}
use Rattle.vme_memory.specs.declared.command.BoardCmd.TheVariants.{LocalWrite}
use Rattle.vme_memory.specs.Locals.{answer_given}
use Rattle.vme_memory.specs.Boards.{Board, bytes_after_write, is_board_size, zeros}
use Rattle.vme_memory.specs.Words.{word_bytes, bytes_of_words}
use Rattle.vme_sparse_memory.specs.declared.entry.WordEntry.{WordEntry}
use Rattle.vme_sparse_memory.specs.Entries.{words_with}
use Rattle.vme_sparse_memory.proofs.Bytes.{range_take, window_len, read_inside, written_len, more_written, all_written}
use Rattle.vme_sparse_memory.proofs.Entries.{words_len as entry_words_len}

-- words of zero are bytes of zero
pub zero_words : (n : ℕ) → bytes_of_words (replicate n 0) ≡ replicate (4 * n) 0
unfolding word_bytes
zero_words zero = refl
zero_words (suc n) = let more : 4 * suc n ≡ suc (suc (suc (suc (4 * n)))) = omega arith in rw more (ap (λ bytes. 0 ∷ 0 ∷ 0 ∷ 0 ∷ bytes) (zero_words n))

-- a memory of no entries has zeros alone
pub opened : (size : ℕ) → is_board_size size ≡ true → bytes_of_words (replicate (size / 4) 0) ≡ zeros size
unfolding zeros
opened size is =
    let even : size % 4 ≡ 0 = eqb-true _ _ (and_parts _ _ is).1 in
    let whole : 4 * (size / 4) ≡ size = omega arith in
    zero_words (size / 4) ∙ ap (λ n. replicate n 0) whole

-- a word has four bytes
word_len : (word : ℕ) → length (word_bytes word) ≡ 4
unfolding word_bytes
word_len word = refl

-- words have four bytes each
pub words_len : (words : List ℕ) → length (bytes_of_words words) ≡ 4 * length words
words_len [] = refl
words_len (word ∷ words) = grind (arith, common_steps, word_len word, words_len words)

-- a memory has four bytes for each of its words
pub bytes_len : (entries : List WordEntry) (n : ℕ) → length (bytes_of_words (words_with entries n)) ≡ 4 * n
bytes_len entries n = words_len (words_with entries n) ∙ ap (λ k. 4 * k) (entry_words_len entries n)

-- a word that lies within a board has an offset of 32 bits
pub in_size : (at size : ℕ) → is_board_size size ≡ true → 4 * at + 4 ≤ size → 4 * at < 4294967296
in_size at size is within =
    let most : size ≤ 1048576 = leb-true _ _ (and_parts _ _ (and_parts _ _ is).0).1 in
    omega arith

-- the first four of sixteen bytes
four_of_row : (bytes : List ℕ) → take 4 bytes ≡ take 4 (take 16 bytes)
four_of_row bytes = grind (arith, common_steps)

-- the first four bytes from a word's offset on are its own
pub row_word :
    (bytes : List ℕ) (at a b c d : ℕ) (rest : List ℕ) → take 16 (drop (4 * at) bytes) ≡ a ∷ b ∷ c ∷ d ∷ rest
    → slice_range bytes (4 * at) (4 * at + 4) ≡ a ∷ b ∷ c ∷ d ∷ []
row_word bytes at a b c d rest row =
    let four : 4 * at + 4 - 4 * at ≡ 4 = omega arith in
    ap (λ n. take n (drop (4 * at) bytes)) four ∙ four_of_row (drop (4 * at) bytes) ∙ ap (take 4) row

-- memories of the same words and class are the same
pub same_memories :
    (a b : Board) (some others : List WordEntry) (n m : ℕ) → a.bytes ≡ bytes_of_words (words_with some n)
    → b.bytes ≡ bytes_of_words (words_with others m) → some ≡ others → n ≡ m → a.class ≡ b.class → a ≡ b
same_memories a b some others n m of_some of_others same long class =
    let bytes : a.bytes ≡ b.bytes = of_some ∙ ap (λ k. bytes_of_words (words_with some k)) long
    ∙ ap (λ entries. bytes_of_words (words_with entries m)) same ∙ sym of_others in
    ap (λ x. record { bytes = x; class = a.class }) bytes ∙ ap (λ x. record { bytes = b.bytes; class = x }) class

-- a word is written by the local port
pub word_put :
    (board : Board) (at word : ℕ) → 4 * at + 4 ≤ length board.bytes
    → (answer_given board (LocalWrite (4 * at) (record { items = word_bytes word }))).1
    ≡ record board { bytes = bytes_after_write board.bytes (4 * at) (word_bytes word) }
unfolding answer_given word_bytes
word_put board at word within =
    let fit : nat_le (4 * at + 4) (length board.bytes) ≡ true = le-leb _ _ within in
    rw fit refl

-- the bytes of a word are the first four from its offset on
word_there : (words : List ℕ) (at : ℕ) → at < length words → word_bytes (get_or words at 0) ≡ take 4 (drop (4 * at) (bytes_of_words words))
unfolding word_bytes
word_there [] at less = absurd (omega arith)
word_there (word ∷ words) zero less = refl
word_there (word ∷ words) (suc at) less =
    let more : 4 * suc at ≡ suc (suc (suc (suc (4 * at)))) = omega arith in
    let inside : at < length words = omega arith in
    rw more (word_there words at inside)

-- the bytes of a word are those at its offset
pub word_read : (words : List ℕ) (at : ℕ) → at < length words
    → word_bytes (get_or words at 0) ≡ slice_range (bytes_of_words words) (4 * at) (4 * at + 4)
word_read words at less = word_there words at less ∙ sym (range_take (bytes_of_words words) (4 * at) 4)

-- the bytes before a word, others, and those after it are those of words with another one
spliced : (words : List ℕ) (at word : ℕ) → at < length words
    → take (4 * at) (bytes_of_words words) ++ (word_bytes word ++ drop 4 (drop (4 * at) (bytes_of_words words))) ≡ bytes_of_words (set words at word)
unfolding word_bytes
spliced [] at word less = absurd (omega arith)
spliced (old ∷ words) zero word less = refl
spliced (old ∷ words) (suc at) word less =
    let more : 4 * suc at ≡ suc (suc (suc (suc (4 * at)))) = omega arith in
    let inside : at < length words = omega arith in
    rw more (ap (λ bytes. old / 256 ^ 3 % 256 ∷ old / 256 ^ 2 % 256 ∷ old / 256 ^ 1 % 256 ∷ old % 256 ∷ bytes) (spliced words at word inside))

-- the bytes of a word that are written at its offset are those of another word there
pub word_written : (words : List ℕ) (at word : ℕ) → at < length words
    → bytes_after_write (bytes_of_words words) (4 * at) (word_bytes word) ≡ bytes_of_words (set words at word)
word_written words at word less =
    let bytes = bytes_of_words words in
    ap (λ n. take (4 * at) bytes ++ word_bytes word ++ drop (4 * at + n) bytes) (word_len word)
    ∙ ap (λ rest. take (4 * at) bytes ++ word_bytes word ++ rest) (sym (drop-drop 4 (4 * at) bytes))
    ∙ append_assoc (take (4 * at) bytes) (word_bytes word) (drop 4 (drop (4 * at) bytes))
    ∙ spliced words at word less

-- as many bytes as there are, or more, are all
take_whole : (bytes : List ℕ) (i : ℕ) → length bytes ≤ i → take i bytes ≡ bytes
take_whole bytes i past = grind (arith, common_steps)

-- one more word of a window
pub window_more :
    (entries : List WordEntry) (n word count i w : ℕ) → word < n → count ≡ min 3 (n - word) → i < count
    → get_or (words_with entries n) (word + i) 0 ≡ w
    → bytes_after_write (bytes_after_write (zeros (4 * count)) 0 (take (4 * i) (slice_range (bytes_of_words (words_with entries n)) (4 * word) (4 * word + 12)))) (4 * i) (word_bytes w)
    ≡ bytes_after_write (zeros (4 * count)) 0 (take (4 * (i + 1)) (slice_range (bytes_of_words (words_with entries n)) (4 * word) (4 * word + 12)))
unfolding zeros
window_more entries n word count i w inside counted less own =
    let bytes = bytes_of_words (words_with entries n) in
    let window = slice_range bytes (4 * word) (4 * word + 12) in
    let all = bytes_len entries n in
    let long : length window ≡ 4 * count = omega (arith, window_len bytes (4 * word) 12, all) in
    let there : word + i < length (words_with entries n) = omega (arith, entry_words_len entries n) in
    let place : 4 * (word + i) ≡ 4 * word + 4 * i = omega arith in
    let next : 4 * i + 4 ≡ 4 * (i + 1) = omega arith in
    let start : 4 * i ≡ 0 + 4 * i = omega arith in
    let zeros_len : length {A = ℕ} (replicate (4 * count) 0) ≡ 4 * count = length-replicate (4 * count) 0 in
    let read : word_bytes w ≡ slice_range window (4 * i) (4 * i + 4) =
    ap word_bytes (sym own)
    ∙ word_read (words_with entries n) (word + i) there
    ∙ ap (λ k. slice_range bytes k (k + 4)) place
    ∙ read_inside bytes (4 * word) 12 (4 * i) 4 (omega arith) in
    ap (bytes_after_write (bytes_after_write (zeros (4 * count)) 0 (take (4 * i) window)) (4 * i)) read
    ∙ ap (λ k. bytes_after_write (bytes_after_write (zeros (4 * count)) 0 (take (4 * i) window)) k (slice_range window (4 * i) (4 * i + 4))) start
    ∙ more_written (zeros (4 * count)) window 0 (4 * i) (omega (arith, zeros_len)) (omega arith)
    ∙ ap (λ k. bytes_after_write (zeros (4 * count)) 0 (take k window)) next

-- all words of a window
pub window_all :
    (entries : List WordEntry) (n word count i : ℕ) → word < n → count ≡ min 3 (n - word) → count ≤ i
    → bytes_after_write (zeros (4 * count)) 0 (take (4 * i) (slice_range (bytes_of_words (words_with entries n)) (4 * word) (4 * word + 12)))
    ≡ slice_range (bytes_of_words (words_with entries n)) (4 * word) (4 * word + 12)
unfolding zeros
window_all entries n word count i inside counted past =
    let bytes = bytes_of_words (words_with entries n) in
    let window = slice_range bytes (4 * word) (4 * word + 12) in
    let long : length window ≡ 4 * count = omega (arith, window_len bytes (4 * word) 12, bytes_len entries n) in
    ap (bytes_after_write (zeros (4 * count)) 0) (take_whole window (4 * i) (omega arith))
    ∙ all_written (zeros (4 * count)) window (long ∙ sym (length-replicate (4 * count) 0))

-- one more word of those that a window has written
pub window_written :
    (entries new : List WordEntry) (n word i w : ℕ) (bytes window : List ℕ) → 4 * word + length window ≤ length bytes → length bytes ≡ 4 * n
    → 4 * i + 4 ≤ length window → word_bytes w ≡ slice_range window (4 * i) (4 * i + 4)
    → bytes_of_words (words_with entries n) ≡ bytes_after_write bytes (4 * word) (take (4 * i) window)
    → words_with new n ≡ set (words_with entries n) (word + i) w
    → bytes_of_words (words_with new n) ≡ bytes_after_write bytes (4 * word) (take (4 * (i + 1)) window)
window_written entries new n word i w bytes window fits all within own before next =
    let there : word + i < length (words_with entries n) = omega (arith, entry_words_len entries n) in
    let place : 4 * (word + i) ≡ 4 * word + 4 * i = omega arith in
    let more : 4 * i + 4 ≡ 4 * (i + 1) = omega arith in
    ap bytes_of_words next
    ∙ sym (word_written (words_with entries n) (word + i) w there)
    ∙ ap (λ k. bytes_after_write (bytes_of_words (words_with entries n)) k (word_bytes w)) place
    ∙ ap (λ old. bytes_after_write old (4 * word + 4 * i) (word_bytes w)) before
    ∙ ap (bytes_after_write (bytes_after_write bytes (4 * word) (take (4 * i) window)) (4 * word + 4 * i)) own
    ∙ more_written bytes window (4 * word) (4 * i) fits within
    ∙ ap (λ k. bytes_after_write bytes (4 * word) (take k window)) more

-- all words that a window has written
pub window_done :
    (bytes window : List ℕ) (word i : ℕ) → length window ≤ 4 * i
    → bytes_after_write bytes (4 * word) (take (4 * i) window) ≡ bytes_after_write bytes (4 * word) window
window_done bytes window word i past = ap (bytes_after_write bytes (4 * word)) (take_whole window (4 * i) past)

-- the words of a window that are not written yet have their place
pub window_place :
    (entries : List WordEntry) (n word count i : ℕ) (window board : Board) → board.bytes ≡ bytes_of_words (words_with entries n) → word < n
    → count ≡ min 3 (n - word) → i < count
    → window.bytes ≡ bytes_after_write (zeros (4 * count)) 0 (take (4 * i) (slice_range board.bytes (4 * word) (4 * word + 12)))
    → 4 * i + 4 ≤ length window.bytes
unfolding zeros
window_place entries n word count i window board is inside counted less of_window =
    let own = slice_range board.bytes (4 * word) (4 * word + 12) in
    let all : length board.bytes ≡ 4 * n = ap length is ∙ bytes_len entries n in
    let long : length own ≡ 4 * count = omega (arith, window_len board.bytes (4 * word) 12, all) in
    let zeros_len : length {A = ℕ} (replicate (4 * count) 0) ≡ 4 * count = length-replicate (4 * count) 0 in
    let taken : length (take (4 * i) own) ≡ 4 * i = length-take-le (4 * i) own (omega arith) in
    let kept : length window.bytes ≡ 4 * count =
    ap length of_window ∙ written_len (zeros (4 * count)) (take (4 * i) own) 0 (omega (arith, zeros_len, taken)) ∙ zeros_len in
    omega (arith, kept, less)

-- a byte of four from an offset on
get_or_part : (bytes : List ℕ) (at p : ℕ) → p < 4 → get_or (take 4 (drop at bytes)) p 0 ≡ get_or bytes (at + p) 0
get_or_part bytes at p few = get_or-take 4 (drop at bytes) p 0 few ∙ get_or-drop at bytes p 0

-- a byte is that of its word
pub byte_read :
    (entries : List WordEntry) (n offset word : ℕ) → offset / 4 < n → get_or (words_with entries n) (offset / 4) 0 ≡ word
    → slice_get (word_bytes word) (offset % 4) ≡ slice_get (bytes_of_words (words_with entries n)) offset
byte_read entries n offset word less own =
    let bytes = bytes_of_words (words_with entries n) in
    let k = offset / 4 in
    let place = offset % 4 in
    let here : 4 * k + place ≡ offset = omega arith in
    let within : 4 * k + 4 ≤ length bytes = omega (arith, bytes_len entries n, less) in
    let few : place < length (take 4 (drop (4 * k) bytes)) = omega (arith, length-take-le 4 (drop (4 * k) bytes) (omega (arith, length-drop (4 * k) bytes, within))) in
    ap (λ w. slice_get (word_bytes w) place) (sym own)
    ∙ ap (λ b. slice_get b place) (word_there (words_with entries n) k (omega (arith, entry_words_len entries n, less)))
    ∙ slice_get-get_or (take 4 (drop (4 * k) bytes)) place 0 few
    ∙ ap Some (get_or_part bytes (4 * k) place (omega arith))
    ∙ sym (slice_get-get_or bytes (4 * k + place) 0 (omega (arith, within)))
    ∙ ap (slice_get bytes) here

-- there is no byte past the last word
pub no_byte : (entries : List WordEntry) (n offset : ℕ) → n ≤ offset / 4 → slice_get (bytes_of_words (words_with entries n)) offset ≡ None
no_byte entries n offset past = slice_get_past (bytes_of_words (words_with entries n)) offset (omega (arith, bytes_len entries n))

-- one more word of a row
pub row_more :
    (entries : List WordEntry) (n offset at word : ℕ) → offset % 4 ≡ 0 → offset / 4 ≤ at → at < n → get_or (words_with entries n) at 0 ≡ word
    → take (4 * (at - offset / 4)) (drop offset (bytes_of_words (words_with entries n))) ++ word_bytes word
    ≡ take (4 * (at + 1 - offset / 4)) (drop offset (bytes_of_words (words_with entries n)))
row_more entries n offset at word even from less own =
    let bytes = bytes_of_words (words_with entries n) in
    let rest = drop offset bytes in
    let done = at - offset / 4 in
    let place : 4 * at ≡ offset + 4 * done = omega (arith, even, from) in
    let next : 4 * done + 4 ≡ 4 * (at + 1 - offset / 4) = omega (arith, from) in
    let read : word_bytes word ≡ take 4 (drop (4 * done) rest) =
    ap word_bytes (sym own)
    ∙ word_there (words_with entries n) at (omega (arith, entry_words_len entries n, less))
    ∙ ap (λ k. take 4 (drop k bytes)) place
    ∙ ap (take 4) (sym (drop-drop (4 * done) offset bytes)) in
    ap (λ b. take (4 * done) rest ++ b) read ∙ sym (take-add (4 * done) 4 rest) ∙ ap (λ k. take k rest) next

-- all words of a row
pub row_whole :
    (entries : List WordEntry) (n offset at : ℕ) → offset % 4 ≡ 0 → offset / 4 ≤ n → at - offset / 4 ≡ min 4 (n - offset / 4)
    → take (4 * (at - offset / 4)) (drop offset (bytes_of_words (words_with entries n))) ≡ take 16 (drop offset (bytes_of_words (words_with entries n)))
row_whole entries n offset at even within upto =
    let rest = drop offset (bytes_of_words (words_with entries n)) in
    let long : length rest ≡ 4 * n - offset = length-drop offset (bytes_of_words (words_with entries n)) ∙ ap (λ k. k - offset) (bytes_len entries n) in
    let all : 4 * (at - offset / 4) ≡ min 16 (length rest) = omega (arith, even, within, upto, long) in
    ap (λ k. take k rest) all ∙ take_min 16 rest

-- one more word of zero
zero_more :
    (entries : List WordEntry) (n offset j : ℕ) → offset % 4 ≡ 0 → offset / 4 + j < n → get_or (words_with entries n) (offset / 4 + j) 0 ≡ 0
    → take (4 * j) (drop offset (bytes_of_words (words_with entries n))) ≡ replicate (4 * j) 0
    → take (4 * (j + 1)) (drop offset (bytes_of_words (words_with entries n))) ≡ replicate (4 * (j + 1)) 0
unfolding word_bytes
zero_more entries n offset j even less none before =
    let rest = drop offset (bytes_of_words (words_with entries n)) in
    let at = offset / 4 + j in
    let done : at - offset / 4 ≡ j = omega arith in
    let next : at + 1 - offset / 4 ≡ j + 1 = omega arith in
    let four : 4 * j + 4 ≡ 4 * (j + 1) = omega arith in
    let more : take (4 * (at - offset / 4)) rest ++ word_bytes 0 ≡ take (4 * (at + 1 - offset / 4)) rest =
    row_more entries n offset at 0 even (omega arith) less none in
    ap (λ m. take (4 * m) rest) (sym next)
    ∙ sym more
    ∙ ap (λ m. take (4 * m) rest ++ word_bytes 0) done
    ∙ ap (λ b. b ++ word_bytes 0) before
    ∙ replicate-append-replicate (4 * j) 4 0
    ∙ ap (λ m. replicate m 0) four

-- words of zero from a word on have bytes of zero
zero_bytes :
    (entries : List WordEntry) (n offset j : ℕ) → offset % 4 ≡ 0 → j ≤ n - offset / 4
    → ((at : ℕ) → offset / 4 ≤ at → at < offset / 4 + j → get_or (words_with entries n) at 0 ≡ 0)
    → take (4 * j) (drop offset (bytes_of_words (words_with entries n))) ≡ replicate (4 * j) 0
zero_bytes entries n offset zero even within none = refl
zero_bytes entries n offset (suc j) even within none =
    let one : suc j ≡ j + 1 = omega arith in
    ap (λ m. take (4 * m) (drop offset (bytes_of_words (words_with entries n)))) one
    ∙ zero_more entries n offset j even (omega (arith, within)) (none (offset / 4 + j) (omega arith) (omega arith))
    (zero_bytes entries n offset j even (omega (arith, within)) (λ at from less. none at from (omega (arith, less))))
    ∙ ap (λ m. replicate (4 * m) 0) (sym one)

-- the bytes before a word are zero if its words before it are
pub zero_before :
    (entries : List WordEntry) (n offset stop next : ℕ) → offset % 4 ≡ 0 → stop ≤ next → next ≤ n
    → ((k at : ℕ) → offset / 4 ≤ at → at < next → get_or (words_with entries k) at 0 ≡ 0)
    → All (λ (byte : ℕ). byte ≡ 0) (slice_range (bytes_of_words (words_with entries n)) offset (4 * stop))
zero_before entries n offset stop next even upto within none =
    let bytes = bytes_of_words (words_with entries n) in
    let j = stop - offset / 4 in
    let four : 4 * stop - offset ≡ 4 * j = omega (arith, even) in
    let zeros_there : slice_range bytes offset (4 * stop) ≡ replicate (4 * j) 0 =
    ap (λ m. take m (drop offset bytes)) four
    ∙ zero_bytes entries n offset j even (omega (arith, upto, within)) (λ at from less. none n at from (omega (arith, less, upto))) in
    subst (All (λ (byte : ℕ). byte ≡ 0)) (sym zeros_there) (All-replicate (λ (byte : ℕ). byte ≡ 0) (4 * j) 0 refl)
