-- A location's part of a word, among the words of a board, as a cycle reads it and as it writes it.
use Rattle.std.proofs.Common.{◌≡◌, ℕ, ◌+◌, ◌/◌, ◌%◌, ◌<◌, ◌≤◌, List, length, get_or, set, slice_range, ap, sym, ◌∙◌, arith}
use Rattle.vme_lanes.specs.declared.location.Location.{Location}
use Rattle.vme_lanes.specs.Rows.{row_of}
use Rattle.vme_memory.specs.Words.{bytes_after_write, word_bytes, bytes_of_words, part_of}
use Rattle.vme_memory.proofs.Enables.{row_within, part_len}
use Rattle.vme_memory.proofs.Words.{read_at, written_at}

-- the bytes of a location that a word takes are written at their offset in the board
pub merged_at :
    (words : List ℕ) (l : Location) (at old word new : ℕ) → old ≡ get_or words (at / 4) old
    → (row_of l).first ≡ at % 4 → at + (row_of l).len ≤ length (bytes_of_words words)
    → word_bytes word
    ≡ bytes_after_write (word_bytes old) (row_of l).first (part_of l new)
    → bytes_of_words (set words (at / 4) word)
    ≡ bytes_after_write (bytes_of_words words) at (part_of l new)
merged_at words l at old word new own place within changed =
    let part = part_of l new in
    let few : at % 4 + length part ≤ 4 = omega (arith, part_len l new, (row_within l).1, place) in
    let there : at < length (bytes_of_words words) = omega (arith, (row_within l).0, within) in
    written_at words part at old word own there few (changed ∙ ap (λ p. bytes_after_write (word_bytes old) p part) place)

-- the bytes of a board at an offset are the part of the location in its word
pub part_at :
    (words : List ℕ) (l : Location) (at word : ℕ) → word ≡ get_or words (at / 4) word
    → (row_of l).first ≡ at % 4 → at + (row_of l).len ≤ length (bytes_of_words words)
    → slice_range (bytes_of_words words) at (at + (row_of l).len)
    ≡ part_of l word
part_at words l at word own place within =
    let few : at % 4 + (row_of l).len ≤ 4 = omega (arith, (row_within l).1, place) in
    let there : at < length (bytes_of_words words) = omega (arith, (row_within l).0, within) in
    read_at words at (row_of l).len word own there few
    ∙ ap (λ p. slice_range (word_bytes word) p (p + (row_of l).len)) (sym place)
