-- Shifted words: bytes at any place in two consecutive words, and bytes that are written at a place.
use Rattle.std.proofs.Common.{◌≡◌, ℕ, zero, suc, ◌+◌, ◌-◌, ◌*◌, ◌/◌, ◌%◌, ◌^◌, ◌<◌, ◌≤◌, List, [], ◌∷◌, ◌++◌, take, drop, slice_range, refl, ap, ◌∙◌, arith}
use Rattle.std.specs.Prelude.{bit_or}
use Rattle.std.specs.Int.{w32, rotate_right}
use Rattle.std.specs.Int.Bits.{or_self}
use Rattle.std.proofs.lemmas.Nat.{or_comm, or_shifted}
use Rattle.vme_lanes.specs.declared.location.Location.{Location}
use Rattle.vme_lanes.specs.declared.location.Location.TheVariants.{Byte0, Byte1, Byte2, Byte3, Bytes01, Bytes23, Bytes03, Bytes02, Bytes13, Bytes12}
use Rattle.vme_lanes.specs.Rows.{row_of}
use Rattle.vme_memory.specs.Words.{bytes_after_write, word_bytes, part_of, enables_of}
use Rattle.vme_memory.proofs.Enables.{merged, merged_bytes, four}

-- two lists of one element that agree are equal
one : (a e : ℕ) → a ≡ e → (a ∷ []) ≡ (e ∷ [])
one a e p = cc

-- two lists of two elements that agree at each place are equal
two : (a b e f : ℕ) → a ≡ e → b ≡ f → (a ∷ b ∷ []) ≡ (e ∷ f ∷ [])
two a b e f p q = cc

-- two lists of three elements that agree at each place are equal
three : (a b c e f g : ℕ) → a ≡ e → b ≡ f → c ≡ g → (a ∷ b ∷ c ∷ []) ≡ (e ∷ f ∷ g ∷ [])
three a b c e f g p q r = cc

-- two words as one number, shifted up by a place, and its upper half
abbrev pub upper : ℕ → ℕ → ℕ → ℕ
upper here next place = (here * 4294967296 % 18446744073709551616 + next) * 2 ^ (8 * place) % 18446744073709551616 / 4294967296

-- the upper half of two words that are shifted up by a place has the four bytes at that place
pub upper_bytes :
    (here next place : ℕ) → here < 2 ^ 32 → next < 2 ^ 32 → place < 4
    → word_bytes (upper here next place) ≡ slice_range (word_bytes here ++ word_bytes next) place (place + 4)
unfolding word_bytes
upper_bytes here next zero small little less =
    let same : upper here next 0 ≡ here = omega arith in
    rw same refl
upper_bytes here next (suc zero) small little less =
    let same : upper here next 1 ≡ here % 2 ^ 24 * 2 ^ 8 + next / 2 ^ 24 = omega arith in
    rw same (four _ _ _ _ _ _ _ _ (omega arith) (omega arith) (omega arith) (omega arith))
upper_bytes here next (suc (suc zero)) small little less =
    let same : upper here next 2 ≡ here % 2 ^ 16 * 2 ^ 16 + next / 2 ^ 16 = omega arith in
    rw same (four _ _ _ _ _ _ _ _ (omega arith) (omega arith) (omega arith) (omega arith))
upper_bytes here next (suc (suc (suc zero))) small little less =
    let same : upper here next 3 ≡ here % 2 ^ 8 * 2 ^ 24 + next / 2 ^ 8 = omega arith in
    rw same (four _ _ _ _ _ _ _ _ (omega arith) (omega arith) (omega arith) (omega arith))
upper_bytes here next (suc (suc (suc (suc place)))) small little less = absurd (omega arith)

-- a word shifted down to the place of a location has its first bytes there
part_from : (l : Location) (new : ℕ) → part_of l (new / 2 ^ (8 * (row_of l).first)) ≡ take (row_of l).len (word_bytes new)
unfolding word_bytes
part_from Byte0 new = one _ _ (omega arith)
part_from Byte1 new = one _ _ (omega arith)
part_from Byte2 new = one _ _ (omega arith)
part_from Byte3 new = one _ _ (omega arith)
part_from Bytes01 new = two _ _ _ _ (omega arith) (omega arith)
part_from Bytes23 new = two _ _ _ _ (omega arith) (omega arith)
part_from Bytes03 new = four _ _ _ _ _ _ _ _ (omega arith) (omega arith) (omega arith) (omega arith)
part_from Bytes02 new = three _ _ _ _ _ _ (omega arith) (omega arith) (omega arith)
part_from Bytes13 new = three _ _ _ _ _ _ (omega arith) (omega arith) (omega arith)
part_from Bytes12 new = two _ _ _ _ (omega arith) (omega arith)

-- the mask of len bytes at a place
abbrev pub mask_of : ℕ → ℕ → ℕ
mask_of place len = 4294967295 * 2 ^ (32 - 8 * len) % 4294967296 / 2 ^ (8 * place)

-- under the mask of the bytes of a location, a word takes the first bytes of another word there
merged_at_row :
    (l : Location) (word new : ℕ)
    → word_bytes (merged word (new / 2 ^ (8 * (row_of l).first)) (mask_of (row_of l).first (row_of l).len))
    ≡ bytes_after_write (word_bytes word) (row_of l).first (take (row_of l).len (word_bytes new))
merged_at_row Byte0 word new = merged_bytes Byte0 word _ ∙ ap (bytes_after_write (word_bytes word) 0) (part_from Byte0 new)
merged_at_row Byte1 word new = merged_bytes Byte1 word _ ∙ ap (bytes_after_write (word_bytes word) 1) (part_from Byte1 new)
merged_at_row Byte2 word new = merged_bytes Byte2 word _ ∙ ap (bytes_after_write (word_bytes word) 2) (part_from Byte2 new)
merged_at_row Byte3 word new = merged_bytes Byte3 word _ ∙ ap (bytes_after_write (word_bytes word) 3) (part_from Byte3 new)
merged_at_row Bytes01 word new = merged_bytes Bytes01 word _ ∙ ap (bytes_after_write (word_bytes word) 0) (part_from Bytes01 new)
merged_at_row Bytes23 word new = merged_bytes Bytes23 word _ ∙ ap (bytes_after_write (word_bytes word) 2) (part_from Bytes23 new)
merged_at_row Bytes03 word new = merged_bytes Bytes03 word _ ∙ ap (bytes_after_write (word_bytes word) 0) (part_from Bytes03 new)
merged_at_row Bytes02 word new = merged_bytes Bytes02 word _ ∙ ap (bytes_after_write (word_bytes word) 0) (part_from Bytes02 new)
merged_at_row Bytes13 word new = merged_bytes Bytes13 word _ ∙ ap (bytes_after_write (word_bytes word) 1) (part_from Bytes13 new)
merged_at_row Bytes12 word new = merged_bytes Bytes12 word _ ∙ ap (bytes_after_write (word_bytes word) 1) (part_from Bytes12 new)

-- under the mask of len bytes at a place, a word takes the first len bytes of another word there
pub merged_from :
    (word new place len : ℕ) → 0 < len → place + len ≤ 4
    → word_bytes (merged word (new / 2 ^ (8 * place)) (mask_of place len))
    ≡ bytes_after_write (word_bytes word) place (take len (word_bytes new))
merged_from word new zero (suc zero) some few = merged_at_row Byte0 word new
merged_from word new zero (suc (suc zero)) some few = merged_at_row Bytes01 word new
merged_from word new zero (suc (suc (suc zero))) some few = merged_at_row Bytes02 word new
merged_from word new zero (suc (suc (suc (suc zero)))) some few = merged_at_row Bytes03 word new
merged_from word new (suc zero) (suc zero) some few = merged_at_row Byte1 word new
merged_from word new (suc zero) (suc (suc zero)) some few = merged_at_row Bytes12 word new
merged_from word new (suc zero) (suc (suc (suc zero))) some few = merged_at_row Bytes13 word new
merged_from word new (suc (suc zero)) (suc zero) some few = merged_at_row Byte2 word new
merged_from word new (suc (suc zero)) (suc (suc zero)) some few = merged_at_row Bytes23 word new
merged_from word new (suc (suc (suc zero))) (suc zero) some few = merged_at_row Byte3 word new
merged_from word new place len some few = absurd (omega arith)

-- a word rotated right by a number of bytes
abbrev pub rotated_word : ℕ → ℕ → ℕ
rotated_word new place = rotate_right w32 new (8 * place)

-- a rotated word has its low bits before its high bits
rotated_at :
    (new low high : ℕ) → new / 2 ^ low < 2 ^ high → new * 2 ^ high % 2 ^ 32 ≡ new % 2 ^ low * 2 ^ high
    → bit_or (new / 2 ^ low) (new * 2 ^ high % 2 ^ 32) ≡ new % 2 ^ low * 2 ^ high + new / 2 ^ low
rotated_at new low high fits last =
    ap (bit_or (new / 2 ^ low)) last ∙ or_comm (new / 2 ^ low) (new % 2 ^ low * 2 ^ high) ∙ or_shifted (new % 2 ^ low) high (new / 2 ^ low) fits

-- a rotated word has its last bytes before its first ones
rotated_bytes :
    (new place : ℕ) → new < 2 ^ 32 → place < 4
    → word_bytes (rotated_word new place) ≡ drop (4 - place) (word_bytes new) ++ take (4 - place) (word_bytes new)
unfolding word_bytes
rotated_bytes new zero small less =
    let same : rotated_word new 0 ≡ new = ap (bit_or (new / 1)) (omega arith) ∙ or_self (new / 1) ∙ omega arith in
    rw same refl
rotated_bytes new (suc zero) small less =
    let same : rotated_word new 1 ≡ new % 2 ^ 8 * 2 ^ 24 + new / 2 ^ 8 = rotated_at new 8 24 (omega arith) (omega arith) in
    rw same (four _ _ _ _ _ _ _ _ (omega arith) (omega arith) (omega arith) (omega arith))
rotated_bytes new (suc (suc zero)) small less =
    let same : rotated_word new 2 ≡ new % 2 ^ 16 * 2 ^ 16 + new / 2 ^ 16 = rotated_at new 16 16 (omega arith) (omega arith) in
    rw same (four _ _ _ _ _ _ _ _ (omega arith) (omega arith) (omega arith) (omega arith))
rotated_bytes new (suc (suc (suc zero))) small less =
    let same : rotated_word new 3 ≡ new % 2 ^ 24 * 2 ^ 8 + new / 2 ^ 24 = rotated_at new 24 8 (omega arith) (omega arith) in
    rw same (four _ _ _ _ _ _ _ _ (omega arith) (omega arith) (omega arith) (omega arith))
rotated_bytes new (suc (suc (suc (suc place)))) small less = absurd (omega arith)

-- the bytes of two words that share a third one under the byte enables of a location: the first takes the location's
-- part, the second all other bytes
shared :
    (l : Location) (here next word : ℕ)
    → word_bytes (merged here word (enables_of l)) ++ word_bytes (merged word next (enables_of l))
    ≡ bytes_after_write (word_bytes here) (row_of l).first (part_of l word) ++ bytes_after_write (word_bytes word) (row_of l).first (part_of l next)
shared l here next word =
    ap (λ bytes. bytes ++ word_bytes (merged word next (enables_of l))) (merged_bytes l here word)
    ∙ ap (λ bytes. bytes_after_write (word_bytes here) (row_of l).first (part_of l word) ++ bytes) (merged_bytes l word next)

-- two words that share a third one: the first takes its bytes from a place on, the second those before the place
abbrev pub shared_from : List ℕ → List ℕ → List ℕ → ℕ → List ℕ
shared_from here next word place =
    bytes_after_write here place (slice_range word place 4) ++ bytes_after_write word place (slice_range next place 4)

-- under the mask of the bytes at a place, two words take the four bytes of a rotated word
pub merged_across :
    (here next place new : ℕ) → new < 2 ^ 32 → place < 4
    → word_bytes (merged here (rotated_word new place) (4294967295 / 2 ^ (8 * place)))
    ++ word_bytes (merged (rotated_word new place) next (4294967295 / 2 ^ (8 * place)))
    ≡ bytes_after_write (word_bytes here ++ word_bytes next) place (word_bytes new)
unfolding word_bytes
merged_across here next zero new small less =
    shared Bytes03 here next (rotated_word new 0)
    ∙ ap (λ bytes. shared_from (word_bytes here) (word_bytes next) bytes 0) (rotated_bytes new 0 small less)
merged_across here next (suc zero) new small less =
    shared Bytes13 here next (rotated_word new 1)
    ∙ ap (λ bytes. shared_from (word_bytes here) (word_bytes next) bytes 1) (rotated_bytes new 1 small less)
merged_across here next (suc (suc zero)) new small less =
    shared Bytes23 here next (rotated_word new 2)
    ∙ ap (λ bytes. shared_from (word_bytes here) (word_bytes next) bytes 2) (rotated_bytes new 2 small less)
merged_across here next (suc (suc (suc zero))) new small less =
    shared Byte3 here next (rotated_word new 3)
    ∙ ap (λ bytes. shared_from (word_bytes here) (word_bytes next) bytes 3) (rotated_bytes new 3 small less)
merged_across here next (suc (suc (suc (suc place)))) new small less = absurd (omega arith)

-- the first h bytes of a word, followed by the first n - h bytes of the word shifted up by h bytes, are its first n bytes
pub halves :
    (word h n : ℕ) → word < 2 ^ 32 → 0 < h → h < n → n ≤ 4
    → take h (word_bytes word) ++ take (n - h) (word_bytes (word * 2 ^ (8 * h) % 4294967296)) ≡ take n (word_bytes word)
unfolding word_bytes
halves word (suc zero) (suc (suc zero)) small some less few = two _ _ _ _ refl (omega arith)
halves word (suc zero) (suc (suc (suc zero))) small some less few = three _ _ _ _ _ _ refl (omega arith) (omega arith)
halves word (suc zero) (suc (suc (suc (suc zero)))) small some less few =
    four _ _ _ _ _ _ _ _ refl (omega arith) (omega arith) (omega arith)
halves word (suc (suc zero)) (suc (suc (suc zero))) small some less few = three _ _ _ _ _ _ refl refl (omega arith)
halves word (suc (suc zero)) (suc (suc (suc (suc zero)))) small some less few =
    four _ _ _ _ _ _ _ _ refl refl (omega arith) (omega arith)
halves word (suc (suc (suc zero))) (suc (suc (suc (suc zero)))) small some less few =
    four _ _ _ _ _ _ _ _ refl refl refl (omega arith)
halves word h n small some less few = absurd (omega arith)
