-- Bytes in words of 32 bits, and the bytes of a word that a cycle reaches.
use Rattle.std.specs.Prelude.{ℕ, ◌+◌, nat_le, nat_lt, Bool, ◌&&◌, if◌then◌else◌, List, [], ◌∷◌, ◌++◌, length, take, drop, map, slice_range}
use Rattle.std.specs.Int.{w32, to_be_bytes, from_be_bytes}
use Rattle.std.specs.List.{flat_map}
use Rattle.vme_lanes.specs.declared.location.Location.{Location}
use Rattle.vme_lanes.specs.Rows.{row_of}

-- the bytes, with new ones in place of those from the offset at on
abbrev pub bytes_after_write : List ℕ → ℕ → List ℕ → List ℕ
bytes_after_write bytes at new = take at bytes ++ new ++ drop (at + length new) bytes

-- the four bytes of a word, the lowest address most significant; IEEE 1014-1987, 2.2.3 (data lines)
unfoldable pub word_bytes : ℕ → List ℕ
word_bytes word = to_be_bytes w32 word

-- the bytes of words: word i has the bytes at offsets 4 i to 4 i + 3
abbrev pub bytes_of_words : List ℕ → List ℕ
bytes_of_words words = flat_map word_bytes words

-- whether a location has the byte at a place in the group of four; IEEE 1014-1987, 2.2.1 (addressing lines)
abbrev pub has_byte : Location → ℕ → Bool
has_byte l place = nat_le (row_of l).first place && nat_lt place ((row_of l).first + (row_of l).len)

-- the bytes of a location in a word, in order of address; IEEE 1014-1987, 2.2.1 (addressing lines)
abbrev pub part_of : Location → ℕ → List ℕ
part_of l word = slice_range (word_bytes word) (row_of l).first ((row_of l).first + (row_of l).len)

-- the byte enables of a location as a mask of the word: all bits of each of its bytes;
-- IEEE 1014-1987, 2.2.1 (addressing lines)
abbrev pub enables_of : Location → ℕ
enables_of l = from_be_bytes w32 (map (λ place. if has_byte l place then 255 else 0) (0 ∷ 1 ∷ 2 ∷ 3 ∷ []))
