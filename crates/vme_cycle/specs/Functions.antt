-- The functions of a read-modify-write cycle: the bytes that each writes in place of the bytes that were read.
use Rattle.std.specs.Prelude.{ℕ, suc, zero, ◌+◌, ◌*◌, ◌/◌, ◌%◌, Bool, true, ◌==◌, ◌&&◌, bit_or, if◌then◌else◌, List, [], ◌∷◌, length}
use Rattle.std.specs.Str.{bytes_eq}
use Rattle.vme_cycle.specs.declared.modify.Modify.{Modify}
use Rattle.vme_cycle.specs.declared.modify.Modify.TheVariants.{Set, Exchange, Add, Compare}

-- the number that bytes spell after the digits n, the first byte most significant
abbrev pub number_from : ℕ → List ℕ → ℕ
number_from n [] = n
number_from n (byte ∷ bytes) = number_from (256 * n + byte) bytes

-- the number that bytes spell, the first byte most significant
abbrev pub number_of : List ℕ → ℕ
number_of bytes = number_from 0 bytes

-- the last len bytes of a number, followed by some bytes
abbrev pub bytes_onto : ℕ → ℕ → List ℕ → List ℕ
bytes_onto zero n bytes = bytes
bytes_onto (suc len) n bytes = bytes_onto len (n / 256) ((n % 256) ∷ bytes)

-- the last len bytes of a number
abbrev pub number_bytes : ℕ → ℕ → List ℕ
number_bytes len n = bytes_onto len n []

-- the sum of two numbers, modulo 256 to the power of the length of the first, in as many bytes
unfoldable pub sum_of : List ℕ → List ℕ → List ℕ
sum_of a b = number_bytes (length a) (number_of a + number_of b)

-- the bytes with bit 7 of the byte at the lowest address set
abbrev pub with_top_bit : List ℕ → List ℕ
with_top_bit [] = []
with_top_bit (byte ∷ bytes) = bit_or byte 128 ∷ bytes

-- the bytes that a function writes in place of the old bytes
abbrev pub value : Modify → List ℕ → List ℕ
value Set old = with_top_bit old
value (Exchange put) old = put.items
value (Add by) old = sum_of old by.items
value (Compare expect put) old = if bytes_eq old expect.items then put.items else old

-- whether each datum of a function has len bytes
abbrev pub has_len : Modify → ℕ → Bool
has_len Set len = true
has_len (Exchange put) len = length put.items == len
has_len (Add by) len = length by.items == len
has_len (Compare expect put) len = length expect.items == len && length put.items == len
