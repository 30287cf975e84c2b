-- The layout of a mailbox from its first byte on, which is its lock: for offsets on a board and for addresses.
use Rattle.std.specs.Prelude.{ℕ, ◌+◌, ◌*◌, ◌%◌}

-- the count of words put lies after the lock, at the next multiple of four
abbrev pub put_count_from : ℕ → ℕ
put_count_from first = first + 4

-- the count of words taken lies after the count of words put, at the next multiple of four
abbrev pub take_count_from : ℕ → ℕ
take_count_from first = first + 8

-- the word with number n lies in the slot whose number is n modulo the number of slots
abbrev pub word_from : ℕ → ℕ → ℕ → ℕ
word_from first slots n = first + 16 + 4 * (n % slots)

-- the number of bytes of a mailbox with so many slots
abbrev pub mailbox_len : ℕ → ℕ
mailbox_len slots = 16 + 4 * slots
