-- Ranges of bytes on the boards.
use Rattle.std.proofs.Common.{◌≡◌, ℕ, ◌+◌, ◌^◌, ◌≤◌, List, Option, None, Some, Result, Ok, Err, refl, ap, ◌∙◌, arith}
use Rattle.std.specs.Prelude.{nat_lt, ◌==◌, ◌&&◌, max, min, slice_get}
use Rattle.std.specs.Option.{option_map}
use Rattle.std.proofs.Math.Nat.{max_comm, min_comm}
use Rattle.vme_am.specs.declared.code.AmFault.{AmFault}
use Rattle.vme_am.specs.declared.code.Space.{Space}
use Rattle.vme_am.specs.declared.code.Space.TheVariants.{A16, A24, A32}
use Rattle.vme_am.specs.Spaces.{addresses_of}
use Rattle.vme_am.specs.Codes.{CodeRow, read_code}
use Rattle.vme_decode.specs.declared.entry.Entry.{Entry}
use Rattle.vme_decode.specs.Entries.{end_of}
use Rattle.vme_decode.specs.Select.{selection_at, RespondsAt}
use Rattle.vme_decode.proofs.lemmas.Selection.{place_responds}
use Rattle.vme_script.specs.declared.board_range.BoardRange.{BoardRange}
use Rattle.vme_script.specs.BoardRanges.{range_by, range_at, share}

-- sharing a byte is symmetric
pub shared_both_ways : (a b : BoardRange) → share a b ≡ share b a
shared_both_ways a b =
    ap (λ same. same && nat_lt (max a.offset b.offset) (min (a.offset + a.len) (b.offset + b.len))) (same_board a.board b.board)
    ∙ ap (λ start. (b.board == a.board) && nat_lt start (min (a.offset + a.len) (b.offset + b.len))) (max_comm a.offset b.offset)
    ∙ ap (λ end. (b.board == a.board) && nat_lt (max b.offset a.offset) end) (min_comm (a.offset + a.len) (b.offset + b.len))
  where
    same_board : (m n : ℕ) → (m == n) ≡ (n == m)
    same_board m n = grind arith

-- no space has more addresses than the extended one
most_addresses : (space : Space) → addresses_of space ≤ 2 ^ 32
most_addresses A16 = omega arith
most_addresses A24 = omega arith
most_addresses A32 = omega arith

-- if a selection gives a range, the code and the address select its board and its offset, and it has the given length
selected :
    (entries : List Entry) (code : CodeRow) (addr len : ℕ) (place : BoardRange) (found : Option (ℕ × ℕ)) → selection_at entries code addr ≡ found
    → option_map (λ at. record { board = at.0; offset = at.1; len = len }) found ≡ Some place
    → RespondsAt entries code addr place.board place.offset × (place.len ≡ len)
selected entries code addr len place None is e = cc
selected entries code addr len place (Some at) is e =
    let same : record { board = at.0; offset = at.1; len = len } ≡ place = cc in
    rw (← same) (place_responds entries code addr at.0 at.1 is, refl)

-- a range at an address has a lawful code, which selects its board and its offset with the address
by_code :
    (entries : List Entry) (read : Result CodeRow AmFault) (addr len : ℕ) (place : BoardRange) → range_by entries read addr len ≡ Some place
    → (code : CodeRow) × RespondsAt entries code addr place.board place.offset × (place.len ≡ len)
by_code entries (Err fault) addr len place e = cc
by_code entries (Ok code) addr len place e =
    let found = selected entries code addr len place (selection_at entries code addr) refl e in
    (code, found.0, found.1)

-- bytes that end within an entry that ends within its space have addresses below 2 ^ 32
pub ends_within :
    (entries : List Entry) (am addr len : ℕ) (place : BoardRange) (entry : Entry) → range_at entries am addr len ≡ Some place
    → slice_get entries place.board ≡ Some entry → end_of entry ≤ addresses_of entry.space → place.offset + place.len ≤ entry.size
    → addr + len ≤ 2 ^ 32
unfolding range_at
ends_within entries am addr len place entry placed there lawful inside =
    let by = by_code entries (read_code am) addr len place placed in
    let falls = by.1 in
    let same : falls.entry ≡ entry = cc (falls.there, there) in
    let base : addr ≡ entry.base + place.offset = falls.distance ∙ ap (λ e. e.base + place.offset) same in
    omega (arith, base, by.2, lawful, inside, most_addresses entry.space)
