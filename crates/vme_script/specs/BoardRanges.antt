-- Ranges of bytes on the boards, from addresses on the bus.
use Rattle.std.specs.Prelude.{ℕ, ◌+◌, nat_lt, nat_le, min, max, Bool, ◌==◌, ◌&&◌, List, Option, None, Result, Ok, Err}
use Rattle.std.specs.Option.{option_map}
use Rattle.vme_am.specs.declared.code.AmFault.{AmFault}
use Rattle.vme_am.specs.Codes.{CodeRow, read_code}
use Rattle.vme_decode.specs.declared.entry.Entry.{Entry}
use Rattle.vme_decode.specs.Select.{selection_at}
use Rattle.vme_shared.specs.Layout.{mailbox_len}
use Rattle.vme_shared.specs.declared.mailbox.Mailbox.{Mailbox}
use Rattle.vme_script.specs.declared.board_range.BoardRange.{BoardRange}

-- len bytes from an address on, on the board that a read code and that address select
abbrev pub range_by : List Entry → Result CodeRow AmFault → ℕ → ℕ → Option BoardRange
range_by entries (Ok code) addr len =
    option_map (λ found. record { board = found.0; offset = found.1; len = len }) (selection_at entries code addr)
range_by entries (Err fault) addr len = None

-- len bytes from an address on, on the board that the first of them selects
unfoldable pub range_at : List Entry → ℕ → ℕ → ℕ → Option BoardRange
range_at entries am addr len = range_by entries (read_code am) addr len

-- the bytes of a mailbox, on the board that the first of them selects
abbrev pub range_of : List Entry → Mailbox → Option BoardRange
range_of entries mailbox = range_at entries mailbox.am mailbox.addr (mailbox_len mailbox.slots)

-- whether a range ends within a board of a size
abbrev pub is_within : BoardRange → ℕ → Bool
is_within place size = nat_le (place.offset + place.len) size

-- whether two ranges share a byte: they are on one board, and the greater offset is below the lesser end
abbrev pub share : BoardRange → BoardRange → Bool
share a b = a.board == b.board && nat_lt (max a.offset b.offset) (min (a.offset + a.len) (b.offset + b.len))
