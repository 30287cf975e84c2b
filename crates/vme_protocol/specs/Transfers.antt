-- What is remembered of a transfer, from the fall of AS* on.
use Rattle.std.specs.Prelude.{ℕ, ◌+◌, ◌-◌, ◌*◌, ◌/◌, ◌%◌, ◌^◌, min, Bool, true, false, not, ◌==◌, ◌&&◌, ◌||◌, if◌then◌else◌, bit_and, Option, Some, None, Result, Ok, Err}
use Rattle.vme_am.specs.declared.code.AmFault.{AmFault}
use Rattle.vme_am.specs.Codes.{CodeRow, read_code}
use Rattle.vme_am.specs.Kinds.{is_block}
use Rattle.vme_protocol.specs.declared.sample.Sample.{Sample}
use Rattle.vme_protocol.specs.declared.scope.Scope.{Scope}
use Rattle.vme_protocol.specs.declared.place.Place.{Place}
use Rattle.vme_protocol.specs.declared.transfer.Transfer.{Transfer}
use Rattle.vme_protocol.specs.Lines.{counted_lines, meet}
use Rattle.vme_protocol.specs.Scopes.{is_ignored}

-- whether there is a row, and whether it is one of a block, or of eight-byte data
abbrev pub is_row : Result CodeRow AmFault → Bool
is_row (Ok row) = true
is_row (Err fault) = false

-- the row of a code is one of blocks
abbrev pub is_block_row : Result CodeRow AmFault → Bool
is_block_row (Ok row) = is_block row.kind
is_block_row (Err fault) = false

-- the row of a code is one of eight-byte data
abbrev pub is_wide_row : Result CodeRow AmFault → Bool
is_wide_row (Ok row) = row.wide
is_wide_row (Err fault) = false

-- a code has a row in the table; IEEE 1014-1987, 2.2.2 (address modifier lines)
abbrev pub has_row : ℕ → Bool
has_row am = is_row (read_code am)

-- a code is one of blocks
abbrev pub is_block_code : ℕ → Bool
is_block_code am = is_block_row (read_code am)

-- a code is one of eight-byte data
abbrev pub is_wide_code : ℕ → Bool
is_wide_code am = is_wide_row (read_code am)

-- A31 to A02, those that count with the code
abbrev pub base_of : Sample → ℕ
base_of s = bit_and s.lines (counted_lines s.am) / 0x400000000 * 4

-- the transfer that a sample begins; IEEE 1014-1987, 2.4 (data transfer bus timing)
unfoldable pub opened : Scope → Sample → Transfer
opened scope s = record {
  judged = s.iack && not (is_ignored scope s.am);
  am = s.am;
  has_row = has_row s.am;
  block = is_block_code s.am;
  wide = is_wide_code s.am;
  lines = s.lines;
  counted = counted_lines s.am;
  base = base_of s;
  a01 = meet s.lines 0x200000000;
  lword = meet s.lines 0x100000000;
  answered = false;
  addressed = false;
  failed = false;
  count = 0;
  first = 0;
  next = 0;
  len = 0;
  write = false;
  ds1 = true;
  ds0 = true;
}

-- whether an answer is that of the address phase of eight-byte data; ANSI/VITA 1-1994 (multiplexed block transfers)
abbrev pub is_address_phase : Transfer → Sample → Bool
is_address_phase t s = t.wide && not t.addressed && not s.dtack

-- the number of data after one more, up to the greatest of a word
abbrev pub next_count : ℕ → ℕ
next_count count = min (count + 1) (2 ^ 32 - 1)

-- the transfer after an answer without a datum
abbrev pub passed : Transfer → Transfer
passed t = record t { answered = true; addressed = true }

-- the transfer after a datum at a place
unfoldable pub took : Transfer → Place → Sample → Transfer
took t place s = record t {
  answered = true;
  addressed = true;
  failed = t.failed || s.dtack;
  count = next_count t.count;
  first = if t.count == 0 then place.addr else t.first;
  next = (place.addr + place.len) % 2 ^ 32;
  len = place.len;
  write = if t.count == 0 then s.write else t.write;
  ds1 = s.ds1;
  ds0 = s.ds0;
}

-- the transfer after an answer, which is that of a datum at a place, if at one
unfoldable pub after_answer : Transfer → Option Place → Sample → Transfer
after_answer t None s = passed t
after_answer t (Some place) s = if is_address_phase t s then passed t else took t place s
