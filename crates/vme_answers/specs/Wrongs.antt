-- What is reported of an answer that is not that of a board.
use Rattle.std.specs.Prelude.{ℕ, ◌+◌, ◌-◌, ◌^◌, min, nat_lt, if◌then◌else◌, List, [], ◌∷◌, replicate, slice_get, Option, Some, None}
use Rattle.vme_known.specs.declared.byte.Byte.{Byte}
use Rattle.vme_known.specs.declared.byte.Byte.TheVariants.{Open, Unseen, Known}
use Rattle.vme_protocol.specs.declared.datum.Datum.{Datum}
use Rattle.vme_protocol.specs.declared.port.Local.{Local}
use Rattle.vme_protocol.specs.declared.rule.Rule.{Rule}
use Rattle.vme_answers.specs.declared.board.Row.{Row}
use Rattle.vme_answers.specs.declared.selected.Selected.{Selected}
use Rattle.vme_answers.specs.declared.wrong.Wrong.{Wrong}
use Rattle.vme_answers.specs.Selecting.{select}
use Rattle.vme_answers.specs.Taking.{Judged}

-- the value of a byte, if it is there and its value is known
abbrev pub known_value : Option Byte → Option ℕ
known_value None = None
known_value (Some Open) = None
known_value (Some Unseen) = None
known_value (Some (Known byte)) = Some byte

-- a place, or the greatest number
abbrev pub placed : ℕ → ℕ
placed at = min at (2 ^ 64 - 1)

-- what is known of a byte by its index among some bytes from a place on
abbrev pub known_at : List Byte → ℕ → ℕ → ℕ → Option ℕ
known_at bytes at len index = if nat_lt index len then known_value (slice_get bytes (placed (at + index))) else None

-- what is known of some bytes from a place on: eight at most
unfoldable pub known_from : List Byte → ℕ → ℕ → List (Option ℕ)
known_from bytes at len =
    known_at bytes at len 0 ∷ known_at bytes at len 1 ∷ known_at bytes at len 2 ∷ known_at bytes at len 3
    ∷ known_at bytes at len 4 ∷ known_at bytes at len 5 ∷ known_at bytes at len 6 ∷ known_at bytes at len 7 ∷ []

-- what is reported of some bytes of a board
abbrev pub wrong_at : Judged → Rule → Selected → ℕ → Wrong
wrong_at k rule sel len = record {
  rule = rule;
  board = Some sel.board;
  offset = sel.offset;
  len = len;
  known = known_from k.bytes (placed (sel.row.start + sel.offset)) len;
}

-- what is reported of bytes that no board has
abbrev pub wrong_elsewhere : Rule → ℕ → Wrong
wrong_elsewhere rule len = record { rule = rule; board = None; offset = 0; len = len; known = replicate 8 None }

-- what is reported of a datum by what it selects
abbrev pub wrong_by : Judged → Rule → Datum → Option Selected → Wrong
wrong_by k rule d None = wrong_elsewhere rule d.len
wrong_by k rule d (Some sel) = wrong_at k rule sel d.len

-- what is reported of a datum that breaks a rule
unfoldable pub wrong_of : Judged → Datum → Rule → Wrong
wrong_of k d rule = wrong_by k rule d (select k.entries k.rows d)

-- what is reported of a local access by the row of its board
abbrev pub local_wrong_by : Judged → Rule → ℕ → Local → Option Row → Wrong
local_wrong_by k rule board a None = wrong_elsewhere rule a.len
local_wrong_by k rule board a (Some row) = wrong_at k rule (record { board = board; offset = a.offset; row = row }) a.len

-- what is reported of a local access that breaks a rule
unfoldable pub local_wrong_of : Judged → ℕ → Local → Rule → Wrong
local_wrong_of k board a rule = local_wrong_by k rule board a (slice_get k.rows board)
