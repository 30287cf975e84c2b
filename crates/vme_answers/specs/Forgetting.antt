-- What is known once something unseen may have written some bytes of a board.
use Rattle.std.specs.Prelude.{ℕ, ◌-◌, min, nat_le, nat_lt, ◌&&◌, if◌then◌else◌, List, length, slice_get, Option, Some, None}
use Rattle.vme_known.specs.declared.byte.Byte.{Byte}
use Rattle.vme_answers.specs.declared.board.Row.{Row}
use Rattle.vme_answers.specs.Bytes.{all_forgotten}
use Rattle.vme_answers.specs.Starting.{place_after}
use Rattle.vme_answers.specs.Taking.{Judged}

-- bytes, of which those from one place to another are forgotten, if they are there
abbrev pub forgot_between : ℕ → ℕ → List Byte → List Byte
forgot_between from to bytes =
    if nat_lt from to && nat_le to (length bytes) then all_forgotten bytes from (to - from) else bytes

-- bytes of which those from one offset of a board to another are forgotten
abbrev pub forgot_in : Row → ℕ → ℕ → List Byte → List Byte
forgot_in row from to bytes =
    forgot_between (place_after row.start (min from row.size)) (place_after row.start (min to row.size)) bytes

-- bytes of which those of a board are forgotten, if it is there
abbrev pub forgot_if : Option Row → ℕ → ℕ → List Byte → List Byte
forgot_if None from to bytes = bytes
forgot_if (Some row) from to bytes = forgot_in row from to bytes

-- what is known once something unseen may have written the bytes of a board from one offset to another; a read before is no
-- read half any more
abbrev pub forgot : Judged → ℕ → ℕ → ℕ → Judged
forgot k board from to = record k { bytes = forgot_if (slice_get k.rows board) from to k.bytes; half = None }
