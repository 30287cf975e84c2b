-- The accesses that the answers of a trace take, one event after another.
use Rattle.std.specs.Prelude.{◌≡◌, ℕ, if◌then◌else◌, List, [], ◌∷◌, ◌++◌, slice_get, Option, Some, None, Result, Ok}
use Rattle.vme_known.specs.declared.access.Access.{Access}
use Rattle.vme_protocol.specs.declared.datum.Datum.{Datum}
use Rattle.vme_protocol.specs.declared.port.Local.{Local}
use Rattle.vme_protocol.specs.declared.rule.Rule.{Rule}
use Rattle.vme_answers.specs.declared.board.Row.{Row}
use Rattle.vme_answers.specs.declared.selected.Selected.{Selected}
use Rattle.vme_answers.specs.Bytes.{bytes_of, local_bytes, finds, stores}
use Rattle.vme_answers.specs.Selecting.{select}
use Rattle.vme_answers.specs.Taking.{Judged, place, taken, local_taken}

-- what a trace shows: a datum, or an access by the local port of a board
pub data Event : Type 0 where
  Bus : Datum → Event
  Port : ℕ → Local → Event

-- the accesses of a datum at a place: its bytes are found or stored, unless BERR* answers
abbrev pub accesses_at : Datum → Option ℕ → List Access
accesses_at d None = []
accesses_at d (Some at) = if d.dtack then [] else if d.write then finds at (bytes_of d) else stores at (bytes_of d)

-- the accesses of a datum that selects a board, or none
abbrev pub accesses_by : Judged → Datum → Option Selected → List Access
accesses_by k d None = []
accesses_by k d (Some sel) = accesses_at d (place k sel d.len)

-- the accesses of a local access at a place
abbrev pub local_accesses_at : Local → Option ℕ → List Access
local_accesses_at a None = []
local_accesses_at a (Some at) = if a.write then stores at (local_bytes a) else finds at (local_bytes a)

-- the accesses of a local access of a board with a row, if there is one
abbrev pub local_accesses_by : Judged → ℕ → Local → Option Row → List Access
local_accesses_by k board a None = []
local_accesses_by k board a (Some row) =
    local_accesses_at a (place k (record { board = board; offset = a.offset; row = row }) a.len)

-- the accesses of an event
unfoldable pub accesses_of : Judged → Event → List Access
accesses_of k (Bus d) = accesses_by k d (select k.entries k.rows d)
accesses_of k (Port board a) = local_accesses_by k board a (slice_get k.rows board)

-- what is known after an event, or the rule that it breaks
unfoldable pub after_event : Judged → Event → Result Judged Rule
after_event k (Bus d) = taken k d
after_event k (Port board a) = local_taken k board a

-- events are taken one after another, with these accesses
pub data IsRun : Judged → List Event → List Access → Judged → Type 0 where
  stays : (k : Judged) → IsRun k [] [] k
  takes : (k next last : Judged) (event : Event) (events : List Event) (accesses : List Access)
      → after_event k event ≡ Ok next → IsRun next events accesses last
      → IsRun k (event ∷ events) (accesses_of k event ++ accesses) last
