-- The accesses of events that are taken may come.
use Rattle.std.proofs.Common.{◌≡◌, ℕ, Bool, true, false, not, ◌&&◌, ◌||◌, if◌then◌else◌, List, [], ◌∷◌, ◌++◌, ◌+◌, Option, Some, None, Result, Ok, Err, refl, ap, sym, ◌∙◌}
use Rattle.std.specs.Prelude.{slice_get}
use Rattle.std.proofs.lemmas.Bool.{false≢true}
use Rattle.vme_known.specs.declared.access.Access.{Access}
use Rattle.vme_known.specs.declared.access.Access.TheVariants.{Stores}
use Rattle.vme_known.specs.declared.byte.Byte.{Byte}
use Rattle.vme_known.specs.Judging.{may_come, known_after, may_all_come}
use Rattle.vme_protocol.specs.declared.datum.Datum.{Datum}
use Rattle.vme_protocol.specs.declared.port.Local.{Local}
use Rattle.vme_protocol.specs.declared.rule.Rule.{Rule}
use Rattle.vme_protocol.specs.declared.rule.Rule.TheVariants.{BusError, NoBoard, WrongBytes, TornModify}
use Rattle.vme_answers.specs.declared.board.Row.{Row}
use Rattle.vme_answers.specs.declared.selected.Selected.{Selected}
use Rattle.vme_answers.specs.Bytes.{bytes_of, local_bytes, finds, stores, all_after}
use Rattle.vme_answers.specs.Selecting.{select, is_second, has_cycle_of, may_refuse}
use Rattle.vme_answers.specs.Taking.{Judged, place, rested, is_torn, read_taken, write_taken, taken_at, taken_in, taken_by, taken, local_taken_at, local_taken_in, local_taken_by, local_taken}
use Rattle.vme_answers.specs.Running.{Event, Bus, Port, accesses_at, accesses_by, local_accesses_at, local_accesses_by, accesses_of, after_event, IsRun, stays, takes}

-- both tests hold
both_hold : (a b : Bool) → a ≡ true → b ≡ true → (a && b) ≡ true
both_hold true b h k = k
both_hold false b h k = h

-- accesses may come before others, and those after them
come_apart : (known : List Byte) (xs ys : List Access)
    → may_all_come known (xs ++ ys) ≡ (may_all_come known xs && may_all_come (all_after known xs) ys)
come_apart known [] ys = refl
come_apart known (x ∷ xs) ys =
    ap (λ (rest : Bool). may_come known x && rest) (come_apart (known_after known x) xs ys)
    ∙ regroup (may_come known x) (may_all_come (known_after known x) xs) (may_all_come (all_after (known_after known x) xs) ys)
  where
    regroup : (a b c : Bool) → (a && (b && c)) ≡ ((a && b) && c)
    regroup true b c = refl
    regroup false b c = refl

-- stores may always come
stores_come : (known : List Byte) (at : ℕ) (bytes : List ℕ) → may_all_come known (stores at bytes) ≡ true
stores_come known at [] = refl
stores_come known at (byte ∷ bytes) = stores_come (known_after known (Stores at byte)) (at + 1) bytes

-- what an event does to the bytes: its accesses may come, and are known then
pub record IsTaken (k next : Judged) (accesses : List Access) : Type 0 where
  pub come : may_all_come k.bytes accesses ≡ true
  pub known : next.bytes ≡ all_after k.bytes accesses

-- an event without accesses
idle : (k next : Judged) → next.bytes ≡ k.bytes → IsTaken k next []
idle k next same = record { come = refl; known = same }

-- a result that is taken
abbrev pub ok : Judged → Result Judged Rule
ok next = Ok next

-- the value of a result
ok_is : (a b : Judged) → ok a ≡ Ok b → a ≡ b
ok_is a b h = cc h

-- accesses are taken where the result has them
taken_with : (k given next : Judged) (accesses : List Access) → may_all_come k.bytes accesses ≡ true
    → given.bytes ≡ all_after k.bytes accesses → ok given ≡ Ok next → IsTaken k next accesses
taken_with k given next accesses come known h =
    record { come = come; known = ap (λ (j : Judged). j.bytes) (sym (ok_is given next h)) ∙ known }

-- an event that shows no bytes, by whether it is taken
rest_by : (k next : Judged) (b : Bool) → (if b then Ok (rested k) else Err NoBoard) ≡ Ok next → IsTaken k next []
rest_by k next true h = idle k next (ap (λ (j : Judged). j.bytes) (sym (ok_is (rested k) next h)))
rest_by k next false h = absurd (cc h)

-- bytes that are found, by whether they may come
find_by : (k given next : Judged) (accesses : List Access) (b : Bool) → may_all_come k.bytes accesses ≡ b
    → given.bytes ≡ all_after k.bytes accesses → (if b then Ok given else Err WrongBytes) ≡ Ok next → IsTaken k next accesses
find_by k given next accesses true come known h = taken_with k given next accesses come known h
find_by k given next accesses false come known h = absurd (cc h)

-- bytes that are stored, by whether a local write came between
store_by : (k given next : Judged) (accesses : List Access) (torn : Bool) → may_all_come k.bytes accesses ≡ true
    → given.bytes ≡ all_after k.bytes accesses → (if torn then Err TornModify else Ok given) ≡ Ok next → IsTaken k next accesses
store_by k given next accesses false come known h = taken_with k given next accesses come known h
store_by k given next accesses true come known h = absurd (cc h)

read_is : (k next : Judged) (d : Datum) (sel : Selected) (at : ℕ) → read_taken k d sel at ≡ Ok next → IsTaken k next (finds at (bytes_of d))
unfolding read_taken
read_is k next d sel at h = find_by k _ next (finds at (bytes_of d)) (may_all_come k.bytes (finds at (bytes_of d))) refl refl h

write_is : (k next : Judged) (d : Datum) (at : ℕ) → write_taken k d at ≡ Ok next → IsTaken k next (stores at (bytes_of d))
unfolding write_taken
write_is k next d at h =
    store_by k _ next (stores at (bytes_of d)) (is_second d && is_torn k.half) (stores_come k.bytes at (bytes_of d)) refl h

-- a datum by its tests
datum_by : (k next : Judged) (reads writes : Result Judged Rule) (found stored : List Access) (berr can refuse write : Bool)
    → (reads ≡ Ok next → IsTaken k next found) → (writes ≡ Ok next → IsTaken k next stored)
    → (if berr then (if can && not refuse then Err BusError else Ok (rested k)) else if can then (if write then reads else writes) else Err NoBoard) ≡ Ok next
    → IsTaken k next (if berr then [] else if write then found else stored)
datum_by k next reads writes found stored true true true write read_ok write_ok h = rest_by k next true h
datum_by k next reads writes found stored true true false write read_ok write_ok h = absurd (cc h)
datum_by k next reads writes found stored true false refuse write read_ok write_ok h = rest_by k next true h
datum_by k next reads writes found stored false true refuse true read_ok write_ok h = read_ok h
datum_by k next reads writes found stored false true refuse false read_ok write_ok h = write_ok h
datum_by k next reads writes found stored false false refuse write read_ok write_ok h = absurd (cc h)

at_is : (k next : Judged) (d : Datum) (sel : Selected) (at : ℕ) → taken_at k d sel at ≡ Ok next → IsTaken k next (accesses_at d (Some at))
unfolding taken_at
at_is k next d sel at h =
    datum_by k next (read_taken k d sel at) (write_taken k d at) (finds at (bytes_of d)) (stores at (bytes_of d)) d.dtack (has_cycle_of sel d)
    (may_refuse sel d) d.write (read_is k next d sel at) (write_is k next d at) h

in_is : (k next : Judged) (d : Datum) (sel : Selected) (at : Option ℕ) → taken_in k d sel at ≡ Ok next → IsTaken k next (accesses_at d at)
in_is k next d sel None h = rest_by k next d.dtack h
in_is k next d sel (Some at) h = at_is k next d sel at h

by_is : (k next : Judged) (d : Datum) (sel : Option Selected) → taken_by k d sel ≡ Ok next → IsTaken k next (accesses_by k d sel)
by_is k next d None h = rest_by k next (d.dtack || k.others) h
by_is k next d (Some sel) h = in_is k next d sel (place k sel d.len) h

-- a local access by its tests
local_by : (k stored_as found_as next : Judged) (found stored : List Access) (write b : Bool) → may_all_come k.bytes found ≡ b
    → may_all_come k.bytes stored ≡ true → found_as.bytes ≡ all_after k.bytes found → stored_as.bytes ≡ all_after k.bytes stored
    → (if write then Ok stored_as else if b then Ok found_as else Err WrongBytes) ≡ Ok next
    → IsTaken k next (if write then stored else found)
local_by k stored_as found_as next found stored true b may come known kept h = taken_with k stored_as next stored come kept h
local_by k stored_as found_as next found stored false true may come known kept h = taken_with k found_as next found may known h
local_by k stored_as found_as next found stored false false may come known kept h = absurd (cc h)

local_at_is : (k next : Judged) (a : Local) (sel : Selected) (at : ℕ) → local_taken_at k a sel at ≡ Ok next
    → IsTaken k next (local_accesses_at a (Some at))
unfolding local_taken_at
local_at_is k next a sel at h =
    local_by k _ _ next (finds at (local_bytes a)) (stores at (local_bytes a)) a.write (may_all_come k.bytes (finds at (local_bytes a))) refl
    (stores_come k.bytes at (local_bytes a)) refl refl h

local_in_is : (k next : Judged) (a : Local) (sel : Selected) (at : Option ℕ) → local_taken_in k a sel at ≡ Ok next
    → IsTaken k next (local_accesses_at a at)
local_in_is k next a sel None h = idle k next (ap (λ (j : Judged). j.bytes) (sym (ok_is k next h)))
local_in_is k next a sel (Some at) h = local_at_is k next a sel at h

local_row_is : (k next : Judged) (board : ℕ) (a : Local) (row : Option Row) → local_taken_by k board a row ≡ Ok next
    → IsTaken k next (local_accesses_by k board a row)
local_row_is k next board a None h = idle k next (ap (λ (j : Judged). j.bytes) (sym (ok_is k next h)))
local_row_is k next board a (Some row) h =
    local_in_is k next a (record { board = board; offset = a.offset; row = row })
    (place k (record { board = board; offset = a.offset; row = row }) a.len) h

-- an event that is taken
event_is : (k next : Judged) (event : Event) → after_event k event ≡ Ok next → IsTaken k next (accesses_of k event)
unfolding after_event accesses_of taken local_taken
event_is k next (Bus d) h = by_is k next d (select k.entries k.rows d) h
event_is k next (Port board a) h = local_row_is k next board a (slice_get k.rows board) h

-- what is known after accesses and more
after_apart : (known : List Byte) (xs ys : List Access) → all_after known (xs ++ ys) ≡ all_after (all_after known xs) ys
after_apart known [] ys = refl
after_apart known (x ∷ xs) ys = after_apart (known_after known x) xs ys

-- the accesses of a run
pub run_is : (k last : Judged) (events : List Event) (accesses : List Access) → IsRun k events accesses last → IsTaken k last accesses
run_is _ _ _ _ (stays k) = idle k k refl
run_is _ _ _ _ (takes k next last event events accesses step rest) =
    let one = event_is k next event step in
    let more = run_is next last events accesses rest in
    record {
      come = come_apart k.bytes (accesses_of k event) accesses
          ∙ both_hold (may_all_come k.bytes (accesses_of k event)) _ one.come
          (ap (λ (known : List Byte). may_all_come known accesses) (sym one.known) ∙ more.come);
      known = more.known ∙ ap (λ (known : List Byte). all_after known accesses) one.known
          ∙ sym (after_apart k.bytes (accesses_of k event) accesses);
    }

-- the accesses of a run may come
pub run_comes : (k last : Judged) (events : List Event) (accesses : List Access) → IsRun k events accesses last
    → may_all_come k.bytes accesses ≡ true
run_comes k last events accesses run = (run_is k last events accesses run).come

-- a read of wrong bytes, by whether they may come
wrong_by : (given : Judged) (b : Bool) → (if b then Ok given else Err WrongBytes) ≡ Err WrongBytes → b ≡ false
wrong_by given true h = absurd (cc h)
wrong_by given false h = refl

-- rules other than J23
not_rest : (k : Judged) (b : Bool) → (if b then Ok (rested k) else Err NoBoard) ≡ Err WrongBytes → ⊥
not_rest k true h = cc h
not_rest k false h = cc h

not_store : (given : Judged) (torn : Bool) → (if torn then Err TornModify else Ok given) ≡ Err WrongBytes → ⊥
not_store given true h = cc h
not_store given false h = cc h

wrong_read : (k : Judged) (d : Datum) (sel : Selected) (at : ℕ) → read_taken k d sel at ≡ Err WrongBytes
    → may_all_come k.bytes (finds at (bytes_of d)) ≡ false
unfolding read_taken
wrong_read k d sel at h = wrong_by _ (may_all_come k.bytes (finds at (bytes_of d))) h

wrong_write : (k : Judged) (d : Datum) (at : ℕ) → write_taken k d at ≡ Err WrongBytes → ⊥
unfolding write_taken
wrong_write k d at h = not_store _ (is_second d && is_torn k.half) h

wrong_datum_by : (k : Judged) (reads writes : Result Judged Rule) (found stored : List Access) (berr can refuse write : Bool)
    → (reads ≡ Err WrongBytes → may_all_come k.bytes found ≡ false) → (writes ≡ Err WrongBytes → ⊥)
    → (if berr then (if can && not refuse then Err BusError else Ok (rested k)) else if can then (if write then reads else writes) else Err NoBoard) ≡ Err WrongBytes
    → may_all_come k.bytes (if berr then [] else if write then found else stored) ≡ false
wrong_datum_by k reads writes found stored true true true write read_ok write_ok h = absurd (cc h)
wrong_datum_by k reads writes found stored true true false write read_ok write_ok h = absurd (cc h)
wrong_datum_by k reads writes found stored true false refuse write read_ok write_ok h = absurd (cc h)
wrong_datum_by k reads writes found stored false true refuse true read_ok write_ok h = read_ok h
wrong_datum_by k reads writes found stored false true refuse false read_ok write_ok h = absurd (write_ok h)
wrong_datum_by k reads writes found stored false false refuse write read_ok write_ok h = absurd (cc h)

wrong_at : (k : Judged) (d : Datum) (sel : Selected) (at : ℕ) → taken_at k d sel at ≡ Err WrongBytes
    → may_all_come k.bytes (accesses_at d (Some at)) ≡ false
unfolding taken_at
wrong_at k d sel at h =
    wrong_datum_by k (read_taken k d sel at) (write_taken k d at) (finds at (bytes_of d)) (stores at (bytes_of d)) d.dtack (has_cycle_of sel d)
    (may_refuse sel d) d.write (wrong_read k d sel at) (wrong_write k d at) h

wrong_in : (k : Judged) (d : Datum) (sel : Selected) (at : Option ℕ) → taken_in k d sel at ≡ Err WrongBytes
    → may_all_come k.bytes (accesses_at d at) ≡ false
wrong_in k d sel None h = absurd (not_rest k d.dtack h)
wrong_in k d sel (Some at) h = wrong_at k d sel at h

wrong_datum : (k : Judged) (d : Datum) (sel : Option Selected) → taken_by k d sel ≡ Err WrongBytes
    → may_all_come k.bytes (accesses_by k d sel) ≡ false
wrong_datum k d None h = absurd (not_rest k (d.dtack || k.others) h)
wrong_datum k d (Some sel) h = wrong_in k d sel (place k sel d.len) h

wrong_local_by : (k stored_as found_as : Judged) (found stored : List Access) (write b : Bool) → may_all_come k.bytes found ≡ b
    → (if write then Ok stored_as else if b then Ok found_as else Err WrongBytes) ≡ Err WrongBytes
    → may_all_come k.bytes (if write then stored else found) ≡ false
wrong_local_by k stored_as found_as found stored true b may h = absurd (cc h)
wrong_local_by k stored_as found_as found stored false true may h = absurd (cc h)
wrong_local_by k stored_as found_as found stored false false may h = may

wrong_local_at : (k : Judged) (a : Local) (sel : Selected) (at : ℕ) → local_taken_at k a sel at ≡ Err WrongBytes
    → may_all_come k.bytes (local_accesses_at a (Some at)) ≡ false
unfolding local_taken_at
wrong_local_at k a sel at h =
    wrong_local_by k _ _ (finds at (local_bytes a)) (stores at (local_bytes a)) a.write (may_all_come k.bytes (finds at (local_bytes a))) refl h

wrong_local_in : (k : Judged) (a : Local) (sel : Selected) (at : Option ℕ) → local_taken_in k a sel at ≡ Err WrongBytes
    → may_all_come k.bytes (local_accesses_at a at) ≡ false
wrong_local_in k a sel None h = absurd (cc h)
wrong_local_in k a sel (Some at) h = wrong_local_at k a sel at h

wrong_local : (k : Judged) (board : ℕ) (a : Local) (row : Option Row) → local_taken_by k board a row ≡ Err WrongBytes
    → may_all_come k.bytes (local_accesses_by k board a row) ≡ false
wrong_local k board a None h = absurd (cc h)
wrong_local k board a (Some row) h =
    wrong_local_in k a (record { board = board; offset = a.offset; row = row })
    (place k (record { board = board; offset = a.offset; row = row }) a.len) h

-- an event that breaks J23 has accesses that may not come
wrong_event : (k : Judged) (event : Event) → after_event k event ≡ Err WrongBytes → may_all_come k.bytes (accesses_of k event) ≡ false
unfolding after_event accesses_of taken local_taken
wrong_event k (Bus d) h = wrong_datum k d (select k.entries k.rows d) h
wrong_event k (Port board a) h = wrong_local k board a (slice_get k.rows board) h

-- what follows may come, if the whole may
second_holds : (a b : Bool) → (a && b) ≡ true → b ≡ true
second_holds true b h = h
second_holds false b h = absurd cc

-- after a run, the accesses up to an event that breaks J23 may not come
pub wrong_after : (k last : Judged) (events : List Event) (accesses : List Access) (event : Event) → IsRun k events accesses last
    → after_event last event ≡ Err WrongBytes → may_all_come k.bytes (accesses ++ accesses_of last event) ≡ true → ⊥
wrong_after k last events accesses event run wrong h =
    let one = run_is k last events accesses run in
    let rest : may_all_come (all_after k.bytes accesses) (accesses_of last event) ≡ true =
    second_holds (may_all_come k.bytes accesses) _ (sym (come_apart k.bytes accesses (accesses_of last event)) ∙ h) in
    false≢true (sym (wrong_event last event wrong) ∙ ap (λ (known : List Byte). may_all_come known (accesses_of last event)) one.known ∙ rest)
