-- Numbers that are written in place of the first of others, and bytes of boards one after the other.
use Rattle.std.proofs.Common.{ℕ, ◌≡◌, ◌<◌, ◌+◌, ◌++◌, min, List, Some, length, take, drop, get_or, slice_get, arith}
use Rattle.std.proofs.lemmas.Grind.{common_steps}
use Rattle.std.proofs.lemmas.List.{at_drop_more}
use Rattle.std.proofs.lemmas.Option.{slice_get-get_or}
use Rattle.vme_port.specs.declared.home.Home.{Home}
use Rattle.vme_bus_objects.specs.declared.object.BusObject.{BusObject}
use Rattle.vme_machine_ffi.specs.Closings.{bytes_in, bytes_of, written_over}

-- what has been written up to the end of the shorter list is all that is written
pub ended : (new old now : List ℕ) (i : ℕ) → i ≡ min (length new) (length old) → take i now ≡ take i new → drop i now ≡ drop i old
    → length now ≡ length old → now ≡ written_over new old
ended new old now i at taken kept same = grind (arith, common_steps, at, taken, kept, same)

-- a byte at a place before the end is there
pub present : (xs : List ℕ) (k : ℕ) → k < length xs → slice_get xs k ≡ Some (get_or xs k 0)
present xs k within = slice_get-get_or xs k 0 within

-- the bytes of the boards from one on are its own and those behind it
pub bytes_more : (homes : List (Home BusObject)) (i : ℕ) (d : Home BusObject) → i < length homes
    → bytes_of (drop i homes) ≡ bytes_in (get_or homes i d).object ++ bytes_of (drop (i + 1) homes)
bytes_more homes i d within = at_drop_more bytes_of homes i d within
