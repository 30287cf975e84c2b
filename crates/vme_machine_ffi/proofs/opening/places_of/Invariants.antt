use Rattle.std.proofs.Common.{◌≡◌, ◌≤◌, ◌++◌, length, map, drop, vec_len, vec_capacity}
use Rattle.vme_machine_ffi.specs.Openings.{place_of}
use Rattle.vme_machine_ffi.proofs.opening.places_of.Given as goal

-- the boards before i have places, and those of the rest are to come
abbrev pub invariant-loop-i : goal.invariant-loop-i
invariant-loop-i l = record {
  items : l.places.items ++ map place_of (drop l.i l.fn.boards) ≡ map place_of l.fn.boards;
  len : vec_len l.places ≡ l.i;
  capacity : length l.fn.boards ≤ vec_capacity l.places;
}
