use Rattle.std.proofs.Common.{◌≡◌, ◌≤◌, ◌++◌, length, map, drop, vec_len, vec_capacity}
use Rattle.vme_machine_ffi.specs.Boards.{board_struct}
use Rattle.vme_machine_ffi.proofs.loading.structs_of.Given as goal

-- the boards before i have structs, and those of the rest are to come
abbrev pub invariant-loop-i : goal.invariant-loop-i
invariant-loop-i l = record {
  items : l.structs.items ++ map board_struct (drop l.i l.fn.boards) ≡ map board_struct l.fn.boards;
  len : vec_len l.structs ≡ l.i;
  capacity : length l.fn.boards ≤ vec_capacity l.structs;
}
