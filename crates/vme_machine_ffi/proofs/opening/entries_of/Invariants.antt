use Rattle.std.proofs.Common.{◌≡◌, ◌≤◌, ◌++◌, length, map, drop, vec_len, vec_capacity}
use Rattle.vme_c_types.specs.Boards.{entry_of}
use Rattle.vme_machine_ffi.proofs.opening.entries_of.Given as goal

-- the boards before i have entries, and those of the rest are to come
abbrev pub invariant-loop-i : goal.invariant-loop-i
invariant-loop-i l = record {
  items : l.entries.items ++ map (λ board. entry_of board.entry) (drop l.i l.fn.boards)
      ≡ map (λ board. entry_of board.entry) l.fn.boards;
  len : vec_len l.entries ≡ l.i;
  capacity : length l.fn.boards ≤ vec_capacity l.entries;
}
