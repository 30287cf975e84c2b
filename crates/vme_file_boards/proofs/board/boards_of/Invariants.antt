use Rattle.std.proofs.Common.{ℕ, ◌≡◌, ◌≤◌, ◌++◌, List, length, drop, Ok, vec_len, vec_capacity}
use Rattle.vme_script.specs.declared.board.BoardConfig.{BoardConfig}
use Rattle.vme_script.specs.Boards.{boards_after}
use Rattle.vme_file_boards.proofs.board.boards_of.Given as goal

-- if all tables have boards, those before i have the boards so far
abbrev pub invariant-loop-i : goal.invariant-loop-i
invariant-loop-i l = record {
  rest : (all : List BoardConfig) → boards_after 0 l.fn.tables ≡ Ok all
      → (before : ℕ) × (rest : List BoardConfig) × (boards_after before (drop l.i l.fn.tables) ≡ Ok rest)
      × (l.boards.items ++ rest ≡ all);
  len : vec_len l.boards ≡ l.i;
  capacity : length l.fn.tables ≤ vec_capacity l.boards;
}
