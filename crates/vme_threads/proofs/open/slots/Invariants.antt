use Rattle.std.proofs.Common.{◌≡◌, ◌≤◌, map, take, vec_len, vec_capacity}
use Rattle.vme_script.specs.declared.board.BoardConfig.{BoardConfig}
use Rattle.vme_threads.proofs.open.slots.Given as goal

-- the slots of the boards so far
abbrev pub invariant-loop-board : goal.invariant-loop-board
invariant-loop-board l = record {
  count : vec_len l.slots ≡ l.board;
  capacity : l.count ≤ vec_capacity l.slots;
  slots : l.slots.items ≡ take l.board (map (λ (own : BoardConfig). own.slot) l.config.boards);
}
