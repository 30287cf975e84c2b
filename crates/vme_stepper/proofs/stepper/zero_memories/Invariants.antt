use Rattle.std.proofs.Common.{◌≡◌, ◌≤◌, map, take, vec_len, vec_capacity}
use Rattle.vme_script.specs.Configurations.{opening_memory}
use Rattle.vme_stepper.proofs.stepper.zero_memories.Given as goal

-- the memories so far, and capacity for the others
abbrev pub invariant-loop-board : goal.invariant-loop-board
invariant-loop-board l = record {
  memories : l.memories.items ≡ map opening_memory (take l.board l.config.boards);
  count : vec_len l.memories ≡ l.board;
  capacity : l.count ≤ vec_capacity l.memories;
}
