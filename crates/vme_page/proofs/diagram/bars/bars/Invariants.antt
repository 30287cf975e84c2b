use Rattle.std.proofs.Common.{◌≡◌, [], ◌-◌, ◌≤◌, ◌++◌, length}
use Rattle.std.specs.List.{flat_map, range_with_len}
use Rattle.vme_page.specs.Layouts.{bar_of}
use Rattle.vme_page.proofs.diagram.bars.bars.Given as goal

-- the bars so far, with those of the boards that are left, are all bars
abbrev pub invariant-loop-board : goal.invariant-loop-board
invariant-loop-board l = record {
  all : l.bars.items ++ flat_map (bar_of l.config []) (range_with_len l.board (length l.config.boards - l.board))
      ≡ flat_map (bar_of l.fn.config []) (range_with_len 0 (length l.fn.config.boards));
  few : length l.bars.items ≤ l.board;
}
