use Rattle.std.proofs.Common.{◌≡◌, ◌++◌, false, drop}
use Rattle.std.specs.List.{flat_map}
use Rattle.vme_report.specs.Reports.{part_text}
use Rattle.vme_io.proofs.lemmas.Gathering.{SoFar}
use Rattle.vme_report.proofs.gather.gather_boards.Given as goal

-- the boards so far, with those that are left, are the whole part
abbrev pub invariant-loop-board : goal.invariant-loop-board
invariant-loop-board g l = record {
  reported : SoFar (g.W.Sink.contents l.fn.writer) (g.W.Sink.contents l.writer) l.text.items (flat_map (part_text l.part) (drop l.board-index l.boards))
      (l.fn.text.items ++ flat_map (part_text l.fn.part) l.fn.boards);
  mark : g.W.Sink.is_marked l.writer ≡ false;
}
