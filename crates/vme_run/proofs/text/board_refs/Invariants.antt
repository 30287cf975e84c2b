use Rattle.std.proofs.Common.{◌≡◌, ◌++◌, length, map}
use Rattle.vme_threads.specs.ReportTexts.{texts_of_ends}
use Rattle.vme_run.proofs.text.board_refs.Given as goal

-- the entries so far, with those of the boards that are left, are all entries
abbrev pub invariant-loop-end : goal.invariant-loop-end
invariant-loop-end l = record {
  reported : l.boards.items ++ texts_of_ends l.ends (map (λ one. one.items) l.lines) ≡ texts_of_ends l.fn.ends (map (λ one. one.items) l.fn.lines);
  same : length l.lines ≡ length l.ends;
}

abbrev pub decreases-loop-end : goal.decreases-loop-end
decreases-loop-end l = length l.ends
