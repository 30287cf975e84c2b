use Rattle.std.proofs.Common.{◌≡◌, drop}
use Rattle.std.specs.List.{list_any}
use Rattle.vme_script.specs.BoardRanges.{share}
use Rattle.vme_script.proofs.board_range.BoardRange.first_shared.Given as goal

-- no range so far shares a byte
abbrev pub invariant-loop-index : goal.invariant-loop-index
invariant-loop-index l = list_any (share l.self) (drop l.index l.others) ≡ list_any (share l.self) l.fn.others
