use Rattle.std.proofs.Common.{◌≡◌, true, length, drop}
use Rattle.vme_script.specs.Scripts.{scripts_from, has_slots}
use Rattle.vme_script.proofs.Lists.{with_answers}
use Rattle.vme_script.proofs.config.scripts_of.Given as goal

-- the scripts so far, followed by those of the remaining boards, are those of all boards; the slots are in a backplane
abbrev pub invariant-loop-board : goal.invariant-loop-board
invariant-loop-board l = record {
  scripts : with_answers l.scripts.items (scripts_from l.map l.mailboxes (length l.scripts.items) (drop l.board-index l.boards)) ≡ scripts_from l.fn.map l.fn.mailboxes 0 l.fn.boards;
  slots : has_slots (drop l.board-index l.boards) ≡ true;
}
