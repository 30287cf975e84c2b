use Rattle.std.proofs.Common.{◌≡◌, ◌++◌, drop}
use Rattle.vme_stepper.specs.Steppers.{texts_of_processors}
use Rattle.vme_stepper.proofs.stepper.Stepper.board_reports.Given as goal

-- the entries so far and those of the boards that are left are all entries
abbrev pub invariant-loop-board : goal.invariant-loop-board
invariant-loop-board l = record {
  reported : l.reports.items ++ texts_of_processors (drop l.board l.config.boards) (drop l.board l.self-inside.processors.items) (drop l.board l.self-inside.core.boards)
      ≡ texts_of_processors l.config.boards l.self-inside.processors.items l.self-inside.core.boards;
  items : l.processor-items ≡ l.self-inside.processors.items;
}
