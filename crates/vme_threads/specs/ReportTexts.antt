-- What the text of a report has of each board.
use Rattle.std.specs.Prelude.{ℕ, List, [], ◌∷◌, map}
use Rattle.vme_shared.specs.declared.reply.LineReply.{LineReply}
use Rattle.vme_report.specs.Boards.{BoardText}
use Rattle.vme_threads.specs.declared.report.BoardReport.{BoardReport}
use Rattle.vme_threads.specs.declared.report.Report.{Report}

-- what the text has of each board, from the report's entry for the board and the numbered replies of its processor
abbrev pub texts_of_ends : List BoardReport → List (List (ℕ × LineReply)) → List BoardText
texts_of_ends (end ∷ ends) (lines ∷ more) =
    record { slot = end.slot; lines = lines; bytes = end.memory.bytes; steps = end.steps; made = end.made.items }
    ∷ texts_of_ends ends more
texts_of_ends ends lines = []

-- what the text of a report has of each board
abbrev pub texts_of_report : Report → List BoardText
texts_of_report report = texts_of_ends report.boards.items (map (λ lines. lines.items) report.lines.items)
