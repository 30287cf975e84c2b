-- Defines lines that were not denied the bus.
use Rattle.std.specs.Prelude.{ℕ, List, All}
use Rattle.vme_shared.specs.declared.reply.LineReply.{LineReply}
use Rattle.vme_line_task.specs.Tenures.{IsGranted}
use Rattle.vme_threads.specs.Rans.{replies_of_lines}

-- none of these lines was denied the bus
abbrev pub AreGranted : List (ℕ × LineReply) → Type 0
AreGranted lines = All IsGranted (replies_of_lines lines)
