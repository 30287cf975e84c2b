-- Defines lines that came to an end.
use Rattle.std.specs.Prelude.{ℕ, ◌≢◌, List, All}
use Rattle.vme_shared.specs.declared.reply.LineReply.{LineReply}
use Rattle.vme_shared.specs.declared.reply.LineReply.TheVariants.{Unfinished}
use Rattle.vme_threads.specs.Rans.{replies_of_lines}

-- none of these lines is unfinished
abbrev pub AreFinished : List (ℕ × LineReply) → Type 0
AreFinished lines = All (λ answer. answer ≢ Unfinished) (replies_of_lines lines)
