-- The verdict on a bus log.
use Rattle.std.specs.Prelude.{ℕ, Bool, true, not, ◌==◌, ◌||◌, if◌then◌else◌, List, [], ◌∷◌, None}
use Rattle.vme_bus_log.specs.Texts.{log_says}
use Rattle.vme_judge.specs.declared.boards.Board.{Board}
use Rattle.vme_judge.specs.declared.options.Options.{Options}
use Rattle.vme_judge.specs.Logs.{LogSoFar, Legal, log_taken}
use Rattle.vme_judge.specs.Openings.{opening}

-- whether a byte is a blank before the first byte of a trace: a space, a tab, a carriage return or a line feed
abbrev pub is_space : ℕ → Bool
is_space b = b == 32 || b == 9 || b == 13 || b == 10

-- whether a text is a log, and no dump: its first byte that is no blank, if it has one, is no $
abbrev pub is_log : List ℕ → Bool
is_log [] = true
is_log (b ∷ text) = if is_space b then is_log text else not (b == 36)

-- a log, judged line by line from what is remembered before its first line
unfoldable pub log_of : Options → List Board → List ℕ → LogSoFar
log_of options boards text = log_taken (Legal (opening options boards) None) 1 (log_says text)
