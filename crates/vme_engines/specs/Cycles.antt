-- The output of `vme cycles` for a whole input, and its status.
use Rattle.std.specs.Prelude.{ℕ, true, List, [], ◌∷◌, ◌++◌}
use Rattle.std.specs.Str.Lines.{lines}
use Rattle.vme_memory.specs.declared.class.Width8To32.TheVariants.{D32}
use Rattle.vme_memory.specs.Boards.{Board, zeros}
use Rattle.vme_shared.specs.declared.status.Status.{Status}
use Rattle.vme_shared.specs.declared.status.Status.TheVariants.{Clean}
use Rattle.vme_engines.specs.Answers.{answer}
use Rattle.vme_shared.specs.Statuses.{worse_of}

-- the board of `vme cycles` at its start: 4,096 zero bytes, 32 data lines, and unaligned, block and read-modify-write
-- transfers
unfoldable pub fresh_board : Board
fresh_board = record { bytes = zeros 4096; class = record { width = D32; uat = true; blt = true; rmw = true } }

-- the texts of lines, one after another, each on the board that the line before left
abbrev pub text_of : Board → List (List ℕ) → List ℕ
text_of board [] = []
text_of board (line ∷ more) = (answer board line).text ++ text_of (answer board line).board more

-- the status of lines: Clean if every outcome is a success
abbrev pub status_after : Board → List (List ℕ) → Status
status_after board [] = Clean
status_after board (line ∷ more) = worse_of (answer board line).status (status_after (answer board line).board more)

-- the output of `vme cycles` for an input
abbrev pub cycles_text : List ℕ → List ℕ
cycles_text input = text_of fresh_board (lines input)

-- the status of `vme cycles` for an input
abbrev pub cycles_status : List ℕ → Status
cycles_status input = status_after fresh_board (lines input)
