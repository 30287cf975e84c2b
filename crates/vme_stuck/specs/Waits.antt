-- What a processor waits for.
use Rattle.std.specs.Prelude.{ℕ, List, [], ◌∷◌, ◌++◌, length, slice_get, codes, Option, Some, None}
use Rattle.std.specs.Fmt.{decimal}
use Rattle.std.specs.Int.{w32, to_be_bytes}
use Rattle.vme_grammar.specs.Texts.{hex_byte, hex_text, output_line}
use Rattle.vme_grammar.specs.declared.line.Line.{Line}
use Rattle.vme_grammar.specs.declared.line.Line.TheVariants.{Await, Lock, Put, Take}
use Rattle.vme_script.specs.declared.script.ScriptLine.{ScriptLine}
use Rattle.vme_shared.specs.declared.reply.LineReply.{LineReply}

-- a code and an address as a line states them
abbrev pub place_text : ℕ → ℕ → List ℕ
place_text am addr = hex_byte am ++ (codes " " ++ hex_text (to_be_bytes w32 addr))

-- what a line waits for: bytes, a lock, space or a word in a mailbox; any other line can only wait for the bus
unfoldable pub wait_text : Line → List ℕ
wait_text (Await am addr bytes) = hex_text bytes.items ++ (codes " at " ++ place_text am addr)
wait_text (Lock am addr) = codes "the lock at " ++ place_text am addr
wait_text (Put box word) = codes "space in mailbox " ++ decimal box
wait_text (Take box) = codes "a word in mailbox " ++ decimal box
wait_text line = codes "the bus"

-- the slot and the number of a line
abbrev pub number_of : ℕ → ℕ → List ℕ
number_of slot number = decimal slot ++ (codes ":" ++ decimal number)

-- the line that says what a line of a slot's script waits for, by the number of the line there
unfoldable pub numbered_wait : ℕ → ℕ → Line → List ℕ
numbered_wait slot number line =
    number_of slot number ++ (codes " waits for " ++ (wait_text line ++ codes "\n"))

-- that of the next line of a script, if there is one
abbrev pub next_wait : ℕ → Option ScriptLine → List ℕ
next_wait slot None = []
next_wait slot (Some line) = numbered_wait slot line.number line.line

-- what the scripts in these slots wait for, by the replies to their lines so far
abbrev pub waits_text : List ℕ → List (List ScriptLine) → List (List LineReply) → List ℕ
waits_text (slot ∷ slots) (script ∷ scripts) (ended ∷ answers) =
    next_wait slot (slice_get script (length ended)) ++ waits_text slots scripts answers
waits_text slots scripts answers = []
