-- Where a line of a condition looks, and the line that an outcome has there.
use Rattle.std.specs.Prelude.{ℕ, ◌≡◌, ◌+◌, ◌*◌, ◌≤◌, List, [], ◌++◌, length, take, drop, map, slice_get, Option, Some, None, unwrap_or, codes}
use Rattle.std.specs.Fmt.{decimal}
use Rattle.std.specs.Int.{w32, to_be_bytes}
use Rattle.std.specs.Io.{StartsWith}
use Rattle.vme_shared.specs.declared.reply.LineReply.{LineReply}
use Rattle.vme_shared.specs.declared.reply.LineReply.TheVariants.{Unfinished}
use Rattle.vme_grammar.specs.Texts.{hex_byte, hex_text, output_line}
use Rattle.vme_script.specs.declared.board.BoardConfig.{BoardConfig}
use Rattle.vme_script.specs.declared.script.ScriptLine.{ScriptLine}
use Rattle.vme_script.specs.Configurations.{Configuration}
use Rattle.vme_script.specs.ReplyTexts.{place_text, line_text}
use Rattle.vme_states.specs.Outcomes.{Outcome}
use Rattle.vme_outcome_listing.specs.declared.place.Place.{Place}
use Rattle.vme_outcome_listing.specs.declared.place.Place.TheVariants.{Reply, Bytes}
use Rattle.vme_outcome_listing.specs.Texts.{slots_of}

-- what a line of bytes of a memory begins with
abbrev pub bytes_head : ℕ → ℕ → List ℕ
bytes_head slot offset =
    codes "mem " ++ (decimal slot ++ (codes " " ++ (hex_text (to_be_bytes w32 offset) ++ codes " ")))

-- what a line that looks at a place begins with
abbrev pub head_text : Place → List ℕ
head_text (Reply slot number board line) = place_text slot number
head_text (Bytes slot board offset count) = bytes_head slot offset

-- a byte as two digits, if there is one
abbrev pub byte_text : Option ℕ → List ℕ
byte_text None = []
byte_text (Some byte) = hex_byte byte

-- the reply to a line of a script; `Unfinished` if there is none
abbrev pub reply_at : Outcome → ℕ → ℕ → LineReply
reply_at outcome board line = unwrap_or (slice_get (unwrap_or (slice_get outcome.answers board) []) line) Unfinished

-- the bytes of a board's memory
abbrev pub bytes_of : Outcome → ℕ → List ℕ
bytes_of outcome board = unwrap_or (slice_get outcome.memories board) []

-- the line that an outcome has at a place: that of the reply, or the bytes that the memory has there, also if all are zero
abbrev pub line_at : Outcome → Place → List ℕ
line_at outcome (Reply slot number board line) = line_text slot number (reply_at outcome board line)
line_at outcome (Bytes slot board offset count) =
    bytes_head slot offset ++ output_line (hex_text (take count (drop offset (bytes_of outcome board))))

-- the configuration has a place: the board in the slot, and there the line with this number, or this many bytes
abbrev pub HasPlace : Configuration → Place → Type 0
HasPlace config (Reply slot number board line) =
    (slice_get (slots_of config) board ≡ Some slot)
    × ((script : List ScriptLine) → slice_get config.scripts board ≡ Some script
    → slice_get (map (λ line. line.number) script) line ≡ Some number)
HasPlace config (Bytes slot board offset count) =
    (slice_get (slots_of config) board ≡ Some slot)
    × ((one : BoardConfig) → slice_get config.boards board ≡ Some one → offset + count ≤ one.entry.size)

-- a line has two digits for each byte of a place in a memory
abbrev pub HasDigits : Place → List ℕ → Type 0
HasDigits (Reply slot number board line) text = Unit {0}
HasDigits (Bytes slot board offset count) text = length text ≡ length (bytes_head slot offset) + 2 * count + 1

-- a line with its end names a place of the configuration
pub record Names (config : Configuration) (text : List ℕ) (place : Place) : Type 0 where
  pub there : HasPlace config place
  pub begins : StartsWith text (head_text place)
  pub digits : HasDigits place text
