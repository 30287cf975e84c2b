-- The lines of a report.
use Rattle.std.specs.Prelude.{ℕ, ◌+◌, ◌*◌, ◌/◌, Bool, ◌==◌, if◌then◌else◌, List, [], ◌++◌, length, take, drop, flat_map, codes}
use Rattle.std.specs.List.{list_all, range_with_len}
use Rattle.std.specs.Fmt.{decimal}
use Rattle.std.specs.Int.{w32, to_be_bytes}
use Rattle.vme_shared.specs.declared.reply.LineReply.{LineReply}
use Rattle.vme_grammar.specs.Texts.{hex_text, output_line}
use Rattle.vme_script.specs.ReplyTexts.{line_text}

-- the lines of a report for the replies to a script
abbrev pub replies_text : ℕ → List (ℕ × LineReply) → List ℕ
replies_text slot lines = flat_map (λ line. line_text slot line.0 line.1) lines

-- the number of steps that one processor made
abbrev pub count_text : ℕ → List ℕ
count_text made = codes " " ++ decimal made

-- the number of steps of a board, and how many of them each processor made
unfoldable pub counts_text : ℕ → ℕ → List ℕ → List ℕ
counts_text slot steps made =
    output_line (codes "board " ++ (decimal slot ++ (codes " steps "
    ++ (decimal steps ++ (codes " made" ++ flat_map count_text made)))))

-- whether all bytes are zero
abbrev pub is_blank : List ℕ → Bool
is_blank dump_row = list_all (λ byte. byte == 0) dump_row

-- a row of memory from an offset on; nothing if it is all zero
unfoldable pub row_text : ℕ → ℕ → List ℕ → List ℕ
row_text slot offset dump_row =
    if is_blank dump_row then []
    else output_line (codes "mem " ++ (decimal slot ++ (codes " "
    ++ (hex_text (to_be_bytes w32 offset) ++ (codes " " ++ hex_text dump_row)))))

-- row i of a memory: sixteen bytes, or fewer in the last row
abbrev pub dump_row : List ℕ → ℕ → List ℕ
dump_row bytes i = take 16 (drop (16 * i) bytes)

-- the number of rows of a memory
abbrev pub row_count : List ℕ → ℕ
row_count bytes = (length bytes + 15) / 16

-- the rows of a memory, in order
abbrev pub memory_text : ℕ → List ℕ → List ℕ
memory_text slot bytes = flat_map (λ i. row_text slot (16 * i) (dump_row bytes i)) (range_with_len 0 (row_count bytes))
