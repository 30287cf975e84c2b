-- The lines that the words of each form spell.
use Rattle.std.proofs.Common.{◌≡◌, ℕ, ◌≤◌, List, ◌∷◌, length, Option, None, Some, Ok, refl, sym, ap, ◌∙◌}
use Rattle.std.specs.Prelude.{MatchOption, codes}
use Rattle.std.proofs.lemmas.Bool.{le-ltb}
use Rattle.arrayvec.specs.ArrayVec.{ArrayVec}
use Rattle.vme_cycle.specs.BlockBuffers.{BlockBytes}
use Rattle.vme_cycle.specs.declared.modify.Modify.{Modify}
use Rattle.vme_cycle.specs.declared.request.Request.TheVariants as requests
use Rattle.vme_memory.specs.declared.command.BoardCmd.TheVariants as commands
use Rattle.vme_grammar.specs.declared.line.Line.{Line}
use Rattle.vme_grammar.specs.declared.line.Line.TheVariants as lines
use Rattle.vme_grammar.specs.Fields.{with_field}
use Rattle.vme_grammar.specs.Grammar.{form_of, operands_of, line_of_words, line_of}
use Rattle.vme_lexer.specs.Numbers.{hex_number, hex_bytes, local_bytes, small_number, local_number, decimal_number}
use Rattle.vme_lexer.specs.Words.{words, words_of}
use Rattle.vme_grammar.specs.Canonical.{Spelled, IsPlace, IsFill, IsFunction, set, exchange, add, compare, Asks}
use Rattle.vme_grammar.proofs.Words.{only_word, small_is_word, local_is_word, bytes_is_word, local_bytes_is_word, decimal_is_word}

-- `r AM ADDR N` is parsed as a read
pub read_asked :
    (text rest : List ℕ) (am addr n : ℕ) → IsPlace text am addr rest → small_number rest ≡ Some n
    → line_of_words (codes "r" ∷ words text) ≡ Ok (lines.Bus (requests.Read am addr n))
unfolding line_of_words form_of operands_of with_field
read_asked text rest am addr n place read =
    rw (place.code.first, place.address.first, only_word rest (small_is_word n rest read), place.code.spells, place.address.spells, read) refl

-- `w AM ADDR HEX` is parsed as a write
pub write_asked :
    (text rest : List ℕ) (am addr : ℕ) (bytes : ArrayVec ℕ) → IsPlace text am addr rest → Some bytes.items ≡ hex_bytes 8 rest
    → line_of_words (codes "w" ∷ words text) ≡ Ok (lines.Bus (requests.Write am addr bytes))
unfolding line_of_words form_of operands_of with_field
write_asked text rest am addr bytes place is =
    let read = sym is in
    rw (place.code.first, place.address.first, only_word rest (bytes_is_word 8 bytes.items rest read), place.code.spells, place.address.spells, read) refl

-- `await AM ADDR HEX` is parsed as a read that waits for bytes
pub await_asked :
    (text rest : List ℕ) (am addr : ℕ) (bytes : ArrayVec ℕ) → IsPlace text am addr rest → Some bytes.items ≡ hex_bytes 8 rest
    → line_of_words (codes "await" ∷ words text) ≡ Ok (lines.Await am addr bytes)
unfolding line_of_words form_of operands_of with_field
await_asked text rest am addr bytes place is =
    let read = sym is in
    rw (place.code.first, place.address.first, only_word rest (bytes_is_word 8 bytes.items rest read), place.code.spells, place.address.spells, read) refl

-- `lr OFF N` is parsed as a read by the local port
pub local_read_asked :
    (text rest : List ℕ) (offset n : ℕ) → Spelled (hex_number 8) text offset rest → local_number rest ≡ Some n
    → line_of_words (codes "lr" ∷ words text) ≡ Ok (lines.Local (commands.LocalRead offset n))
unfolding line_of_words form_of operands_of with_field
local_read_asked text rest offset n at read = rw (at.first, only_word rest (local_is_word n rest read), at.spells, read) refl

-- `lw OFF HEX` is parsed as a write by the local port
pub local_write_asked :
    (text rest : List ℕ) (offset : ℕ) (bytes : ArrayVec ℕ) → Spelled (hex_number 8) text offset rest → Some bytes.items ≡ local_bytes rest
    → line_of_words (codes "lw" ∷ words text) ≡ Ok (lines.Local (commands.LocalWrite offset bytes))
unfolding line_of_words form_of operands_of with_field
local_write_asked text rest offset bytes at is =
    let read = sym is in rw (at.first, only_word rest (local_bytes_is_word bytes.items rest read), at.spells, read) refl

-- `br AM ADDR N COUNT` is parsed as a block read
pub block_read_asked :
    (text between rest : List ℕ) (am addr n count : ℕ) → IsPlace text am addr between → Spelled small_number between n rest
    → decimal_number 4 rest ≡ Some count → line_of_words (codes "br" ∷ words text) ≡ Ok (lines.Bus (requests.BlockRead am addr n count))
unfolding line_of_words form_of operands_of with_field
block_read_asked text between rest am addr n count place length read =
    rw (
      place.code.first,
      place.address.first,
      length.first,
      only_word rest (decimal_is_word 4 count rest read),
      place.code.spells,
      place.address.spells,
      length.spells,
      read,
    ) refl

-- `bw AM ADDR N HEX` is parsed as a block write
pub block_write_asked :
    (text between rest : List ℕ) (am addr n : ℕ) (bytes : ArrayVec ℕ) (block : BlockBytes) → IsPlace text am addr between
    → Spelled small_number between n rest → Some bytes.items ≡ hex_bytes 40 rest → block.items ≡ bytes.items
    → line_of_words (codes "bw" ∷ words text) ≡ Ok (lines.Bus (requests.BlockWrite am addr n block))
unfolding line_of_words form_of operands_of with_field
block_write_asked text between rest am addr n bytes block place length is same =
    let read = sym is in
    let whole : block ≡ record { items = bytes.items } = ap (λ (items : List ℕ). let b : BlockBytes = record { items = items } in b) same in
    rw (
      place.code.first,
      place.address.first,
      length.first,
      only_word rest (bytes_is_word 40 bytes.items rest read),
      place.code.spells,
      place.address.spells,
      length.spells,
      read,
      whole,
    ) refl

-- `bf AM ADDR N COUNT HEX` is parsed as a block write of one datum, COUNT times
pub block_fill_asked :
    (text between rest : List ℕ) (am addr n count : ℕ) (bytes : ArrayVec ℕ) → IsPlace text am addr between → Spelled small_number between n rest
    → IsFill n (words rest) count bytes → line_of_words (codes "bf" ∷ words text) ≡ Ok (lines.Bus (requests.BlockFill am addr n count bytes))
unfolding line_of_words form_of operands_of with_field
block_fill_asked text between rest am addr n count bytes place length fill =
    rw (place.code.first, place.address.first, length.first, fill.both, place.code.spells, place.address.spells, length.spells, fill.number, fill.datum) refl

-- the words `m AM ADDR N FUNC` are parsed as a read-modify-write
modify_by :
    (am addr n : ℕ) (a b c : List ℕ) (rest : List (List ℕ)) (f : Modify) → hex_number 2 a ≡ Some am → hex_number 8 b ≡ Some addr
    → small_number c ≡ Some n → IsFunction n rest f → line_of_words (codes "m" ∷ a ∷ b ∷ c ∷ rest) ≡ Ok (lines.Bus (requests.Modify am addr n f))
unfolding line_of_words form_of operands_of with_field
modify_by am addr n a b c rest f code address number set = rw (code, address, number) refl
modify_by am addr n a b c rest f code address number (exchange put) = rw (code, address, number, put) refl
modify_by am addr n a b c rest f code address number (add by) = rw (code, address, number, by) refl
modify_by am addr n a b c rest f code address number (compare expect put) = rw (code, address, number, expect, put) refl

-- the text `m AM ADDR N FUNC` is parsed as a read-modify-write
pub modify_asked :
    (text between rest : List ℕ) (am addr n : ℕ) (f : Modify) → IsPlace text am addr between → Spelled small_number between n rest
    → IsFunction n (words rest) f → line_of_words (codes "m" ∷ words text) ≡ Ok (lines.Bus (requests.Modify am addr n f))
modify_asked text between rest am addr n f place length function =
    rw (place.code.first, place.address.first, length.first)
    (modify_by am addr n place.code.word place.address.word length.word (words rest) f place.code.spells place.address.spells length.spells function)

-- the words `lm OFF N FUNC` are parsed as a read-modify-write by the local port
local_modify_by :
    (offset n : ℕ) (a b : List ℕ) (rest : List (List ℕ)) (f : Modify) → hex_number 8 a ≡ Some offset → local_number b ≡ Some n
    → IsFunction n rest f → line_of_words (codes "lm" ∷ a ∷ b ∷ rest) ≡ Ok (lines.Local (commands.LocalModify offset n f))
unfolding line_of_words form_of operands_of with_field
local_modify_by offset n a b rest f at number set = rw (at, number) refl
local_modify_by offset n a b rest f at number (exchange put) = rw (at, number, put) refl
local_modify_by offset n a b rest f at number (add by) = rw (at, number, by) refl
local_modify_by offset n a b rest f at number (compare expect put) = rw (at, number, expect, put) refl

-- the text `lm OFF N FUNC` is parsed as a read-modify-write by the local port
pub local_modify_asked :
    (text between rest : List ℕ) (offset n : ℕ) (f : Modify) → Spelled (hex_number 8) text offset between → Spelled local_number between n rest
    → IsFunction n (words rest) f → line_of_words (codes "lm" ∷ words text) ≡ Ok (lines.Local (commands.LocalModify offset n f))
local_modify_asked text between rest offset n f at length function =
    rw (at.first, length.first) (local_modify_by offset n at.word length.word (words rest) f at.spells length.spells function)

-- a text of at most 80 bytes with these words is read as the line that the words are parsed as
pub line_asked :
    (line word text : List ℕ) (asked : Option Line) → length line ≤ 80 → words_of line ≡ word ∷ words text → Asks word text asked
    → MatchOption asked (Unit {0}) (λ asked. line_of line ≡ Ok (Some asked))
unfolding line_of
line_asked line word text None short cut asks = tt
line_asked line word text (Some asked) short cut asks = rw (le-ltb 80 (length line) short, cut, asks) refl

-- a text of at most 80 bytes that begins with these two bytes is read as the line that its words are parsed as
pub headed :
    (line head tail text word : List ℕ) (first second : ℕ) (asked : Option Line) → length line ≤ 80 → line ≡ first ∷ second ∷ tail
    → first ∷ second ∷ tail ≡ head → words_of head ≡ word ∷ words text → Asks word text asked
    → MatchOption asked (Unit {0}) (λ asked. line_of line ≡ Ok (Some asked))
headed line head tail text word first second asked short start is cut asks =
    line_asked line word text asked short (ap words_of (start ∙ is) ∙ cut) asks
