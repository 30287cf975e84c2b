use Rattle.std.proofs.Common.{◌≡◌, ◌+◌, ◌*◌, ◌≤◌, ◌++◌, vec_len, drop}
use Rattle.std.specs.Prelude.{vec_capacity}
use Rattle.vme_grammar.specs.Texts.{hex_text}
use Rattle.vme_grammar.proofs.print.push_hex_bytes.Given as goal

-- the text so far, followed by that of the remaining bytes, is the whole text; two digits were appended for each byte;
-- the capacity has not decreased
abbrev pub invariant-loop-byte : goal.invariant-loop-byte
invariant-loop-byte l = record {
  text : l.text.items ++ hex_text (drop l.byte-index l.bytes) ≡ l.fn.text.items ++ hex_text l.fn.bytes;
  len : vec_len l.text ≡ vec_len l.fn.text + 2 * l.byte-index;
  capacity : vec_capacity l.fn.text ≤ vec_capacity l.text;
}
