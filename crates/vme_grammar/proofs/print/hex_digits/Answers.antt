-- The table is compared with the digits of each byte, by computing.
use Rattle.std.proofs.Common.{◌≡◌, ◌<◌, ℕ, [], map, get_or, refl, sym, ap, ◌∙◌, arith}
use Rattle.std.specs.List.{range_with_len}
use Rattle.std.proofs.lemmas.List.FromFn.{get_or-map-range_with_len}
use Rattle.vme_grammar.specs.Texts.{hex_byte}
use Rattle.vme_grammar.specs.declared.print.TheConstants.{PAIRS}
use Rattle.vme_grammar.proofs.print.hex_digits.Goals as goal

-- the table holds the two digits of each number below 256
pairs : map hex_byte (range_with_len 0 256) ≡ PAIRS
pairs = refl

-- the entry of a byte is its two digits
entry : (byte index : ℕ) → byte < 256 → index ≡ byte → get_or PAIRS index [] ≡ hex_byte byte
entry byte index less same =
    ap (λ table. get_or table index []) (sym pairs)
    ∙ get_or-map-range_with_len hex_byte 0 256 index byte [] (omega (arith, less, same)) (omega (arith, same))

pub returns : goal.returns
returns c = entry c.args.byte c.from.result (omega (arith, c.ranges.byte)) c.from.ensures
