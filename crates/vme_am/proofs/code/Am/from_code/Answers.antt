-- Where the bits select a space and a kind, the table has that row.
use Rattle.std.proofs.Common.{sym, arith}
use Rattle.vme_am.proofs.Bits.{row_by_bits, read_by_bits}
use Rattle.vme_am.proofs.code.Am.from_code.Goals as goal

pub invariant_of-result : goal.invariant_of-result
invariant_of-result c =
    row_by_bits c.args.code c.in-Some.space c.in-Some-kind_of.kind (omega arith) (sym c.in-Some.ensures) (sym c.in-Some-kind_of.ensures)

pub returns : goal.returns
returns c =
    read_by_bits c.args.code c.in-Some.space c.in-Some-kind_of.kind (omega arith) (sym c.in-Some.ensures) (sym c.in-Some-kind_of.ensures)
