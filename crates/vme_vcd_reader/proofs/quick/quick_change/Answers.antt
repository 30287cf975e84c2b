use Rattle.std.proofs.Common.{arith}
use Rattle.vme_vcd_reader.proofs.Lines.{bit_end, first_end}
use Rattle.vme_vcd_reader.proofs.quick.quick_change.Goals as goal

pub returns-then-first-eq98 : goal.returns-then-first-eq98
returns-then-first-eq98 c = first_end c.quick_vector.result c.args.text.now 98 (omega arith) (omega arith) c.quick_vector.ensures

pub returns-then-bit-le1 : goal.returns-then-bit-le1
returns-then-bit-le1 c =
    bit_end c.quick_end.result c.args.text.now c.from.result (omega arith) (omega arith) (omega arith) (omega (arith, c.from.ensures))
    c.quick_end.ensures.name c.quick_end.ensures.bits
