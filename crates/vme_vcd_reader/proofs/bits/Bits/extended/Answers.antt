use Rattle.std.proofs.Common.{arith}
use Rattle.vme_vcd_reader.proofs.Values.{free_is, undefined_is, long_is}
use Rattle.vme_vcd_reader.proofs.bits.Bits.extended.Goals as goal

pub returns-then-digits-ge64 : goal.returns-then-digits-ge64
returns-then-digits-ge64 c = λ levels is. long_is levels c.args.self c.args.first c.args.digits is (omega arith)

pub returns-in-Free : goal.returns-in-Free
returns-in-Free c = λ levels is.
    free_is levels c.args.self c.args.first c.args.digits _ c.in-Free.is is (omega arith) c.wrapping_shl-left.ensures

pub returns-in-Undefined : goal.returns-in-Undefined
returns-in-Undefined c = λ levels is.
    undefined_is levels c.args.self c.args.first c.args.digits _ c.in-Undefined.is is (omega arith) c.wrapping_shl-left.ensures
