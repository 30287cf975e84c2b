use Rattle.vme_trace.proofs.Digits.{no_digit}
use Rattle.vme_trace.proofs.dump.print.digit.Goals as goal

pub returns-then-place-ge32 : goal.returns-then-place-ge32
returns-then-place-ge32 c = no_digit c.args.number c.args.place c.ranges.number.fits c.if-place-ge32.true
