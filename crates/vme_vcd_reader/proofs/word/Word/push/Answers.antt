use Rattle.std.proofs.Common.{arith}
use Rattle.vme_vcd_reader.proofs.Headers.{word_full, word_grows}
use Rattle.vme_vcd_reader.proofs.word.Word.push.Goals as goal

pub returns-then-is_full : goal.returns-then-is_full
returns-then-is_full c = λ word is. word_full word c.args.byte c.args.self.now is (grind arith)

pub returns-else-is_full : goal.returns-else-is_full
returns-else-is_full c = λ word is. word_grows word c.args.byte c.args.self.now c.push.new.self is (grind arith) c.push.ensures.items
