use Rattle.vme_vcd_reader.proofs.Words.{no_name, name_ends, no_digits, digits_end}
use Rattle.vme_vcd_reader.proofs.Reasons.{at_digits, at_name, at_time}
use Rattle.vme_vcd_reader.proofs.body.Body.end_word.Goals as goal

pub returns-then-self-eq0-clause-fault : goal.returns-then-self-eq0-clause-fault
returns-then-self-eq0-clause-fault c = λ awaited word at. no_name awaited word c.args.self.now at c.in-Identifier.is c.if-self-eq0.true

pub returns-in-Identifier-clause-says : goal.returns-in-Identifier-clause-says
returns-in-Identifier-clause-says c = λ awaited word at. name_ends awaited word c.args.self.now at c.in-Identifier.is c.if-self-eq0.false

pub returns-in-Digits-clause-fault : goal.returns-in-Digits-clause-fault
returns-in-Digits-clause-fault c = λ awaited word at. no_digits awaited word c.args.self.now at c.in-Digits.is c.if-self-eq0-3.true

pub returns-in-Digits-2-clause-says : goal.returns-in-Digits-2-clause-says
returns-in-Digits-2-clause-says c = λ awaited word at. digits_end awaited word c.args.self.now at c.in-Digits.is c.if-self-eq0-3.false

pub returns-then-self-eq0-clause-why : goal.returns-then-self-eq0-clause-why
returns-then-self-eq0-clause-why c = λ awaited word at. at_name awaited word c.args.self.now at c.in-Identifier.is

pub returns-in-Time-clause-why : goal.returns-in-Time-clause-why
returns-in-Time-clause-why c = λ awaited word at. at_time awaited word c.args.self.now at c.in-Time.is

pub returns-in-Digits-clause-why : goal.returns-in-Digits-clause-why
returns-in-Digits-clause-why c = λ awaited word at. at_digits awaited word c.args.self.now at c.in-Digits.is
