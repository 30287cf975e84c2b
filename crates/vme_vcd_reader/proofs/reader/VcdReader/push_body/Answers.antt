use Rattle.std.proofs.Common.{subst}
use Rattle.vme_vcd_reader.specs.Places.{Takes}
use Rattle.vme_vcd_reader.specs.Readers.{rows_of}
use Rattle.vme_vcd_reader.specs.Words.{byte_says}
use Rattle.vme_vcd_reader.proofs.Bodies.{broken_word, fault_by, takes_time, time_fault}
use Rattle.vme_vcd_reader.proofs.Words.{on_err}
use Rattle.vme_vcd_reader.proofs.reader.VcdReader.push_body.Goals as goal

pub returns-in_err-push-clause-fault : goal.returns-in_err-push-clause-fault
returns-in_err-push-clause-fault c = λ r is.
    on_err c.from_residual.result
    (broken_word (rows_of c.args.self.now) r c.args.byte (c.in_err-push.ensures.fault r.awaited r.word is.body))

pub returns-in-Time-clause-says : goal.returns-in-Time-clause-says
returns-in-Time-clause-says c = λ r is.
    takes_time (rows_of c.args.self.now) r (byte_says r.awaited r.word c.args.byte) c.in-Time.time c.push.new.self c.args.self.now _ c.at_time.result
    (subst (λ it. Takes (byte_says r.awaited r.word c.args.byte) it c.push.new.self) c.in-Time.is (c.in_ok-push.ensures.says r.awaited r.word is.body))
    is c.at_time.ensures.says

pub returns-in-Time-clause-fault : goal.returns-in-Time-clause-fault
returns-in-Time-clause-fault c = λ r is.
    time_fault (rows_of c.args.self.now) r c.args.byte c.in-Time.time c.push.new.self c.args.self.now c.at_time.result
    (subst (λ it. Takes (byte_says r.awaited r.word c.args.byte) it c.push.new.self) c.in-Time.is (c.in_ok-push.ensures.says r.awaited r.word is.body))
    is c.at_time.ensures.fault

pub returns-in-Time-clause-blank : goal.returns-in-Time-clause-blank
returns-in-Time-clause-blank c = λ r is blank.
    fault_by (rows_of c.args.self.now) r (byte_says r.awaited r.word c.args.byte) c.in-Time.time c.push.new.self c.args.self.now c.at_time.result
    (subst (λ it. Takes (byte_says r.awaited r.word c.args.byte) it c.push.new.self) c.in-Time.is (c.in_ok-push.ensures.says r.awaited r.word is.body))
    is c.at_time.ensures.fault
