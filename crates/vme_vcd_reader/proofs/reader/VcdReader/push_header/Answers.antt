use Rattle.std.proofs.Common.{subst}
use Rattle.vme_vcd_reader.specs.Headers.{byte_read}
use Rattle.vme_vcd_reader.specs.Headings.{ReadsByte}
use Rattle.vme_vcd_reader.specs.Matches.{lines_of}
use Rattle.vme_vcd_reader.proofs.Headings.{before_header, end_err, end_ok, fault_is, own_matching, takes_more, variable_err, variable_ok}
use Rattle.vme_vcd_reader.proofs.reader.VcdReader.push_header.Goals as goal

pub returns-in-Err-clause-rejects : goal.returns-in-Err-clause-rejects
returns-in-Err-clause-rejects c = λ map h ds is.
    fault_is (byte_read h c.args.byte) (lines_of map ds) c.in-Err.fault (c.in-Err.ensures.why h is.heading)

pub returns-in-More-clause-heading : goal.returns-in-More-clause-heading
returns-in-More-clause-heading c = λ map h ds is.
    takes_more map (byte_read h c.args.byte) ds _
    (subst (λ it. ReadsByte (byte_read h c.args.byte) it c.push.new.self) c.in-More.is (c.in-Ok.ensures.says h is.heading))
    (λ g heading. record { before = before_header c.args.self.now c.push.new.self is.before; same = is.same; heading = heading; matching = is.matching })

pub returns-in-Variable-clause-heading : goal.returns-in-Variable-clause-heading
returns-in-Variable-clause-heading c = λ map h ds is.
    variable_ok map (byte_read h c.args.byte) ds c.push.new.self _ c.take_variable.result
    (subst (λ it. ReadsByte (byte_read h c.args.byte) it c.push.new.self) c.in-Variable.is (c.in-Ok.ensures.says h is.heading))
    (c.in-Ok.ensures.name c.in-Variable.is)
    (λ g heading short. c.take_variable.ensures.header map g ds
    (record { before = before_header c.args.self.now c.push.new.self is.before; same = is.same; heading = heading; matching = is.matching }) short)

pub returns-in-Variable-clause-rejects : goal.returns-in-Variable-clause-rejects
returns-in-Variable-clause-rejects c = λ map h ds is.
    variable_err (byte_read h c.args.byte) c.push.new.self (lines_of map ds) c.take_variable.result
    (subst (λ it. ReadsByte (byte_read h c.args.byte) it c.push.new.self) c.in-Variable.is (c.in-Ok.ensures.says h is.heading))
    c.take_variable.ensures.fault

pub returns-in-Ended-clause-heading : goal.returns-in-Ended-clause-heading
returns-in-Ended-clause-heading c = λ map h ds is.
    end_ok map c.args.self.now.map.now (byte_read h c.args.byte) ds c.push.new.self _ c.enter.result
    (subst (λ it. ReadsByte (byte_read h c.args.byte) it c.push.new.self) c.in-Ended.is (c.in-Ok.ensures.says h is.heading)) is.same
    (c.enter.ensures.body ds (before_header c.args.self.now c.push.new.self is.before) (own_matching map h ds c.args.self.now is))

pub returns-in-Ended-clause-rejects : goal.returns-in-Ended-clause-rejects
returns-in-Ended-clause-rejects c = λ map h ds is.
    end_err map c.args.self.now.map.now (byte_read h c.args.byte) ds c.push.new.self c.enter.result
    (subst (λ it. ReadsByte (byte_read h c.args.byte) it c.push.new.self) c.in-Ended.is (c.in-Ok.ensures.says h is.heading)) is.same
    (c.enter.ensures.fault ds (before_header c.args.self.now c.push.new.self is.before) (own_matching map h ds c.args.self.now is))
