use Rattle.std.proofs.Common.{arith, inr, rules, subst}
use Rattle.vme_vcd_reader.specs.Headers.{byte_read, header_end}
use Rattle.vme_vcd_reader.specs.Matches.{lines_of}
use Rattle.vme_vcd_reader.specs.Openings.{opening_of}
use Rattle.vme_vcd_reader.specs.Readers.{Enters, IsEndFault, IsReading}
use Rattle.vme_vcd_reader.proofs.Headings.{end_fault_is, ends_whole, ends_within, on_ok, whole_body}
use Rattle.vme_vcd_reader.proofs.reader.VcdReader.end.Goals as goal

pub returns-in_err-push_header-clause-rejects : goal.returns-in_err-push_header-clause-rejects
returns-in_err-push_header-clause-rejects c = λ map h ds is.
    let it : IsEndFault (header_end (byte_read h 32) (lines_of map ds)) c.in_err-push_header.field-0.0 =
    end_fault_is (byte_read h 32) (lines_of map ds) c.in_err-push_header.field-0.0 (c.in_err-push_header.ensures.rejects map h ds is) in
    first_of (search rules, grind arith)

pub returns-in-Header-clause-header : goal.returns-in-Header-clause-header
returns-in-Header-clause-header c = λ before.
    let entered : IsReading (opening_of c.push_header.new.self.presence.busy c.push_header.new.self.line) c.push_header.new.self =
    subst (λ step. Enters step c.push_header.new.self) c.in-Header.is (c.in_ok-push_header.ensures.header before) in
    c.end_body-in-Header.ensures.says (opening_of c.push_header.new.self.presence.busy c.push_header.new.self.line) entered

pub returns-in-Header-clause-heading : goal.returns-in-Header-clause-heading
returns-in-Header-clause-heading c = λ map h ds is.
    on_ok c.end_body-in-Header.result
    (ends_whole map (byte_read h 32) ds c.in_ok-push_header.field-0 c.push_header.new.self (c.in_ok-push_header.ensures.heading map h ds is) c.in-Header.is)

pub returns-in-Header-clause-rejects : goal.returns-in-Header-clause-rejects
returns-in-Header-clause-rejects c = λ map h ds is.
    let entered : IsReading (opening_of c.push_header.new.self.presence.busy c.push_header.new.self.line) c.push_header.new.self =
    subst (λ step. Enters step c.push_header.new.self) c.in-Header.is (c.in_ok-push_header.ensures.header is.before) in
    whole_body c.end_body-in-Header.result (IsEndFault (header_end (byte_read h 32) (lines_of map ds))) _
    (c.end_body-in-Header.ensures.fault (opening_of c.push_header.new.self.presence.busy c.push_header.new.self.line) entered)

pub returns-in-More-clause-rejects : goal.returns-in-More-clause-rejects
returns-in-More-clause-rejects c = λ map h ds is.
    inr (ends_within map (byte_read h 32) ds c.in_ok-push_header.field-0 c.push_header.new.self (c.in_ok-push_header.ensures.heading map h ds is)
    (λ header. first_of (search rules, cc (header, c.in-More.is))))
