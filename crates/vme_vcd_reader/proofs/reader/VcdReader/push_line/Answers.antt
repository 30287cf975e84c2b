use Rattle.std.proofs.Common.{◌≡◌, ap, arith, rules}
use Rattle.vme_vcd_reader.specs.declared.body.Place.TheVariants as places
use Rattle.vme_vcd_reader.specs.Bodies.{next_line}
use Rattle.vme_vcd_reader.proofs.Taken.{line_changes}
use Rattle.vme_vcd_reader.proofs.reader.VcdReader.push_line.Goals as goal

pub returns-in-Some-clause-says : goal.returns-in-Some-clause-says
returns-in-Some-clause-says c = λ r is.
    let gap : c.args.self.now.body.place ≡ places.Gap = first_of (search rules, grind arith) in
    line_changes r c.args.self.now c.change_to.new.self c.args.text.now c.in-Some.quick.rest.now c.in-Some.quick.identifier c.in-Some.quick.bits _ is
    gap c.in-Some.ensures (c.change_to.ensures.lines is.table) (ap next_line c.change_to.ensures.line)

pub returns-clause-says : goal.returns-clause-says
returns-clause-says c = λ r is.
    let gap : c.args.self.now.body.place ≡ places.Gap = first_of (search rules, grind arith) in
    c.push_time.ensures.says r is gap

pub returns-clause-fault : goal.returns-clause-fault
returns-clause-fault c = λ r is.
    let gap : c.args.self.now.body.place ≡ places.Gap = first_of (search rules, grind arith) in
    c.push_time.ensures.fault r is gap
