use Rattle.std.proofs.Common.{◌++◌, ap, subst, ◌∙◌}
use Rattle.vme_vcd_reader.specs.Headings.{IsWord}
use Rattle.vme_vcd_reader.specs.Names.{identifier_of}
use Rattle.vme_vcd_reader.proofs.Headers.{name_begins, name_goes}
use Rattle.vme_vcd_reader.proofs.header.Header.take_other.Goals as goal

pub returns-in-Identifier-clause-says : goal.returns-in-Identifier-clause-says
returns-in-Identifier-clause-says c = λ h is short.
    name_begins h c.args.self.now c.clear.new.self c.identifier_of-self.result is c.in-Identifier.is short
    (c.identifier_of-self.ensures.number ∙ ap identifier_of c.bytes-in-Identifier.ensures) c.clear.ensures

pub returns-in-Name-clause-says : goal.returns-in-Name-clause-says
returns-in-Name-clause-says c = λ h is short.
    name_goes h c.args.self.now c.append.new.self is c.in-Name.is short
    (subst (λ bytes. IsWord (h.name ++ bytes) c.append.new.self) c.bytes-in-Name.ensures (c.append.ensures h.name is.stands.name))
