use Rattle.std.proofs.Common.{◌≡◌, ◌++◌, arith, rules}
use Rattle.vme_bus_log.specs.Faults.{access_name_words, byte_words, line_fault, reported}
use Rattle.vme_bus_log.proofs.parse.access.Goals as goal

pub returns-in_err-slot-clause-why : goal.returns-in_err-slot-clause-why
returns-in_err-slot-clause-why c =
    let is : line_fault (access_name_words ++ byte_words) c.word.new.self.rest.now ≡ reported c.in_err-slot.field-0.0 =
    c.in_err-slot.ensures.why (line_fault byte_words) in
    first_of (search rules, grind arith)
