use Rattle.std.proofs.Common.{◌≡◌, ◌∙◌, arith}
use Rattle.vme_vcd_reader.specs.Names.{identifier_of}
use Rattle.vme_vcd_reader.proofs.Names.{characters_end, one_identifier}
use Rattle.vme_vcd_reader.proofs.identifier.identifier_of.Goals as goal

pub returns-clause-alone : goal.returns-clause-alone
returns-clause-alone c = λ other some same.
    let number : c.loop-byte.identifier ≡ identifier_of c.args.word.now =
    characters_end c.args.word.now c.loop-byte.identifier c.loop-byte.byte-index c.loop-byte.invariant (omega arith) in
    one_identifier c.args.word.now other (same ∙ number) (λ none. some (number ∙ none))
