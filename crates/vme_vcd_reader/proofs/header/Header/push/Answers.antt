use Rattle.std.proofs.Common.{◌≡◌, ◌==◌, true, false, length, sym, subst, ◌∙◌, arith, rules}
use Rattle.std.specs.Prelude.{IfErr}
use Rattle.vme_vcd_reader.proofs.Headers.{blank_fault, blank_reads}
use Rattle.vme_vcd_reader.specs.Words.{is_blank}
use Rattle.vme_vcd_reader.proofs.header.Header.push.Goals as goal

pub returns-in_err-progress-clause-why : goal.returns-in_err-progress-clause-why
returns-in_err-progress-clause-why c = λ h is.
    let blank : is_blank c.args.byte ≡ true = first_of (search rules, grind arith) in
    let some : (length h.word == 0) ≡ false = sym (c.is_empty.ensures h.word is.word) ∙ c.if-is_empty.false in
    subst (λ why. IfErr c.from_residual.result (λ fault. fault ≡ why)) (sym (blank_fault h c.args.byte blank some)) (search rules)

pub returns-clause-says : goal.returns-clause-says
returns-clause-says c = λ h is.
    let blank : is_blank c.args.byte ≡ true = first_of (search rules, grind arith) in
    let some : (length h.word == 0) ≡ false = sym (c.is_empty.ensures h.word is.word) ∙ c.if-is_empty.false in
    blank_reads h c.args.byte c.in_ok-progress.progress c.take_word.new.self c.clear.new.self blank some
    (c.in_ok-progress.ensures.says h is) c.clear.ensures
