use Rattle.std.proofs.Common.{sym, ◌∙◌}
use Rattle.vme_vcd_reader.proofs.Words.{takes_within, takes_character, takes_remark, digits_more, on_err, no_level, no_digit}
use Rattle.vme_vcd_reader.proofs.body.Body.push.Goals as goal

pub returns-in_err-digit-in-Digits-clause-fault : goal.returns-in_err-digit-in-Digits-clause-fault
returns-in_err-digit-in-Digits-clause-fault c = λ awaited word at.
    on_err c.from_residual.result
    (no_level awaited word c.args.byte c.args.self.now (sym c.is_blank.ensures ∙ c.if-is_blank.false) at
    c.in-Digits.is c.in_err-digit-in-Digits.ensures.fault)

pub returns-in_err-time-in-Time-clause-fault : goal.returns-in_err-time-in-Time-clause-fault
returns-in_err-time-in-Time-clause-fault c = λ awaited word at.
    on_err c.from_residual-in_err-time-in-Time.result
    (no_digit awaited word c.args.byte c.args.self.now (sym c.is_blank.ensures ∙ c.if-is_blank.false) at
    c.in-Time.is c.in_err-time-in-Time.ensures.fault)

pub returns-in-Identifier-clause-says : goal.returns-in-Identifier-clause-says
returns-in-Identifier-clause-says c = λ awaited word at.
    takes_character awaited word c.args.byte _ c.args.self.now (sym c.is_blank.ensures ∙ c.if-is_blank.false) at
    c.in-Identifier.is c.with_character-self.ensures

pub returns-in_ok-digit-in-Digits-clause-says : goal.returns-in_ok-digit-in-Digits-clause-says
returns-in_ok-digit-in-Digits-clause-says c = λ awaited word at.
    takes_within awaited word c.args.byte _ (sym c.is_blank.ensures ∙ c.if-is_blank.false)
    (digits_more awaited word c.args.byte c.args.self.now _ at c.in-Digits.is c.in_ok-digit-in-Digits.ensures.more)

pub returns-in-Comment-clause-says : goal.returns-in-Comment-clause-says
returns-in-Comment-clause-says c = λ awaited word at.
    takes_remark awaited word c.args.byte _ c.args.self.now (sym c.is_blank.ensures ∙ c.if-is_blank.false) at
    c.in-Comment.is c.with_character-self-in-Comment.ensures
