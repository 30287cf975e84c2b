use Rattle.std.proofs.Common.{◌≡◌, ◌++◌, ◌∙◌, arith, rules}
use Rattle.vme_bus_log.specs.Faults.{answer_words, datum_words, level_words, line_fault, reported}
use Rattle.vme_bus_log.proofs.parse.datum.Goals as goal

pub returns-in_err-index-clause-why : goal.returns-in_err-index-clause-why
returns-in_err-index-clause-why c =
    let is : line_fault datum_words c.args.from.rest.now ≡ reported c.in_err-index.field-0.0 =
    c.in_err-index.ensures.why (line_fault (level_words ++ answer_words)) in
    first_of (search rules, grind arith)

pub returns-in_err-levels-clause-why : goal.returns-in_err-levels-clause-why
returns-in_err-levels-clause-why c =
    let is : line_fault datum_words c.args.from.rest.now ≡ reported c.in_err-levels.field-0.0 =
    c.in_ok-index.ensures.rest (line_fault (level_words ++ answer_words)) ∙ c.in_err-levels.ensures.why (line_fault answer_words) in
    first_of (search rules, grind arith)

pub returns-in_err-answer-clause-why : goal.returns-in_err-answer-clause-why
returns-in_err-answer-clause-why c =
    let is : line_fault datum_words c.args.from.rest.now ≡ reported c.in_err-answer.field-0.0 =
    c.in_ok-index.ensures.rest (line_fault (level_words ++ answer_words)) ∙ c.in_ok-levels.ensures.rest (line_fault answer_words)
    ∙ c.in_err-answer.ensures.why in
    first_of (search rules, grind arith)
