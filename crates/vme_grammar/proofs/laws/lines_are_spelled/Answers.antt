use Rattle.vme_grammar.proofs.lemmas.Spelling.{line_is_spelled, spelled_line_is_read, line_is_own}
use Rattle.vme_grammar.proofs.laws.lines_are_spelled.Goals as goal

pub returns-clause-spelled : goal.returns-clause-spelled
returns-clause-spelled c = λ text line. (line_is_spelled text line, λ (short, spelled). spelled_line_is_read text line short spelled)

pub returns-clause-own : goal.returns-clause-own
returns-clause-own c = line_is_own
