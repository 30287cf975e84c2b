use Rattle.std.proofs.Common.{◌≡◌, ◌≤◌, ◌++◌, [], length, None, subst, sym, ap, ◌∙◌, arith}
use Rattle.vme_vcd_reader.specs.Found.{IsFull}
use Rattle.vme_vcd_reader.specs.Matches.{first_fault, lines_in}
use Rattle.vme_vcd_reader.specs.Tables.{variables_of}
use Rattle.vme_vcd_reader.proofs.AddingLines.{length-variables, lines_are, lines_full}
use Rattle.vme_vcd_reader.proofs.FaultsAt.{all_clear}
use Rattle.vme_vcd_reader.proofs.matching.Matching.end.Goals as goal

pub returns-in-Err-clause-fault : goal.returns-in-Err-clause-fault
returns-in-Err-clause-fault c = λ ds matching rows heads.
    let none : first_fault c.args.map.now ds 0 c.args.map.now.variables ≡ None = sym (c.first_fault.ensures ds matching) ∙ c.in_default.is in
    let start : c.begin.new.self.rows.items ≡ [] = c.begin.ensures.rows ∙ rows in
    lines_full c.args.map.now ds c.in-Err.fault none
    (subst (λ rows. IsFull c.in-Err.fault (variables_of rows ++ lines_in c.args.map.now ds)) start
    (c.in-Err.ensures.fault ds matching (all_clear c.args.map.now ds none) (c.in_ok-begin.ensures.linked rows heads)))

pub returns-clause-lines : goal.returns-clause-lines
returns-clause-lines c = λ ds matching rows heads.
    let none : first_fault c.args.map.now ds 0 c.args.map.now.variables ≡ None = sym (c.first_fault.ensures ds matching) ∙ c.in_default.is in
    let start : c.begin.new.self.rows.items ≡ [] = c.begin.ensures.rows ∙ rows in
    let few : length c.begin.new.self.rows.items ≤ 1000 = omega (arith, ap length start) in
    lines_are c.args.map.now ds (variables_of c.add_lines.new.table.rows.items) none
    (c.in_default-add_lines.ensures.added ds matching (all_clear c.args.map.now ds none)
    ∙ ap (λ rows. variables_of rows ++ lines_in c.args.map.now ds) start)
    (omega (arith, length-variables c.add_lines.new.table.rows.items, c.in_default-add_lines.ensures.few few))
