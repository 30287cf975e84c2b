use Rattle.std.proofs.Common.{◌≡◌, codes, arith}
use Rattle.std.proofs.lemmas.Grind.{common_steps}
use Rattle.vme_judge.specs.RejectionTexts.{variable_name}
use Rattle.vme_judge.proofs.Names.{named_as_is, named_by_mark}
use Rattle.vme_judge.proofs.rejection.write_name.Goals as goal

pub returns-in-Ok : goal.returns-in-Ok
returns-in-Ok c =
    let shown : variable_name c.args.name.now ≡ c.args.name.now = named_as_is c.args.name.now c.in-Ok.ensures.cases.1 in
    rw (shown, ← c.in-Ok.ensures.cases.0) (grind (arith, common_steps))

pub returns-in-Err : goal.returns-in-Err
returns-in-Err c =
    let shown : variable_name c.args.name.now ≡ codes "?" = named_by_mark c.args.name.now c.in-Err.ensures.cases.0 in
    rw shown (grind (arith, common_steps))
