use Rattle.std.proofs.Common.{string_bytes, arith}
use Rattle.std.proofs.lemmas.Grind.{common_steps}
use Rattle.vme_judge.proofs.Joins.{list_line-map}
use Rattle.vme_judge.proofs.tail.write_list.Goals as goal

pub returns-then-is_empty : goal.returns-then-is_empty
returns-then-is_empty c =
    rw (list_line-map string_bytes c.args.head.now c.args.between.now c.args.texts.now) (grind (arith, common_steps))

pub returns : goal.returns
returns c =
    rw (list_line-map string_bytes c.args.head.now c.args.between.now c.args.texts.now) (grind (arith, common_steps))
