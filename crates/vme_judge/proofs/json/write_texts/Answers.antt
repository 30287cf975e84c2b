use Rattle.std.proofs.Common.{string_bytes, codes, arith}
use Rattle.std.proofs.lemmas.Grind.{common_steps}
use Rattle.vme_judge.specs.JsonTexts.{quoted, texts_json}
use Rattle.vme_judge.proofs.Joins.{join_by-map}
use Rattle.vme_judge.proofs.json.write_texts.Goals as goal

pub returns : goal.returns
unfolding texts_json
returns c = rw (join_by-map string_bytes quoted (codes ",") c.args.texts.now) (grind (arith, common_steps))
