-- What `parse` gives is the number of the text.
use Rattle.std.proofs.Common.{◌∙◌, sym}
use Rattle.vme_line_map.proofs.TextCuts.{number-is}
use Rattle.vme_line_map.proofs.pattern.small_number.Goals as goal

pub returns : goal.returns
returns c = c.ok.ensures.value ∙ sym (number-is 8 c.args.text.now c.parse.result c.parse.ensures.value.0)
