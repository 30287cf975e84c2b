-- The word is merged under the byte enables of the location.
use Rattle.std.proofs.Common.{ap, ◌∙◌}
use Rattle.vme_memory.specs.Words.{word_bytes}
use Rattle.vme_memory.proofs.Enables.{merged, merged_bytes}
use Rattle.vme_memory.proofs.word.merge.Goals as goal

pub returns : goal.returns
returns c =
    ap (λ mask. word_bytes (merged c.args.word c.args.new mask)) c.enables-mask.ensures ∙ merged_bytes c.args.location c.args.word c.args.new
