use Rattle.vme_judge.specs.Messages.{two_holders_text}
use Rattle.vme_judge.proofs.title.write_two_holders.Goals as goal

pub returns : goal.returns
unfolding two_holders_text
returns c = c.write.ensures.bytes
