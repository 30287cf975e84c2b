use Rattle.vme_order_laws.proofs.Texts.{run_text_of_gathered}
use Rattle.vme_order_laws.proofs.laws.gathered_texts_are_run_texts.Goals as goal

pub returns : goal.returns
returns c = run_text_of_gathered
