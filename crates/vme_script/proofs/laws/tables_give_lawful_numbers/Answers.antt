use Rattle.vme_script.proofs.Numbers.{numbers_known}
use Rattle.vme_script.proofs.laws.tables_give_lawful_numbers.Goals as goal

pub returns : goal.returns
returns c = numbers_known
