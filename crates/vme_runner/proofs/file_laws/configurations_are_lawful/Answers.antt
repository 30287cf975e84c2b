use Rattle.vme_engines.proofs.lemmas.Lawful.{read_lawful}
use Rattle.vme_runner.proofs.file_laws.configurations_are_lawful.Goals as goal

pub returns : goal.returns
returns c = read_lawful
