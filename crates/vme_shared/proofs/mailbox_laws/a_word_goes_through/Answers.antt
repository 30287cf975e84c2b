use Rattle.vme_shared.proofs.Example.{example_legal, example_proper, example_put, example_taken, early_legal, early_improper}
use Rattle.vme_shared.proofs.mailbox_laws.a_word_goes_through.Goals as goal

pub returns-clause-legal : goal.returns-clause-legal
returns-clause-legal c = example_legal

pub returns-clause-proper : goal.returns-clause-proper
returns-clause-proper c = example_proper

pub returns-clause-put : goal.returns-clause-put
returns-clause-put c = example_put

pub returns-clause-taken : goal.returns-clause-taken
returns-clause-taken c = example_taken

pub returns-clause-early_legal : goal.returns-clause-early_legal
returns-clause-early_legal c = early_legal

pub returns-clause-early_improper : goal.returns-clause-early_improper
returns-clause-early_improper c = early_improper
