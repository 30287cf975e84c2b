use Rattle.vme_shared.specs.Words.{put_by, taken_by, all_idle}
use Rattle.vme_mailbox_laws.proofs.lemmas.Groups.{own_words}
use Rattle.vme_mailbox_laws.proofs.queue_laws.own_words_are_those_of_own_entries.Goals as goal

pub returns-clause-put : goal.returns-clause-put
returns-clause-put c = λ who m h. own_words who put_by m all_idle h

pub returns-clause-taken : goal.returns-clause-taken
returns-clause-taken c = λ who m h. own_words who taken_by m all_idle h
