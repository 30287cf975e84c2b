use Rattle.vme_trace_laws.proofs.waves.Opening.{modifier_stands, address_stands, long_word_stands, write_stands}
use Rattle.vme_trace_laws.proofs.handshakes.the_address_stands_under_the_answer.Goals as goal

pub returns-clause-modifier : goal.returns-clause-modifier
returns-clause-modifier c = modifier_stands

pub returns-clause-address : goal.returns-clause-address
returns-clause-address c = address_stands

pub returns-clause-long_word : goal.returns-clause-long_word
returns-clause-long_word c = long_word_stands

pub returns-clause-write : goal.returns-clause-write
returns-clause-write c = write_stands
