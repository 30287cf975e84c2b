use Rattle.vme_answers.proofs.laws.cycles_are_those_of_the_board.Goals as goal
use Rattle.vme_answers.proofs.Cycles.{reads, writes, modifies}

pub returns-clause-read : goal.returns-clause-read
returns-clause-read c = reads

pub returns-clause-write : goal.returns-clause-write
returns-clause-write c = writes

pub returns-clause-modify : goal.returns-clause-modify
returns-clause-modify c = modifies
