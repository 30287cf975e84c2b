use Rattle.vme_faults.proofs.Heads.{lines_first}
use Rattle.vme_faults.proofs.Boards.{board_first}
use Rattle.vme_faults.proofs.Declared.{numbers_first, bytes_first}
use Rattle.vme_faults.proofs.laws.the_first_is_reported.Goals as goal

pub returns-clause-lines : goal.returns-clause-lines
returns-clause-lines c = lines_first

pub returns-clause-board : goal.returns-clause-board
returns-clause-board c = board_first

pub returns-clause-numbers : goal.returns-clause-numbers
returns-clause-numbers c = numbers_first

pub returns-clause-bytes : goal.returns-clause-bytes
returns-clause-bytes c = bytes_first
