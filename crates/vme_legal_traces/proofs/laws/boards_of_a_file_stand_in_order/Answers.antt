use Rattle.vme_legal_traces.proofs.Boards.{file_in_order}
use Rattle.vme_legal_traces.proofs.laws.boards_of_a_file_stand_in_order.Goals as goal

pub returns : goal.returns
returns c = file_in_order
