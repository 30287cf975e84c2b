use Rattle.vme_bus_objects.proofs.Replies.{board_replies, arbiter_replies}
use Rattle.vme_bus_objects.proofs.laws.replies_have_their_kind.Goals as goal

pub returns-clause-board : goal.returns-clause-board
returns-clause-board c = board_replies

pub returns-clause-arbiter : goal.returns-clause-arbiter
returns-clause-arbiter c = arbiter_replies
