use Rattle.std.proofs.Common.{◌≡◌, flat_map, take}
use Rattle.vme_judge.specs.AssumedTexts.{unseen_slot}
use Rattle.vme_judge.proofs.assumed.unseen_slots.Given as goal

-- the slots so far are listed
abbrev pub invariant-loop-board : goal.invariant-loop-board
invariant-loop-board l = l.slots.items ≡ flat_map (unseen_slot l.opens l.ports) (take l.board-index l.boards)
