use Rattle.std.proofs.Common.{◌+◌, ◌-◌, ◌++◌, sym, ap, ◌∙◌, append_assoc}
use Rattle.std.specs.List.{flat_map, range_with_len}
use Rattle.vme_trace.specs.Slots.{slot_changes}
use Rattle.vme_trace.proofs.Ranges.{range_next}
use Rattle.vme_trace.proofs.dump.event.push_slots.Goals as goal

pub loop-board-preserved : goal.loop-board-preserved
loop-board-preserved c =
    let f = slot_changes c.args.event.now in
    let rest = flat_map f (range_with_len (c.loop-board.board + 1) (c.args.boards - (c.loop-board.board + 1))) in
    ap (λ changes. changes ++ rest) c.in_ok-push_slot.ensures
    ∙ append_assoc c.loop-board.changes.items (f c.loop-board.board) rest
    ∙ ap (λ left. c.loop-board.changes.items ++ left) (sym (range_next f c.loop-board.board c.args.boards c.loop-board-test.true)) ∙ c.loop-board.invariant
