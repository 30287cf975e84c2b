use Rattle.std.proofs.Common.{◌+◌, ◌-◌, ◌++◌, sym, ap, ◌∙◌, append_assoc, List}
use Rattle.std.specs.List.{flat_map, range_with_len}
use Rattle.vme_trace.specs.declared.dump.values.Shown.{Shown}
use Rattle.vme_trace.specs.Values.{slot_values}
use Rattle.vme_trace.proofs.Ranges.{range_next}
use Rattle.vme_trace.proofs.dump.values.push_slots.Goals as goal

pub loop-board-preserved : goal.loop-board-preserved
loop-board-preserved c =
    let rest = flat_map slot_values (range_with_len (c.loop-board.board + 1) (c.args.boards - (c.loop-board.board + 1))) in
    ap (λ values. values ++ rest)
    (c.in_ok-extend_from_slice.ensures.items ∙ ap (λ (more : List Shown). c.loop-board.values.items ++ more) c.slot_values.ensures)
    ∙ append_assoc c.loop-board.values.items (slot_values c.loop-board.board) rest
    ∙ ap (λ left. c.loop-board.values.items ++ left) (sym (range_next slot_values c.loop-board.board c.args.boards c.loop-board-test.true)) ∙ c.loop-board.invariant
