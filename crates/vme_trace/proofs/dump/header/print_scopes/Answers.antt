use Rattle.std.proofs.Common.{◌≡◌, ◌<◌, ◌+◌, ◌-◌, ◌++◌, List, length, map, sym, ap, ◌∙◌, arith, append_assoc}
use Rattle.std.specs.List.{flat_map, range_with_len}
use Rattle.std.proofs.lemmas.Option.{get_or_from_slice_get}
use Rattle.vme_script.specs.declared.board.BoardConfig.{BoardConfig}
use Rattle.vme_line_task.specs.Scripts.{slot_at}
use Rattle.vme_trace.specs.Headers.{slot_scope, scope_text}
use Rattle.vme_trace.proofs.Ranges.{range_next}
use Rattle.vme_trace.proofs.dump.header.print_scopes.Goals as goal

pub loop-board-preserved : goal.loop-board-preserved
loop-board-preserved c =
    let count = length c.args.config.now.boards in
    let boards : List BoardConfig = c.args.config.now.boards in
    let within : c.loop-board.board < count = omega (arith, c.loop-board-test.true, c.boards-board-end.ensures.value) in
    let own : slot_at c.args.config.now c.loop-board.board ≡ c.slot.result
    = get_or_from_slice_get (map (λ (b : BoardConfig). b.slot) boards) c.loop-board.board c.slot.result 0 c.slot.ensures in
    let rest = flat_map (slot_scope c.args.config.now) (range_with_len (c.loop-board.board + 1) (count - (c.loop-board.board + 1))) in
    ap (λ text. text ++ rest) (c.in_ok-print_scope.ensures ∙ ap (λ slot. c.loop-board.text.items ++ scope_text c.loop-board.board slot) (sym own))
    ∙ append_assoc c.loop-board.text.items (slot_scope c.args.config.now c.loop-board.board) rest
    ∙ ap (λ left. c.loop-board.text.items ++ left) (sym (range_next (slot_scope c.args.config.now) c.loop-board.board count within)) ∙ c.loop-board.invariant
