use Rattle.std.proofs.Common.{◌<◌, ◌+◌, ◌-◌, ◌++◌, length, sym, ap, ◌∙◌, arith, append_assoc}
use Rattle.std.specs.List.{flat_map, range_with_len}
use Rattle.vme_page.specs.Layouts.{port_of}
use Rattle.vme_page.proofs.Ranges.{range_next}
use Rattle.vme_page.proofs.diagram.bars.ports.Goals as goal

pub loop-board-preserved : goal.loop-board-preserved
loop-board-preserved c =
    let count = length c.args.config.now.boards in
    let f = port_of c.args.config.now in
    let within : c.loop-board.board < count = omega (arith, c.loop-board-test.true, c.boards-board-end.ensures.value) in
    let rest = flat_map f (range_with_len (c.loop-board.board + 1) (count - (c.loop-board.board + 1))) in
    record {
      all = ap (λ ports. ports ++ rest) c.in_ok-push_port.ensures.ports
          ∙ append_assoc c.loop-board.ports.items (f c.loop-board.board) rest
          ∙ ap (λ left. c.loop-board.ports.items ++ left) (sym (range_next f c.loop-board.board count within)) ∙ c.loop-board.invariant.all;
      few = omega (arith, c.loop-board.invariant.few, c.in_ok-push_port.ensures.few);
    }
