-- One more board is gathered; if the sink fails, a prefix of the part was written.
use Rattle.std.proofs.Common.{◌<◌, ◌+◌, ◌++◌, length, drop, arith, rules}
use Rattle.std.specs.List.{flat_map}
use Rattle.vme_io.specs.Prefixes.{AppendsPrefix}
use Rattle.vme_report.specs.Reports.{part_text}
use Rattle.vme_io.proofs.lemmas.Gathering.{so_far_more, so_far_fails}
use Rattle.vme_report.proofs.FirstParts.{item_first}
use Rattle.vme_report.proofs.gather.gather_boards.Goals as goal

pub returns-in_err-gather_board-clause-gathers : goal.returns-in_err-gather_board-clause-gathers
returns-in_err-gather_board-clause-gathers g c =
    let within : c.loop-board.board-index < length c.args.boards.now = omega (arith, c.loop-board-test.true) in
    let first = item_first (part_text c.args.part) c.args.boards.now c.loop-board.board-index c.board-item.result within c.board-item.is in
    let prefix : AppendsPrefix (g.W.Sink.contents c.args.writer.now) (g.W.Sink.contents c.gather_board.new.writer)
    (c.args.text.now.items ++ flat_map (part_text c.args.part) c.args.boards.now)
    = so_far_fails _ _ _ _ (part_text c.args.part c.board-item.result) _
    (flat_map (part_text c.args.part) (drop (c.loop-board.board-index + 1) c.args.boards.now)) _ c.loop-board.invariant.reported first
    c.in_err-gather_board.ensures.gathers in
    search rules

pub loop-board-preserved : goal.loop-board-preserved
loop-board-preserved g c =
    let within : c.loop-board.board-index < length c.args.boards.now = omega (arith, c.loop-board-test.true) in
    let first = item_first (part_text c.args.part) c.args.boards.now c.loop-board.board-index c.board-item.result within c.board-item.is in
    record {
      reported = so_far_more _ _ _ _ _ (part_text c.args.part c.board-item.result) _
          (flat_map (part_text c.args.part) (drop (c.loop-board.board-index + 1) c.args.boards.now)) _ c.loop-board.invariant.reported first
          c.in_ok-gather_board.ensures.gathers;
      mark = c.in_ok-gather_board.ensures.write;
    }
