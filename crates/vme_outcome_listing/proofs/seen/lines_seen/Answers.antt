use Rattle.vme_outcome_listing.proofs.Looks.{count_more, table_more}
use Rattle.vme_outcome_listing.proofs.seen.lines_seen.Goals as goal

pub loop-board-preserved : goal.loop-board-preserved
loop-board-preserved c = record {
  count = count_more c.loop-board.table.items c.push.new.self.items c.in_ok-script_seen.field-0 c.loop-board.board
      c.loop-board.invariant.count c.in_ok-push.ensures.items;
  each = table_more (λ script. script.items) c.args.config.now c.args.kept.now c.args.claims.now c.loop-board.table.items
      c.push.new.self.items c.in_ok-script_seen.field-0 c.loop-board.board c.loop-board.invariant.count c.in_ok-push.ensures.items
      c.loop-board.invariant.each c.in_ok-script_seen.ensures;
}
