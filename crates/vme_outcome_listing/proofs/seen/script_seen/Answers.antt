use Rattle.vme_outcome_listing.proofs.Looks.{count_more, script_more}
use Rattle.vme_outcome_listing.proofs.seen.script_seen.Goals as goal

pub loop-line-preserved : goal.loop-line-preserved
loop-line-preserved c = record {
  count = count_more c.loop-line.script.items c.push.new.self.items c.in_ok-is_seen.field-0 c.loop-line.line
      c.loop-line.invariant.count c.in_ok-push.ensures.items;
  each = script_more c.args.config.now c.args.kept.now c.args.claims.now c.args.board c.loop-line.script.items
      c.push.new.self.items c.in_ok-is_seen.field-0 c.loop-line.line c.loop-line.invariant.count c.in_ok-push.ensures.items
      c.loop-line.invariant.each c.in_ok-is_seen.ensures;
}
