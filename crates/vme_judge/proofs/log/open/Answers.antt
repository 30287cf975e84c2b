use Rattle.std.proofs.Common.{◌∙◌}
use Rattle.vme_judge.proofs.Logs.{addressed_short, addressed_wide, if_ok}
use Rattle.vme_judge.proofs.log.open.Goals as goal

pub returns-then-not-datum-clause-standing : goal.returns-then-not-datum-clause-standing
returns-then-not-datum-clause-standing c =
    if_ok _ _ c.fall.result c.fall.ensures.standing
    (λ legal is. is ∙ addressed_short c.args.spot c.args.datum.now _ c.if-not-datum.true)

pub returns-then-begins-clause-standing : goal.returns-then-begins-clause-standing
returns-then-begins-clause-standing c =
    if_ok _ _ c.handshake.result c.handshake.ensures.standing
    (λ legal is. addressed_wide c.args.spot c.args.datum.now c.quiet.result _ _ _ c.if-not-datum.false c.quiet.ensures
    c.in_ok-begins.ensures.standing is)
