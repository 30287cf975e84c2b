use Rattle.std.proofs.Common.{ap, sym, ◌∙◌}
use Rattle.vme_judge.specs.Logs.{addressed_by, shown_by}
use Rattle.vme_judge.specs.Samples.{datum_samples}
use Rattle.vme_judge.specs.Standing.{HasFallen, IsStanding, course_then, samples_taken, standing}
use Rattle.vme_judge.proofs.Logs.{first_fallen, if_ok, one_after, shown_illegal}
use Rattle.vme_judge.proofs.log.LogState.begin.Goals as goal

pub returns-then-is_legal-clause-taken : goal.returns-then-is_legal-clause-taken
returns-then-is_legal-clause-taken c = λ stood.
    let on : IsStanding (standing c.open.new.judge) = sym (c.in_ok-is_legal.ensures.legal stood) ∙ c.if-is_legal.true in
    if_ok _ _ c.exchange.result (c.exchange.ensures.taken on) (λ goes holds.
    holds
    ∙ ap (shown_by c.args.datum.now)
    (ap (course_then (samples_taken c.args.spot (datum_samples c.args.datum.now))) c.in_ok-is_legal.ensures.standing
    ∙ one_after (addressed_by c.args.spot c.args.datum.now) (samples_taken c.args.spot (datum_samples c.args.datum.now)) _))

pub returns-then-is_legal-clause-goes : goal.returns-then-is_legal-clause-goes
returns-then-is_legal-clause-goes c = λ stood.
    c.exchange.ensures.goes (sym (c.in_ok-is_legal.ensures.legal stood) ∙ c.if-is_legal.true)

pub returns-clause-taken : goal.returns-clause-taken
returns-clause-taken c = λ stood.
    let fell : HasFallen (standing c.open.new.judge) = sym (c.in_ok-is_legal.ensures.legal stood) ∙ c.if-is_legal.false in
    if_ok _ _ c.illegal.result c.illegal.ensures.taken (λ goes resumes.
    shown_illegal c.args.datum.now _ (standing c.open.new.judge) _ _ c.illegal.ensures.last fell resumes
    (first_fallen (addressed_by c.args.spot c.args.datum.now) (samples_taken c.args.spot (datum_samples c.args.datum.now)) _ _ fell
    c.in_ok-is_legal.ensures.standing))
