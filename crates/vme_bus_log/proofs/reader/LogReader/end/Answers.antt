use Rattle.std.proofs.Common.{Ok, Err, ap}
use Rattle.vme_bus_log.specs.Texts.{Reading}
use Rattle.vme_bus_log.proofs.Lines.{ended, ended_last, ends_long, ends_short, returned_as}
use Rattle.vme_bus_log.proofs.reader.LogReader.end.Goals as goal

pub returns-then-self-clause-says : goal.returns-then-self-clause-says
returns-then-self-clause-says c =
    ended_last _ _ _ _ _
    (ends_long _ _ _ c.self.inside.is_comment (ap (λ (r : Reading). r.line) c.self.view_is) c.self.invariant c.if-self.true)

pub returns-then-self-clause-more : goal.returns-then-self-clause-more
returns-then-self-clause-more c =
    ended _ _ _ _ _
    (ends_long _ _ _ c.self.inside.is_comment (ap (λ (r : Reading). r.line) c.self.view_is) c.self.invariant c.if-self.true)

pub returns-in-Err-clause-says : goal.returns-in-Err-clause-says
returns-in-Err-clause-says c =
    ended_last _ _ _ _ _
    (ends_short _ _ _ _ c.self.inside.is_comment _ (ap (λ (r : Reading). r.line) c.self.view_is) c.self.invariant c.if-self.false
    c.as_slice.ensures.value (returned_as c.as_slice.result.now (Err c.in-Err.fault) c.in-Err.ensures.says c.in-Err.ensures.why))

pub returns-in-Err-clause-more : goal.returns-in-Err-clause-more
returns-in-Err-clause-more c =
    ended _ _ _ _ _
    (ends_short _ _ _ _ c.self.inside.is_comment _ (ap (λ (r : Reading). r.line) c.self.view_is) c.self.invariant c.if-self.false
    c.as_slice.ensures.value (returned_as c.as_slice.result.now (Err c.in-Err.fault) c.in-Err.ensures.says c.in-Err.ensures.why))

pub returns-clause-says : goal.returns-clause-says
returns-clause-says c =
    ended_last _ _ _ _ _
    (ends_short _ _ _ _ c.self.inside.is_comment _ (ap (λ (r : Reading). r.line) c.self.view_is) c.self.invariant c.if-self.false
    c.as_slice.ensures.value (returned_as c.as_slice.result.now (Ok c.in-Ok.entry) c.in-Ok.ensures.says tt))

pub returns-clause-more : goal.returns-clause-more
returns-clause-more c =
    ended _ _ _ _ _
    (ends_short _ _ _ _ c.self.inside.is_comment _ (ap (λ (r : Reading). r.line) c.self.view_is) c.self.invariant c.if-self.false
    c.as_slice.ensures.value (returned_as c.as_slice.result.now (Ok c.in-Ok.entry) c.in-Ok.ensures.says tt))
