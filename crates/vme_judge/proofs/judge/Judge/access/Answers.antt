use Rattle.std.proofs.Common.{ℕ, ◌++◌, ap, sym, ◌∙◌}
use Rattle.std.specs.Prelude.{string_bytes}
use Rattle.vme_judge.specs.declared.judge.Judge.{Judge}
use Rattle.vme_judge.specs.LogLines.{access_printed}
use Rattle.vme_judge.specs.Standing.{Standing, state_of}
use Rattle.vme_judge.proofs.Samples.{accessed_then, fallen_is, fallen_stays, goes_accessed}
use Rattle.vme_judge.specs.Logs.{access_taken}
use Rattle.vme_judge.proofs.judge.Judge.access.Goals as goal

pub returns-then-is_some-clause-standing : goal.returns-then-is_some-clause-standing
returns-then-is_some-clause-standing c = fallen_stays c.args.self.now (access_taken c.args.spot c.args.slot c.args.access.now) (sym c.is_some.ensures ∙ c.if-is_some.true)

pub returns-then-is_some-clause-legal : goal.returns-then-is_some-clause-legal
returns-then-is_some-clause-legal c = fallen_is c.args.self.now (sym c.is_some.ensures ∙ c.if-is_some.true)

pub returns-clause-standing : goal.returns-clause-standing
returns-clause-standing c =
    let was : Standing = state_of c.args.self.now in
    accessed_then c.args.self.now c.print_access.new.self c.access_at.new.self c.args.spot c.args.slot c.args.access.now _ (sym c.is_some.ensures ∙ c.if-is_some.false)
    (ap state_of c.in_ok-print_access.ensures.rest
    ∙ ap (λ said. let r : Standing = record was { counts = record was.counts { accesses = c.count.new.number }; said = said } in r)
    c.in_ok-print_access.ensures.line
    ∙ ap (λ n. let r : Standing = record was {
      counts = record was.counts { accesses = n };
      said = was.said ++ access_printed was.options.log c.args.spot c.args.slot c.args.access.now;
    } in r) c.count.ensures)
    (ap (λ (j : Judge). j.finding) c.in_ok-print_access.ensures.rest)
    c.board_in-board.ensures c.access_at.ensures.access

pub returns-clause-legal : goal.returns-clause-legal
returns-clause-legal c =
    goes_accessed c.args.self.now c.print_access.new.self c.access_at.new.self c.access_at.result (sym c.is_some.ensures ∙ c.if-is_some.false)
    (ap (λ (j : Judge). j.finding) c.in_ok-print_access.ensures.rest) c.access_at.ensures.legal
