use Rattle.std.proofs.Common.{◌≡◌, ◌∷◌, is_some, rules}
use Rattle.std.specs.Str.Lines.{lines}
use Rattle.vme_engines.specs.Lines.{request_of}
use Rattle.vme_check.specs.Requests.{request_refusal, is_warned}
use Rattle.vme_check.proofs.LineCounts.{one_more, few_lines}
use Rattle.vme_check.proofs.findings.lines.counts_of_lines.Goals as goal

pub loop-line-preserved : goal.loop-line-preserved
loop-line-preserved c =
    let line = c.in-Some.line.now in
    let after = c.next.new.self.rest.now in
    let first : lines c.loop-line.line-iterator.rest.now ≡ line ∷ lines after = search rules in
    let sums = rw first at c.loop-line.invariant in (
      one_more (λ line. is_some (request_refusal (request_of line))) line (lines after) _ _ _ _ c.counts_of_line.ensures.errors sums.0
          (few_lines _ _ c.requires) c.and-counts.ensures.errors,
      one_more (λ line. is_warned (request_of line)) line (lines after) _ _ _ _ c.counts_of_line.ensures.warnings sums.1
          (few_lines _ _ c.requires) c.and-counts.ensures.warnings,
    )
