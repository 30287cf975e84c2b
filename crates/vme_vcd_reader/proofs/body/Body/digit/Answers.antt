use Rattle.std.proofs.Common.{refl, sym, ◌∙◌}
use Rattle.vme_vcd_reader.proofs.Digits.{digits_push, first_then, first_else}
use Rattle.vme_vcd_reader.proofs.body.Body.digit.Goals as goal
use Rattle.vme_vcd_reader.proofs.body.Body.digit.Goals.{then-self-eq0, else-self-eq0}

pub returns-clause-more : goal.returns-clause-more
returns-clause-more c = λ digits has.
    digits_push digits c.args.byte c.in-Some.level c.args.self.now _ has (sym c.level_of.ensures ∙ c.in-Some.is) refl c.with-self.ensures
    (elim c.if-self-eq0.branch [
      | then-self-eq0 w ↦ first_then c.args.self.now.digits _ c.in-Some.level c.args.self.now.first w.if-self-eq0.true w.self-is
      | else-self-eq0 w ↦ first_else c.args.self.now.digits _ c.in-Some.level c.args.self.now.first w.if-self-eq0.false w.self-is
    ])
    c.saturating_add-self.ensures
