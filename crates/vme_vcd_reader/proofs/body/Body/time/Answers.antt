use Rattle.std.proofs.Common.{refl, sym, ◌∙◌}
use Rattle.vme_vcd_reader.proofs.Digits.{time_push}
use Rattle.vme_vcd_reader.proofs.body.Body.time.Goals as goal

pub returns-clause-more : goal.returns-clause-more
returns-clause-more c = λ digits has.
    time_push digits c.args.byte c.args.self.now _ has (sym c.with_digit.ensures ∙ c.in-Some.is) refl c.saturating_add-self.ensures
