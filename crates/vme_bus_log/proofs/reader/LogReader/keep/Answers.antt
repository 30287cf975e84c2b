use Rattle.std.proofs.Common.{◌≡◌, length, ap, sym, ◌∙◌, eqb-true}
use Rattle.vme_bus_log.specs.Texts.{Reading}
use Rattle.vme_bus_log.proofs.Lines.{goes_on_in_comment, goes_past_limit}
use Rattle.vme_bus_log.proofs.reader.LogReader.keep.Goals as goal

pub returns-then-self-clause-begin : goal.returns-then-self-clause-begin
returns-then-self-clause-begin c =
    goes_on_in_comment _ _ _ _ c.args.byte (ap (λ (r : Reading). r.line) c.self.view_is) c.self.invariant c.if-self.true c.requires

pub returns-then-is_full-clause-begin : goal.returns-then-is_full-clause-begin
returns-then-is_full-clause-begin c =
    let full : length c.self.inside.line.items ≡ 255 = eqb-true _ _ (sym c.is_full.ensures.value ∙ c.if-is_full.true) in
    goes_past_limit _ _ c.self.inside.is_long _ c.args.byte (ap (λ (r : Reading). r.line) c.self.view_is) c.self.invariant c.if-self.false
    full c.requires c.if-byte-eq35.false
