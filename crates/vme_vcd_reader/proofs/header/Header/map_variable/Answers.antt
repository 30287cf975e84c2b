use Rattle.std.proofs.Common.{◌++◌, ◌∷◌, [], subst, ◌∙◌}
use Rattle.std.specs.Prelude.{OnOk}
use Rattle.vme_vcd_reader.specs.Found.{IsMatching}
use Rattle.vme_vcd_reader.proofs.Declaring.{declared_is}
use Rattle.vme_vcd_reader.proofs.header.Header.map_variable.Goals as goal

pub returns-clause-matching : goal.returns-clause-matching
returns-clause-matching c = λ h ds is short matching.
    let same = declared_is h c.args.self.now c.bytes.result.now c.as_slice.result.now c.named_variable-named.result.0.now c.named_variable-named.result.1
    is short c.bytes.ensures c.named_variable-named.ensures (c.as_slice.ensures.value ∙ c.in_ok-extend_from_slice.ensures.items) in
    subst (λ d. OnOk c.take-taken.result (IsMatching c.args.map.now (ds ++ d ∷ []) c.take-taken.new.self)) same (c.take-taken.ensures ds matching)
