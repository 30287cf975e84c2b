use Rattle.std.proofs.Common.{◌<◌, ◌≡◌, length, refl, sym, subst, arith, rules}
use Rattle.std.specs.Prelude.{IfErr}
use Rattle.vme_vcd_reader.specs.Headers.{fault_of}
use Rattle.vme_vcd_reader.proofs.Headers.{scope_goes, scope_stands, too_deep}
use Rattle.vme_vcd_reader.proofs.header.Header.open_scope.Goals as goal

pub returns-then-is_full-clause-why : goal.returns-then-is_full-clause-why
returns-then-is_full-clause-why c = λ h is short. too_deep h c.args.self.now is (grind arith)

pub returns-in_err-extend_from_slice-clause-why : goal.returns-in_err-extend_from_slice-clause-why
returns-in_err-extend_from_slice-clause-why c = λ h is short.
    let few : length c.args.self.now.lengths.items < 64 = grind arith in
    subst (λ o. IfErr c.from_residual.result (λ fault. fault ≡ fault_of o)) (sym (scope_goes h c.args.self.now is few)) (search rules)

pub returns-in_err-push-clause-why : goal.returns-in_err-push-clause-why
returns-in_err-push-clause-why c = λ h is short.
    let few : length c.args.self.now.lengths.items < 64 = grind arith in
    subst (λ o. IfErr c.from_residual-in_err-push.result (λ fault. fault ≡ fault_of o)) (sym (scope_goes h c.args.self.now is few)) (search rules)

pub returns-clause-says : goal.returns-clause-says
returns-clause-says c = λ h is short.
    let few : length c.args.self.now.lengths.items < 64 = grind arith in
    scope_stands h c.args.self.now _ is short few refl (first_of (search rules, grind arith)) (first_of (search rules, grind arith))
    c.saturating_add-self.ensures refl refl refl
