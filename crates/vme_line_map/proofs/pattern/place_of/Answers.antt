-- Each step cuts the text as the definition does.
use Rattle.std.proofs.Common.{◌≡◌, Some, None, codes, refl, ap, ◌∙◌, sym, arith}
use Rattle.std.specs.Option.{option_map}
use Rattle.vme_line_map.specs.Texts.{cut_last, before_end}
use Rattle.vme_line_map.proofs.TextCuts.{texts, rsplit_once-is, strip_suffix-is}
use Rattle.vme_line_map.proofs.pattern.place_of.Goals as goal

pub returns-in_default : goal.returns-in_default
returns-in_default c =
    let shown = strip_suffix-is 93 c.args.text.now c.strip_suffix.result c.strip_suffix.ensures.cases in
    let plain : before_end 93 c.args.text.now ≡ None = shown ∙ ap (option_map (λ x. x.now)) c.in_default.is in
    rw (plain, c.whole.ensures) refl

pub returns-in_default-rsplit_once : goal.returns-in_default-rsplit_once
returns-in_default-rsplit_once c =
    let shown = strip_suffix-is 93 c.args.text.now c.strip_suffix.result c.strip_suffix.ensures.cases in
    let closed : before_end 93 c.args.text.now ≡ Some c.in-Some.inner.now = shown ∙ ap (option_map (λ x. x.now)) c.in-Some.is in
    let cut = rsplit_once-is (codes "[") c.in-Some.inner.now c.rsplit_once.result (omega arith) c.rsplit_once.ensures.cases in
    let none : cut_last (codes "[") c.in-Some.inner.now ≡ None = cut ∙ ap (option_map texts) c.in_default-rsplit_once.is in
    rw (closed, none) refl

pub returns-in-Ok : goal.returns-in-Ok
returns-in-Ok c =
    let shown = strip_suffix-is 93 c.args.text.now c.strip_suffix.result c.strip_suffix.ensures.cases in
    let closed : before_end 93 c.args.text.now ≡ Some c.in-Some.inner.now = shown ∙ ap (option_map (λ x. x.now)) c.in-Some.is in
    let cut = rsplit_once-is (codes "[") c.in-Some.inner.now c.rsplit_once.result (omega arith) c.rsplit_once.ensures.cases in
    let parts : cut_last (codes "[") c.in-Some.inner.now ≡ Some (c.in-Some-rsplit_once.name.now, c.in-Some-rsplit_once.indices.now) =
    cut ∙ ap (option_map texts) c.in-Some-rsplit_once.is in
    let said = sym c.bits_in.ensures ∙ c.in-Ok.is in
    rw (closed, parts, said) refl

pub returns-in-Err : goal.returns-in-Err
returns-in-Err c =
    let shown = strip_suffix-is 93 c.args.text.now c.strip_suffix.result c.strip_suffix.ensures.cases in
    let closed : before_end 93 c.args.text.now ≡ Some c.in-Some.inner.now = shown ∙ ap (option_map (λ x. x.now)) c.in-Some.is in
    let cut = rsplit_once-is (codes "[") c.in-Some.inner.now c.rsplit_once.result (omega arith) c.rsplit_once.ensures.cases in
    let parts : cut_last (codes "[") c.in-Some.inner.now ≡ Some (c.in-Some-rsplit_once.name.now, c.in-Some-rsplit_once.indices.now) =
    cut ∙ ap (option_map texts) c.in-Some-rsplit_once.is in
    let said = sym c.bits_in.ensures ∙ c.in-Err.is in
    rw (closed, parts, said) refl
