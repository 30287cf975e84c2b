use Rattle.std.proofs.Common.{◌≡◌, true, false, Some, None, refl, sym, ap, ◌∙◌}
use Rattle.std.specs.List.{list_any}
use Rattle.vme_line_map.specs.Variables.{shown}
use Rattle.vme_vcd_reader.specs.Mapping.{declaration_of, mapped_of}
use Rattle.vme_vcd_reader.specs.Matches.{clashes, is_same}
use Rattle.vme_vcd_reader.proofs.Finding.{holds_wrong, holds_same, holds_clash, holds_more, part_with}
use Rattle.vme_vcd_reader.proofs.matching.Found.add.Goals as goal

pub returns-in_default-clause-holds : goal.returns-in_default-clause-holds
returns-in_default-clause-holds c = λ named holds.
    let none : mapped_of (shown c.args.wanted.now) (declaration_of c.args.declared.now) ≡ None = cc in
    holds_wrong (shown c.args.wanted.now) named (declaration_of c.args.declared.now) c.args.self.now _ holds none refl refl refl

pub returns-then-has_same-clause-holds : goal.returns-then-has_same-clause-holds
returns-then-has_same-clause-holds c = λ named holds.
    let some : mapped_of (shown c.args.wanted.now) (declaration_of c.args.declared.now) ≡ Some c.in-Some.mapped = cc in
    let part = part_with (declaration_of c.args.declared.now) c.in-Some.mapped in
    let same : list_any (λ q. is_same q part) c.args.self.now.parts.items ≡ true =
    ap (list_any (λ q. is_same q part)) (sym c.as_slice.ensures.value) ∙ sym c.has_same.ensures ∙ c.if-has_same.true in
    holds_same (shown c.args.wanted.now) named (declaration_of c.args.declared.now) c.in-Some.mapped c.args.self.now _ holds some same
    refl refl refl

pub returns-then-has_clash-clause-holds : goal.returns-then-has_clash-clause-holds
returns-then-has_clash-clause-holds c = λ named holds.
    let some : mapped_of (shown c.args.wanted.now) (declaration_of c.args.declared.now) ≡ Some c.in-Some.mapped = cc in
    let part = part_with (declaration_of c.args.declared.now) c.in-Some.mapped in
    let other : list_any (λ q. is_same q part) c.args.self.now.parts.items ≡ false =
    ap (list_any (λ q. is_same q part)) (sym c.as_slice.ensures.value) ∙ sym c.has_same.ensures ∙ c.if-has_same.false in
    let clash : list_any (λ q. clashes q part) c.args.self.now.parts.items ≡ true =
    ap (list_any (λ q. clashes q part)) (sym c.as_slice-2.ensures.value) ∙ sym c.has_clash.ensures ∙ c.if-has_clash.true in
    holds_clash (shown c.args.wanted.now) named (declaration_of c.args.declared.now) c.in-Some.mapped c.args.self.now _ holds some
    other clash refl refl

pub returns-clause-holds : goal.returns-clause-holds
returns-clause-holds c = λ named holds.
    let some : mapped_of (shown c.args.wanted.now) (declaration_of c.args.declared.now) ≡ Some c.in-Some.mapped = cc in
    let part = part_with (declaration_of c.args.declared.now) c.in-Some.mapped in
    let other : list_any (λ q. is_same q part) c.args.self.now.parts.items ≡ false =
    ap (list_any (λ q. is_same q part)) (sym c.as_slice.ensures.value) ∙ sym c.has_same.ensures ∙ c.if-has_same.false in
    let apart : list_any (λ q. clashes q part) c.args.self.now.parts.items ≡ false =
    ap (list_any (λ q. clashes q part)) (sym c.as_slice-2.ensures.value) ∙ sym c.has_clash.ensures ∙ c.if-has_clash.false in
    holds_more (shown c.args.wanted.now) named (declaration_of c.args.declared.now) c.in-Some.mapped c.args.self.now _ holds some
    other apart refl refl c.in_ok-push.ensures.items
