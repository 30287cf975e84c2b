use Rattle.std.proofs.Common.{rules, arith, ◌≡◌, ◌∙◌, ◌≤◌, List, All, ap, refl, sym, subst}
use Rattle.std.proofs.lemmas.Grind.{common_steps}
use Rattle.vme_processor.specs.declared.processor.Processor.{Processor}
use Rattle.vme_processor.specs.Processors.{IsOf}
use Rattle.vme_machine_ffi.specs.Structs.{processors_in, full, values_of}
use Rattle.vme_machine_ffi.proofs.Filled.{full_same}
use Rattle.vme_machine_ffi.proofs.closing.vme_machine_close.Goals as goal

pub close-requires-clause-capacity : goal.close-requires-clause-capacity
close-requires-clause-capacity c =
    let values : List Processor = values_of c.take_all.new.boxes.items in
    let given = c.requires values (sym (c.if-not-take_all.ensures.all refl)) in
    let most : given.0.objects ≤ 64 = given.0.most in
    let capacity = c.in-Ok.ensures.homes.1 in
    (given.0, subst (All (IsOf given.0)) (sym c.unbox.ensures) given.1, omega (arith, most, capacity))

pub returns-in-Ok-close-clause-settled : goal.returns-in-Ok-close-clause-settled
returns-in-Ok-close-clause-settled c = λ machine are zero.
    let values : List Processor = values_of c.take_all.new.boxes.items in
    let whole : full values ≡ processors_in c.args.all.now = c.if-not-take_all.ensures.all refl in
    let same : values ≡ are.processors = full_same values are.processors (whole ∙ are.has) in
    record {
      processors = c.unbox.new.processors.items;
      has = sym whole ∙ ap full (sym c.unbox.ensures);
      homes = c.close.new.homes.items;
      settles = c.in-Ok-close.ensures.settled machine (subst (All (IsOf machine)) (sym (c.unbox.ensures ∙ same)) are.are);
      counted = first_of (search rules, grind (arith, common_steps));
      copied = first_of (search rules, grind (arith, common_steps));
    }
