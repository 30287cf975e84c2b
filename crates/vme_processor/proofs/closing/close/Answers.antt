use Rattle.std.proofs.Common.{◌∙◌, All, IfOk, ap, sym, subst}
use Rattle.vme_bus_objects.specs.Objects.{bus_object_step}
use Rattle.vme_port_array.specs.Arrays.{opening, passes_of}
use Rattle.vme_port_array.specs.Settlements.{Settles}
use Rattle.vme_machine.specs.Members.{IsMemberOf, passes_of_members}
use Rattle.vme_processor.proofs.Members.{are_members, same_passes}
use Rattle.vme_processor.proofs.closing.close.Goals as goal

pub close-requires-clause-capacity : goal.close-requires-clause-capacity
close-requires-clause-capacity c =
    let given = c.requires.capacity in
    (given.0, subst (All (IsMemberOf given.0)) (sym c.take_members.ensures) (are_members given.0 c.args.processors.items given.1), given.2)

pub returns : goal.returns
returns c = record {
  settled = λ machine are.
      subst (λ ps. IfOk c.close.result (λ _. Settles bus_object_step (opening machine) (passes_of machine) ps c.close.new.homes.items))
      (ap passes_of_members c.take_members.ensures ∙ same_passes c.args.processors.items)
      (c.close.ensures.settled machine (subst (All (IsMemberOf machine)) (sym c.take_members.ensures) (are_members machine c.args.processors.items are)));
}
