-- An entry that responds is the selected one, and among more than two the table finds the selection of the list.
use Rattle.std.proofs.Common.{◌≡◌, None, Some, refl, sym, rules}
use Rattle.std.specs.Prelude.{slice_get}
use Rattle.std.proofs.lemmas.Bool.{ltb-true}
use Rattle.std.proofs.lemmas.Option.{slice_get_read}
use Rattle.vme_decode.specs.Lawful.{first_refusal}
use Rattle.vme_decode.specs.Select.{selection_at}
use Rattle.vme_decode.proofs.lemmas.Selection.{responding_remainder, result_place, result_offset, result_remainder}
use Rattle.vme_decode.proofs.map.AddressMap.select_at.Goals as goal

pub returns-then-responds-clause-remainder : goal.returns-then-responds-clause-remainder
returns-then-responds-clause-remainder c =
    let lawful : first_refusal c.args.self.now ≡ None = rw (← c.self.view_is) c.self.invariant.lawful in
    let there : slice_get c.args.self.now 0 ≡ Some c.in_ok-first.first.now = search rules in
    responding_remainder _ c.args.am c.args.addr 0 _ lawful there (sym c.if-responds.ensures)

pub returns-then-len-gt2 : goal.returns-then-len-gt2
returns-then-len-gt2 c =
    let lawful : first_refusal c.args.self.now ≡ None = rw (← c.self.view_is) c.self.invariant.lawful in
    let value : c.find.result ≡ selection_at c.args.self.now c.args.am c.args.addr =
    rw (← c.self.view_is) (c.find.ensures _ c.self.invariant.lawful c.self.invariant.table c.self.invariant.ranks) in
    record {
      value = value;
      place = result_place c.find.result c.args.self.now c.args.am c.args.addr value;
      offset = result_offset c.find.result c.args.self.now c.args.am c.args.addr value;
      remainder = result_remainder c.find.result c.args.self.now c.args.am c.args.addr lawful value;
    }

pub returns-then-responds-2-clause-remainder : goal.returns-then-responds-2-clause-remainder
returns-then-responds-2-clause-remainder c =
    let lawful : first_refusal c.args.self.now ≡ None = rw (← c.self.view_is) c.self.invariant.lawful in
    let lookup = rw (c.deref-2.ensures.value, c.self.view_is) at c.in_ok-second.ensures.lookup in
    let there : slice_get c.args.self.now 1 ≡ Some c.in_ok-second.second.now =
    slice_get_read c.args.self.now _ 1 _ refl (ltb-true _ _ (sym lookup.0)) lookup.1 in
    responding_remainder _ c.args.am c.args.addr 1 _ lawful there (sym c.if-responds-2.ensures)
