-- A row with the appended name is the new variable, and the variables before it stay.
use Rattle.std.proofs.Common.{length, ap, arith, rules}
use Rattle.std.proofs.lemmas.Bool.Decides.{nat_tests}
use Rattle.std.proofs.lemmas.List.{length-map}
use Rattle.vme_line_map.specs.Rows.{variable_of}
use Rattle.vme_line_map.proofs.StoredRows.{IsStored-more, IsStored-push, variables_of-more, variables_of-push}
use Rattle.vme_line_map.proofs.map.LineMap.add.Goals as goal

pub invariant_of-self-in_err-push : goal.invariant_of-self-in_err-push
invariant_of-self-in_err-push c =
    rw (c.in_err-push.ensures.items, c.in_ok-extend_from_slice.ensures.items) (IsStored-more _ _ _ c.self.invariant)

pub returns-in_err-push-clause-err : goal.returns-in_err-push-clause-err
returns-in_err-push-clause-err c =
    let same = variables_of-more _ c.args.wanted.now.name.now _ c.self.invariant.within in
    rw (← c.self.view_is, c.in_err-push.ensures.items, c.in_ok-extend_from_slice.ensures.items, same) (search rules)

pub invariant_of-self-2 : goal.invariant_of-self-2
invariant_of-self-2 c =
    rw (c.in_ok-push.ensures.items, c.in_ok-extend_from_slice.ensures.items)
    (IsStored-push _ _ _ _ c.self.invariant (omega arith) (omega arith) (omega (arith, ap length c.in_ok-extend_from_slice.ensures.items)))

pub returns-clause-added : goal.returns-clause-added
returns-clause-added c =
    let pushed =
    variables_of-push c.self.inside.names.items c.args.wanted.now.name.now c.self.inside.rows.items
    (record {
      from = c.len-from.result;
      to = c.len-2.result;
      group = c.args.wanted.now.group;
      place = c.args.wanted.now.place;
      is_inverted = c.args.wanted.now.is_inverted;
    })
    c.self.invariant.within (omega arith) (omega (arith, ap length c.in_ok-extend_from_slice.ensures.items)) in
    let count = length-map c.self.inside.rows.items (variable_of c.self.inside.names.items) in
    rw (← c.self.view_is, c.in_ok-push.ensures.items, c.in_ok-extend_from_slice.ensures.items, pushed)
    (grind (arith, nat_tests, count))
