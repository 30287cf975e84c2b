use Rattle.std.proofs.Common.{◌≡◌, ◌+◌, ◌<◌, [], ◌∷◌, ◌++◌, length, get_or, ap, arith, suc, sym, subst, ◌∙◌}
use Rattle.std.specs.Prelude.{slice_set}
use Rattle.vme_vcd_reader.specs.declared.table.Row.{Row}
use Rattle.vme_vcd_reader.specs.Tables.{IsLinked, place_of, variables_of}
use Rattle.vme_vcd_reader.proofs.Adding.{linked_more, read_at, variables_more}
use Rattle.vme_vcd_reader.proofs.table.Table.add.Goals as goal

pub returns-clause-linked : goal.returns-clause-linked
returns-clause-linked c = λ linked.
    let rows = c.args.self.now.rows.items in
    let heads = c.args.self.now.heads.items in
    let row : Row = record { identifier = c.args.identifier; mapped = c.args.mapped; next = c.in-Some.head.now } in
    let here : place_of c.args.identifier < length heads = omega (arith, linked.all, c.place_of-place.ensures.place, c.place_of-place.ensures.within) in
    let next : c.in-Some.head.now ≡ get_or heads (place_of c.args.identifier) 0 =
    read_at _ heads c.place_of-place.result (place_of c.args.identifier) c.in-Some.head.now c.as_slice.ensures.value c.place_of-place.ensures.place
    c.in-Some.ensures.lookup.3.0 c.in-Some.ensures.lookup.1 in
    let count : c.len-2.result + 1 ≡ suc (length rows) = omega (arith, c.len-2.ensures, c.args.self.now.rows.ok.0) in
    subst (λ items. IsLinked items (slice_set heads c.place_of-place.result (c.len-2.result + 1))) (sym c.in_ok-push.ensures.items)
    (subst (λ place. IsLinked (rows ++ row ∷ []) (slice_set heads place (c.len-2.result + 1))) (sym c.place_of-place.ensures.place)
    (subst (λ n. IsLinked (rows ++ row ∷ []) (slice_set heads (place_of c.args.identifier) n)) (sym count) (linked_more rows heads row linked here next)))

pub returns-clause-added : goal.returns-clause-added
returns-clause-added c = λ added.
    ap variables_of c.in_ok-push.ensures.items
    ∙ variables_more c.args.self.now.rows.items
    (record { identifier = c.args.identifier; mapped = c.args.mapped; next = c.in-Some.head.now })
