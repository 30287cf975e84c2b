-- The name of a function, and its data.
use Rattle.std.proofs.Common.{refl, sym, ◌∙◌}
use Rattle.vme_grammar.proofs.Known.{set_is, add_is, exchange_is, compare_is}
use Rattle.vme_grammar.proofs.canonical.data.function.Goals as goal

pub returns-then-is_set : goal.returns-then-is_set
returns-then-is_set c = set_is c.args.n c.args.text.now (sym c.is_set.ensures ∙ c.if-is_set.true)

pub returns-in_ok-exact_bytes-in-97-eq100-eq100-eq32 : goal.returns-in_ok-exact_bytes-in-97-eq100-eq100-eq32
returns-in_ok-exact_bytes-in-97-eq100-eq100-eq32 c =
    let name = c.in-97-eq100-eq100-eq32 in
    add_is c.args.n c.args.text.now _ _ (c.in_ok-a.ensures ∙ rw (name.is-0, name.is-1, name.is-2, name.is-3) refl)
    c.in_ok-exact_bytes-in-97-eq100-eq100-eq32.ensures

pub returns-in_ok-exact_bytes-in-120-eq99-eq104-eq103 : goal.returns-in_ok-exact_bytes-in-120-eq99-eq104-eq103
returns-in_ok-exact_bytes-in-120-eq99-eq104-eq103 c =
    let name = c.in-120-eq99-eq104-eq103 in
    exchange_is c.args.n c.args.text.now c.in_ok-after_space-in-120-eq99-eq104-eq103.field-0.now _
    (c.in_ok-a.ensures ∙ rw (name.is-0, name.is-1, name.is-2, name.is-3, c.in_ok-after_space-in-120-eq99-eq104-eq103.ensures) refl)
    c.in_ok-exact_bytes-in-120-eq99-eq104-eq103.ensures

pub returns-in_ok-expect-in-99-eq97-eq115-eq32 : goal.returns-in_ok-expect-in-99-eq97-eq115-eq32
returns-in_ok-expect-in-99-eq97-eq115-eq32 c =
    let name = c.in-99-eq97-eq115-eq32 in
    compare_is c.args.n c.args.text.now c.in_ok-a.data.now _ _ (c.in_ok-a.ensures ∙ rw (name.is-0, name.is-1, name.is-2, name.is-3) refl)
    c.in_ok-expect-in-99-eq97-eq115-eq32.ensures
