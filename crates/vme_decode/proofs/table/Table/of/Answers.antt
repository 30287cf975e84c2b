-- A sort permutes the rows of all entries into their order.
use Rattle.std.proofs.Common.{arith, rules}
use Rattle.std.proofs.lemmas.List.Sorted.{IsNonDecreasingBy-from_sort_by_key}
use Rattle.vme_decode.specs.Table.{rank_of}
use Rattle.vme_decode.proofs.Rows.{table_from_rows}
use Rattle.vme_decode.proofs.table.Table.of.Goals as goal

pub returns-clause-table : goal.returns-clause-table
returns-clause-table c =
    let rising = IsNonDecreasingBy-from_sort_by_key rank_of _ c.sort_unstable_by_key.ensures.sorted (λ a r q k. search rules) in
    table_from_rows _ _ _ _ (omega arith) c.loop-place.invariant c.sort_unstable_by_key.ensures.permutation rising
