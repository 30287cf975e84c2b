-- The partition point of the ranks is that of the rows, and the last row up to the rank is the one before it.
use Rattle.std.proofs.Common.{◌≡◌, ◌<◌, arith}
use Rattle.vme_decode.proofs.Ranks.{ranks_parted, rows_split}
use Rattle.vme_decode.proofs.Last.{none_up_to_rank, last_at, got}
use Rattle.vme_decode.proofs.table.Table.last_up_to.Goals as goal

pub returns-in_err-checked_sub : goal.returns-in_err-checked_sub
returns-in_err-checked_sub c = λ rising ranks.
    let parted = c.count_up_to-count.ensures.parted (ranks_parted _ _ c.args.top rising ranks (omega arith)) in
    let row_split = rows_split _ _ c.args.top c.count_up_to-count.result ranks (omega arith) (omega arith) parted in
    let none : c.count_up_to-count.result ≡ 0 = omega (arith, c.in_err-checked_sub.ensures) in
    rw c.from_residual.ensures (none_up_to_rank _ c.args.top (rw none at row_split))

pub returns : goal.returns
returns c = λ rising ranks.
    let parted = c.count_up_to-count.ensures.parted (ranks_parted _ _ c.args.top rising ranks (omega arith)) in
    let row_split = rows_split _ _ c.args.top c.count_up_to-count.result ranks (omega arith) (omega arith) parted in
    let some : 0 < c.count_up_to-count.result = c.in_ok-checked_sub.ensures.0 in
    let lookup = rw (c.deref.ensures.value, c.in_ok-checked_sub.ensures.1) at c.get.ensures.lookup in
    let found = got _ _ _ lookup.0 lookup.1 (omega (arith, row_split.within)) in
    last_at _ c.args.top c.count_up_to-count.result _ rising row_split some found
