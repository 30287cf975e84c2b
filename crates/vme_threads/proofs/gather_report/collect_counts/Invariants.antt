use Rattle.std.proofs.Common.{◌≡◌, ◌≤◌, ℕ, map, take, slice_index_or, vec_len, vec_capacity}
use Rattle.std.specs.Global.{Vec}
use Rattle.vme_threads.proofs.gather_report.collect_counts.Given as goal

-- the counts of the object by the workers so far
abbrev pub invariant-loop-own : goal.invariant-loop-own
invariant-loop-own l =
    (l.made.items ≡ map (λ (own : Vec ℕ). slice_index_or own.items l.index 0) (take l.own-index l.counts.items))
    × (vec_len l.counts ≤ vec_capacity l.made)
