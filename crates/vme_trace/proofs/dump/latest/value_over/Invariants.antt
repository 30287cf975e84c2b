use Rattle.std.proofs.Common.{◌≡◌, ◌-◌, drop}
use Rattle.vme_trace.specs.Shown.{value_over}
use Rattle.vme_trace.proofs.dump.latest.value_over.Given as goal

-- the value so far, with the changes that are left, gives the value after the edges
abbrev pub invariant-loop-change : goal.invariant-loop-change
invariant-loop-change l =
    value_over l.code (drop l.change-index l.changes) l.latest.edge (l.end - l.latest.edge) l.latest.value
    ≡ value_over l.fn.code l.fn.changes l.fn.edge (l.fn.end - l.fn.edge) l.fn.before
