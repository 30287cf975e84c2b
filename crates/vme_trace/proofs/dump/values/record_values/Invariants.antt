use Rattle.std.proofs.Common.{◌≡◌, ◌++◌, drop, map, take}
use Rattle.vme_trace.specs.Values.{shown_after}
use Rattle.vme_trace.proofs.dump.values.record_values.Given as goal

-- the values so far are those after the event, the others those before it
abbrev pub invariant-loop-one : goal.invariant-loop-one
invariant-loop-one l = l.values ≡ map (shown_after l.changes) (take l.one-index l.fn.values) ++ drop l.one-index l.fn.values
