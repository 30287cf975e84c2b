use Rattle.std.proofs.Common.{◌≡◌, ◌++◌, drop}
use Rattle.std.specs.List.{flat_map}
use Rattle.vme_trace.specs.Values.{shown_text}
use Rattle.vme_trace.proofs.dump.values.print_values.Given as goal

-- the text so far, with that of the values that are left, is the whole text
abbrev pub invariant-loop-one : goal.invariant-loop-one
invariant-loop-one l = l.text.items ++ flat_map shown_text (drop l.one-index l.values) ≡ l.fn.text.items ++ flat_map shown_text l.fn.values
