use Rattle.std.proofs.Common.{◌≡◌, ◌++◌, drop}
use Rattle.std.specs.List.{flat_map}
use Rattle.vme_stuck.specs.Texts.{end_text}
use Rattle.vme_stuck.proofs.print.append_ends.Given as goal

-- the text so far, with that of the dead ends that are left, is the whole text
abbrev pub invariant-loop-end : goal.invariant-loop-end
invariant-loop-end l = l.text.items ++ flat_map (end_text l.config) (drop l.end-index l.ends) ≡ l.fn.text.items ++ flat_map (end_text l.config) l.ends
