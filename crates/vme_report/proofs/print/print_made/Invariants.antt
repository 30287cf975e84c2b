use Rattle.std.proofs.Common.{◌≡◌, ◌++◌, drop}
use Rattle.std.specs.List.{flat_map}
use Rattle.vme_report.specs.Texts.{count_text}
use Rattle.vme_report.proofs.print.print_made.Given as goal

-- the text so far, with that of the counts that are left, is the whole text
abbrev pub invariant-loop-count : goal.invariant-loop-count
invariant-loop-count l = l.text.items ++ flat_map count_text (drop l.count-index l.made) ≡ l.fn.text.items ++ flat_map count_text l.fn.made
