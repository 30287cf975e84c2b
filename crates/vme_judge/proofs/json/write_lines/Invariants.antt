use Rattle.std.proofs.Common.{◌≡◌, ◌++◌, drop, string_bytes, true}
use Rattle.vme_judge.specs.JsonTexts.{lines_json}
use Rattle.vme_judge.proofs.json.write_lines.Given as goal

-- what is written, with the lines that are left, is what is written in all
abbrev pub invariant-loop-shown : goal.invariant-loop-shown
invariant-loop-shown l = string_bytes l.fn.to ++ lines_json l.before l.after true l.lines ≡ string_bytes l.to ++ lines_json l.before l.after l.is_first (drop l.shown-index l.lines)
