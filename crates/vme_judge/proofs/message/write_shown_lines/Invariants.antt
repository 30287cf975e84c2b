use Rattle.std.proofs.Common.{◌≡◌, ◌++◌, drop}
use Rattle.std.specs.Prelude.{string_bytes}
use Rattle.vme_judge.specs.Levels.{levels_of}
use Rattle.vme_judge.proofs.message.write_shown_lines.Given as goal

-- what is written, with the lines that are left, is what is written in all
abbrev pub invariant-loop-shown : goal.invariant-loop-shown
invariant-loop-shown l =
    string_bytes l.fn.to ++ levels_of l.before l.after l.lines
    ≡ string_bytes l.to ++ levels_of l.before l.after (drop l.shown-index l.lines)
