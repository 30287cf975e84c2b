use Rattle.std.proofs.Common.{◌≡◌, ◌+◌, length}
use Rattle.std.specs.Str.Lines.{lines}
use Rattle.vme_script.proofs.script.has_too_many_lines.Given as goal

-- the lines so far are subtracted from `left`
abbrev pub invariant-loop-line : goal.invariant-loop-line
invariant-loop-line l = l.left + length (lines l.fn.text) ≡ 1000 + length (lines l._line-iterator.rest.now)
