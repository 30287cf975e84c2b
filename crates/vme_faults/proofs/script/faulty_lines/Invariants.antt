use Rattle.std.proofs.Common.{◌≡◌, ◌+◌, ◌++◌, map, take}
use Rattle.std.specs.Str.Lines.{lines}
use Rattle.vme_faults.specs.Lines.{refusal_for, line_refusals}
use Rattle.vme_faults.proofs.script.faulty_lines.Given as goal

-- the refusals so far, with those of the lines that are left, are all
abbrev pub invariant-loop-line : goal.invariant-loop-line
invariant-loop-line l = record {
  faults :
      map refusal_for l.faults.items ++ line_refusals l.fn.context (l.number + 1) (take l.left (lines l.line-iterator.rest.now))
      ≡ line_refusals l.fn.context 1 (take 1000 (lines l.fn.text));
  count : l.number + l.left ≡ 1000;
}
