use Rattle.std.proofs.Common.{◌≡◌, drop, map}
use Rattle.std.specs.List.{list_any}
use Rattle.vme_script.specs.declared.script.ScriptLine.{ScriptLine}
use Rattle.vme_page.specs.Layouts.{is_kind}
use Rattle.vme_page.proofs.diagram.bars.has_line.Given as goal

-- whether one of the lines that are left is of the kind, is whether one of all lines is
abbrev pub invariant-loop-i : goal.invariant-loop-i
invariant-loop-i l =
    list_any (is_kind l.local) (drop l.i (map (λ (one : ScriptLine). one.line) l.script))
    ≡ list_any (is_kind l.fn.local) (map (λ (one : ScriptLine). one.line) l.fn.script)
