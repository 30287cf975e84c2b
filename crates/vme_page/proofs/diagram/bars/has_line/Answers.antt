use Rattle.std.proofs.Common.{◌≡◌, ◌+◌, List, drop, map, Bool, true, false, ◌||◌, sym, ap, ◌∙◌}
use Rattle.std.specs.List.{list_any}
use Rattle.vme_grammar.specs.declared.line.Line.{Line}
use Rattle.vme_script.specs.declared.script.ScriptLine.{ScriptLine}
use Rattle.vme_page.specs.Layouts.{is_kind}
use Rattle.vme_page.proofs.Lines.{any_next}
use Rattle.vme_page.proofs.diagram.bars.has_line.Goals as goal

pub returns-then-is_kind : goal.returns-then-is_kind
returns-then-is_kind c =
    let lines : List Line = map (λ (one : ScriptLine). one.line) c.args.script.now in
    let rest = list_any (is_kind c.args.local) (drop (c.loop-i.i + 1) lines) in
    let found : is_kind c.args.local c.line.result.now ≡ true = sym c.is_kind.ensures ∙ c.if-is_kind.true in
    ap (λ (b : Bool). b || rest) (sym found)
    ∙ sym (any_next (is_kind c.args.local) lines c.loop-i.i c.line.result.now c.line.ensures) ∙ c.loop-i.invariant

pub loop-i-preserved : goal.loop-i-preserved
loop-i-preserved c =
    let lines : List Line = map (λ (one : ScriptLine). one.line) c.args.script.now in
    let rest = list_any (is_kind c.args.local) (drop (c.loop-i.i + 1) lines) in
    let other : is_kind c.args.local c.line.result.now ≡ false = sym c.is_kind.ensures ∙ c.if-is_kind.false in
    ap (λ (b : Bool). b || rest) (sym other)
    ∙ sym (any_next (is_kind c.args.local) lines c.loop-i.i c.line.result.now c.line.ensures) ∙ c.loop-i.invariant
