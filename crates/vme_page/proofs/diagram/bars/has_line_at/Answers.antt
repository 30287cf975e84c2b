use Rattle.std.proofs.Common.{List, [], map, sym, ap, ◌∙◌}
use Rattle.std.specs.List.{list_any}
use Rattle.std.proofs.lemmas.Option.{get_or_from_slice_get}
use Rattle.vme_script.specs.declared.script.ScriptLine.{ScriptLine}
use Rattle.vme_page.specs.Layouts.{is_kind}
use Rattle.vme_page.proofs.diagram.bars.has_line_at.Goals as goal

pub returns : goal.returns
returns c =
    c.has_line.ensures
    ∙ ap (λ (script : List ScriptLine). list_any (is_kind c.args.local) (map (λ (one : ScriptLine). one.line) script))
    (sym (get_or_from_slice_get c.args.config.now.scripts c.args.board c.script.result.now [] c.script.ensures))
