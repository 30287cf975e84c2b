use Rattle.std.proofs.Common.{◌≡◌, List, [], length, map, sym, ap, subst, ◌∙◌}
use Rattle.std.specs.Prelude.{slice_get}
use Rattle.std.proofs.lemmas.Option.{get_or_from_slice_get, same_Some}
use Rattle.vme_script.specs.declared.script.ScriptLine.{ScriptLine}
use Rattle.vme_line_task.specs.Scripts.{script_at}
use Rattle.vme_line_task.specs.Machine.{line_started_with, line_started, IsLineBelow}
use Rattle.vme_line_task.proofs.lemmas.Below.{started_below}
use Rattle.vme_line_task.proofs.lemmas.Mailboxes.{its_mailbox}
use Rattle.vme_line_task.proofs.task.LineTask.start.Goals as goal

pub of-requires-clause-mailbox : goal.of-requires-clause-mailbox
of-requires-clause-mailbox c =
    its_mailbox c.args.config.now c.boards-boards.ensures.lawful c.args.board c.args.line c.script.result.now c.line-line.result.now c.script.ensures c.line-line.ensures

pub of-requires-clause-capacity : goal.of-requires-clause-capacity
of-requires-clause-capacity c =
    let script : script_at c.args.config.now c.args.board ≡ c.script.result.now
    = get_or_from_slice_get c.args.config.now.scripts c.args.board c.script.result.now [] c.script.ensures in
    c.requires.capacity c.line-line.result.now
    (ap (λ (lines : List ScriptLine). slice_get (map (λ line. line.line) lines) c.args.line) script ∙ c.line-line.ensures)

pub returns-clause-line : goal.returns-clause-line
unfolding line_started
returns-clause-line c = λ one found.
    let script : script_at c.args.config.now c.args.board ≡ c.script.result.now
    = get_or_from_slice_get c.args.config.now.scripts c.args.board c.script.result.now [] c.script.ensures in
    let same : c.line-line.result.now ≡ one
    = same_Some c.line-line.result.now one
    (sym c.line-line.ensures ∙ ap (λ (lines : List ScriptLine). slice_get (map (λ line. line.line) lines) c.args.line) (sym script) ∙ found) in
    c.of.ensures
    ∙ ap (λ tries. line_started_with c.args.config.now c.args.board tries c.line-line.result.now) c.tries.ensures
    ∙ ap (line_started c.args.config.now c.args.board) same

pub returns-clause-there : goal.returns-clause-there
returns-clause-there c =
    subst (IsLineBelow (length c.args.config.now.boards)) (sym c.of.ensures)
    (started_below c.args.config.now c.args.board c.tries.result c.line-line.result.now c.requires.board)
