-- The words of a read-modify-write name its function.
use Rattle.std.proofs.Common.{◌∙◌}
use Rattle.vme_grammar.proofs.Modifies.{modify_is_named, local_modify_is_named}
use Rattle.vme_grammar.proofs.form.LineForm.line.Goals as goal

pub returns-in-Modify : goal.returns-in-Modify
returns-in-Modify c = c.modify.ensures ∙ rw c.in-Modify.is (modify_is_named _ _)

pub returns-in-LocalModify : goal.returns-in-LocalModify
returns-in-LocalModify c = c.local_modify.ensures ∙ rw c.in-LocalModify.is (local_modify_is_named _ _)
