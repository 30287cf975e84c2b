use Rattle.std.proofs.Common.{sym, subst}
use Rattle.vme_line_task.specs.Scripts.{HasItsMailbox}
use Rattle.vme_line_task.proofs.lemmas.Mailboxes.{its_mailbox}
use Rattle.vme_serve.specs.Services.{ServiceView}
use Rattle.vme_outcome_listing.proofs.replies.may_reply.Goals as goal

pub reply_to-requires-clause-mailbox : goal.reply_to-requires-clause-mailbox
reply_to-requires-clause-mailbox c =
    subst (λ (s : ServiceView). HasItsMailbox s.config c.line-line.result.now) (sym c.in-Ok.ensures)
    (its_mailbox c.args.config.now c.boards-boards.ensures.lawful c.args.board c.args.line c.script.result.now c.line-line.result.now
    c.script.ensures c.line-line.ensures)
