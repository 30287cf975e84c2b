-- The board's step on a datum is its reply to the datum's cycle.
use Rattle.std.proofs.Common.{◌≡◌, ◌+◌, ◌*◌, ◌<◌, ap, sym, subst, ◌∙◌}
use Rattle.std.specs.Prelude.{IfSome}
use Rattle.vme_cycle.specs.declared.request.Request.{Request}
use Rattle.vme_cycle.specs.Requests.{addr_of, datum_len}
use Rattle.vme_memory.specs.declared.reply.Reply.{Reply}
use Rattle.vme_memory.specs.Access.{accessed}
use Rattle.vme_memory.specs.Boards.{Board}
use Rattle.vme_memory.specs.Data.{datum_command}
use Rattle.vme_memory.specs.Steps.{step, HasLen}
use Rattle.vme_engines.specs.Answers.{reply_at}
use Rattle.vme_engines.proofs.Data.{datum_replied, datum_has_len}
use Rattle.vme_engines.proofs.answer.reply_at.Goals as goal

-- the board's step on the access is the reply to the datum, and the board after it
stepped : (c : goal.After-access)
    → step c.args.bus.now (accessed c.of_datum.result) ≡ reply_at c.args.bus.now c.args.plan.now c.args.i c.args.offset
stepped c =
    let t = c.args.plan.now in
    let i = c.args.i in
    let o = c.in-Some.offset in
    let at = o + c.from.result * c.from-2.result in
    let within = subst (λ one. IfSome one (λ offset. (offset < 4096) × (offset ≡ addr_of t.request))) c.in-Some.is c.requires.within in
    let place : at ≡ o + i * datum_len t.request = cc in
    datum_replied t c.args.bus.now i o at (accessed c.of_datum.result) c.requires.lawful c.requires.in_count within.1 place
    (c.of_datum.ensures ∙ ap (λ (r : Request). datum_command r i at) c.request.ensures.value)
    ∙ ap (reply_at c.args.bus.now t i) (sym c.in-Some.is)

pub returns-clause-reply : goal.returns-clause-reply
returns-clause-reply c = c.access.ensures.reply ∙ ap (λ (r : Reply × Board). r.0) (stepped c)

pub returns-clause-board : goal.returns-clause-board
returns-clause-board c = c.access.ensures.board ∙ ap (λ (r : Reply × Board). r.1) (stepped c)

pub returns-clause-len : goal.returns-clause-len
returns-clause-len c =
    let t = c.args.plan.now in
    subst (λ reply. HasLen reply (datum_len t.request)) (sym (returns-clause-reply c))
    (datum_has_len t c.args.bus.now c.args.i c.args.offset c.requires.lawful c.requires.in_count)
