use Rattle.std.proofs.Common.{◌≤◌, length, arith}
use Rattle.vme_outcome_listing.proofs.Texts.{replies_step, replies_done}
use Rattle.vme_outcome_listing.proofs.text.append_script.Goals as goal
use Rattle.std.specs.Prelude.{option_copied}

pub loop-line-preserved : goal.loop-line-preserved
loop-line-preserved c = λ script found.
    replies_step c.args.slot c.args.script.now script.ended c.loop-line.line c.number.result (option_copied c.reply.result)
    c.loop-line.text.items c.append_reply.new.text.items _ c.number.ensures (c.reply.ensures script found) c.in_ok-append_reply.ensures
    (c.loop-line.invariant script found)

pub returns : goal.returns
returns c = λ script found.
    let past : length c.args.script.now ≤ c.loop-line.line = omega (arith, c.loop-line-test.false, c.len-line-end.ensures) in
    replies_done c.args.slot c.args.script.now script.ended c.loop-line.line c.loop-line.text.items _ past (c.loop-line.invariant script found)
