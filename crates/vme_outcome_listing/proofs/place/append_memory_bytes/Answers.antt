use Rattle.std.proofs.Common.{◌<◌, ◌≤◌, arith}
use Rattle.vme_outcome_listing.proofs.Places.{byte_step, bytes_done}
use Rattle.vme_outcome_listing.proofs.place.append_memory_bytes.Goals as goal

pub loop-at-preserved : goal.loop-at-preserved
loop-at-preserved c =
    let within : c.loop-at.at < c.args.count = omega (arith, c.loop-at-test.true) in
    byte_step c.args.memory.now.bytes c.args.offset c.loop-at.at c.args.count c.byte_at.result c.loop-at.text.items c.append_byte.new.text.items _
    within c.byte_at.ensures c.in_ok-append_byte.ensures c.loop-at.invariant

pub returns : goal.returns
returns c =
    let past : c.args.count ≤ c.loop-at.at = omega (arith, c.loop-at-test.false) in
    bytes_done c.args.memory.now.bytes c.args.offset c.loop-at.at c.args.count c.loop-at.text.items _ past c.loop-at.invariant
