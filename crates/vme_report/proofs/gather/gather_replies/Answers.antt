-- One more line is gathered; if the sink fails, a prefix of the replies was written.
use Rattle.std.proofs.Common.{◌<◌, ◌+◌, ◌++◌, length, drop, arith, rules}
use Rattle.vme_io.specs.Prefixes.{AppendsPrefix}
use Rattle.vme_script.specs.ReplyTexts.{line_text}
use Rattle.vme_report.specs.Texts.{replies_text}
use Rattle.vme_io.proofs.lemmas.Gathering.{so_far_more, so_far_fails}
use Rattle.vme_report.proofs.FirstParts.{reply_first}
use Rattle.vme_report.proofs.gather.gather_replies.Goals as goal

pub returns-in_err-gather_reply-clause-gathers : goal.returns-in_err-gather_reply-clause-gathers
returns-in_err-gather_reply-clause-gathers g c =
    let within : c.loop-line.line-index < length c.args.lines.now = omega (arith, c.loop-line-test.true) in
    let first = reply_first c.args.slot c.args.lines.now c.loop-line.line-index c.line-item.result within c.line-item.is in
    let prefix : AppendsPrefix (g.W.Sink.contents c.args.writer.now) (g.W.Sink.contents c.gather_reply.new.writer)
    (c.args.text.now.items ++ replies_text c.args.slot c.args.lines.now)
    = so_far_fails _ _ _ _ (line_text c.args.slot c.line-item.result.0 c.line-item.result.1) _
    (replies_text c.args.slot (drop (c.loop-line.line-index + 1) c.args.lines.now)) _ c.loop-line.invariant.reported first
    c.in_err-gather_reply.ensures.gathers in
    search rules

pub loop-line-preserved : goal.loop-line-preserved
loop-line-preserved g c =
    let within : c.loop-line.line-index < length c.args.lines.now = omega (arith, c.loop-line-test.true) in
    let first = reply_first c.args.slot c.args.lines.now c.loop-line.line-index c.line-item.result within c.line-item.is in
    record {
      reported = so_far_more _ _ _ _ _ (line_text c.args.slot c.line-item.result.0 c.line-item.result.1) _
          (replies_text c.args.slot (drop (c.loop-line.line-index + 1) c.args.lines.now)) _ c.loop-line.invariant.reported first
          c.in_ok-gather_reply.ensures.gathers;
      mark = c.in_ok-gather_reply.ensures.write;
    }
