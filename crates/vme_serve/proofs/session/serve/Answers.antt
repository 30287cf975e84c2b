use Rattle.std.proofs.Common.{ap, ◌∙◌}
use Rattle.vme_serve.specs.Services.{answer}
use Rattle.vme_serve.proofs.Answering.{answered_more, answered_all, answered_whole, answered_first, answered_first_at, answered_part_at, answer_printed}
use Rattle.vme_serve.proofs.session.serve.Goals as goal

pub returns-then-not-branch-clause-text : goal.returns-then-not-branch-clause-text
returns-then-not-branch-clause-text g c =
    answered_all c.args.config.now c.loop-line.service c.read_line.new.line.items (g.R.Source.remaining c.args.reader.now) (g.R.Source.remaining c.loop-line.reader)
    (g.R.Source.remaining c.read_line.new.reader) (g.W.Sink.contents c.args.writer.now) (g.W.Sink.contents c.loop-line.writer) c.loop-line.invariant.answered
    (rw c.if-not-branch.true at c.in_ok-read_line.ensures.line)

pub returns-then-not-branch-clause-whole : goal.returns-then-not-branch-clause-whole
returns-then-not-branch-clause-whole g c =
    answered_whole c.args.config.now c.loop-line.service c.read_line.new.line.items (g.R.Source.remaining c.args.reader.now) (g.R.Source.remaining c.loop-line.reader)
    (g.R.Source.remaining c.read_line.new.reader) (g.W.Sink.contents c.args.writer.now) (g.W.Sink.contents c.loop-line.writer) c.loop-line.invariant.answered
    (rw c.if-not-branch.true at c.in_ok-read_line.ensures.line)

pub returns-in_err-read_line-clause-prefix : goal.returns-in_err-read_line-clause-prefix
returns-in_err-read_line-clause-prefix g c =
    answered_first_at _ c.args.config.now c.loop-line.service (g.R.Source.remaining c.args.reader.now) (g.R.Source.remaining c.loop-line.reader) (g.W.Sink.contents c.args.writer.now) (g.W.Sink.contents c.loop-line.writer)
    c.loop-line.invariant.answered

pub returns-in_err-answer-clause-prefix : goal.returns-in_err-answer-clause-prefix
returns-in_err-answer-clause-prefix g c =
    answered_first_at _ c.args.config.now c.loop-line.service (g.R.Source.remaining c.args.reader.now) (g.R.Source.remaining c.loop-line.reader) (g.W.Sink.contents c.args.writer.now) (g.W.Sink.contents c.loop-line.writer)
    c.loop-line.invariant.answered

pub returns-clause-prefix : goal.returns-clause-prefix
returns-clause-prefix g c =
    answered_first c.args.config.now c.loop-line.service (g.R.Source.remaining c.args.reader.now) (g.R.Source.remaining c.loop-line.reader) (g.W.Sink.contents c.args.writer.now) (g.W.Sink.contents c.loop-line.writer)
    c.loop-line.invariant.answered

pub returns-in_err-write_all-clause-prefix : goal.returns-in_err-write_all-clause-prefix
returns-in_err-write_all-clause-prefix g c =
    let kept = c.read_line.new.line.items in
    let takes = rw c.if-not-branch.false at c.in_ok-read_line.ensures.line in
    let text_is = answer_printed c.loop-line.service c.as_slice-answer.result.now c.answer.new.text.items c.clear.new.self.items
    c.as_slice-asked.result.now kept c.as_slice-answer.ensures.value c.in_ok-answer.ensures.text c.clear.ensures.items c.as_slice-asked.ensures.value in
    answered_part_at _ c.args.config.now c.loop-line.service kept c.as_slice-answer.result.now (g.R.Source.remaining c.args.reader.now) (g.R.Source.remaining c.loop-line.reader)
    (g.R.Source.remaining c.read_line.new.reader) (g.W.Sink.contents c.args.writer.now) (g.W.Sink.contents c.loop-line.writer) (g.W.Sink.contents c.write_all.new.writer)
    c.loop-line.invariant.answered takes text_is c.in_err-write_all.ensures.prefix

pub loop-line-preserved : goal.loop-line-preserved
loop-line-preserved g c =
    let kept = c.read_line.new.line.items in
    let takes = rw c.if-not-branch.false at c.in_ok-read_line.ensures.line in
    let text_is = answer_printed c.loop-line.service c.as_slice-answer.result.now c.answer.new.text.items c.clear.new.self.items
    c.as_slice-asked.result.now kept c.as_slice-answer.ensures.value c.in_ok-answer.ensures.text c.clear.ensures.items c.as_slice-asked.ensures.value in
    record {
      answered = answered_more c.args.config.now c.loop-line.service c.answer.new.self c.as_slice-answer.result.now kept (g.R.Source.remaining c.args.reader.now) (g.R.Source.remaining c.loop-line.reader)
          (g.R.Source.remaining c.read_line.new.reader) (g.W.Sink.contents c.args.writer.now) (g.W.Sink.contents c.loop-line.writer) (g.W.Sink.contents c.write_all.new.writer)
          c.loop-line.invariant.answered takes text_is
          (c.in_ok-answer.ensures.service ∙ ap (λ bytes. (answer c.loop-line.service bytes).service) c.as_slice-asked.ensures.value)
          c.in_ok-write_all.ensures.bytes;
      read = c.in_ok-read_line.ensures.read;
      write = c.in_ok-write_all.ensures.unmarked ∙ c.loop-line.invariant.write;
    }
