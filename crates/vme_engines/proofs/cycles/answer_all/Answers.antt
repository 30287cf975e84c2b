-- One more line is processed, or a prefix of its output is written.
use Rattle.std.proofs.Common.{◌≡◌, [], ◌∷◌, refl, arith, rules}
use Rattle.std.specs.Str.Lines.{lines}
use Rattle.vme_io.specs.Prefixes.{AppendsPrefix}
use Rattle.vme_io.proofs.lemmas.Gathering.{so_far_more, so_far_fails, so_far_written, so_far_unwritten}
use Rattle.vme_engines.specs.Answers.{answer}
use Rattle.vme_engines.specs.Cycles.{text_of, cycles_text}
use Rattle.vme_engines.proofs.Texts.{text_first, all_gathered, status_more}
use Rattle.vme_engines.proofs.cycles.answer_all.Goals as goal

pub returns-in_err-gather_answer-clause-prefix : goal.returns-in_err-gather_answer-clause-prefix
returns-in_err-gather_answer-clause-prefix g c =
    let board = c.loop-line.bus in
    let line = c.in-Some.line.now in
    let after = c.next.new.self.rest.now in
    let first : lines c.loop-line.line-iterator.rest.now ≡ line ∷ lines after = search rules in
    let split = text_first board (answer board line).board line c.loop-line.line-iterator.rest.now after first refl in
    let prefix : AppendsPrefix (g.W.Sink.contents c.args.writer.now) (g.W.Sink.contents c.gather_answer.new.writer) (cycles_text c.args.input.now)
    = so_far_fails _ _ _ _ (answer board line).text _
    (text_of (answer board line).board (lines after)) _ c.loop-line.invariant.text split
    c.in_err-gather_answer.ensures.gathers in
    search rules

pub loop-line-preserved : goal.loop-line-preserved
loop-line-preserved g c =
    let board = c.loop-line.bus in
    let next = c.gather_answer.new.bus in
    let line = c.in-Some.line.now in
    let after = c.next.new.self.rest.now in
    let first : lines c.loop-line.line-iterator.rest.now ≡ line ∷ lines after = search rules in
    let split = text_first board next line c.loop-line.line-iterator.rest.now after first c.in_ok-gather_answer.ensures.board in
    record {
      text = so_far_more _ _ _ _ _ (answer board line).text _ (text_of next (lines after)) _ c.loop-line.invariant.text split
          c.in_ok-gather_answer.ensures.gathers;
      status =
          status_more board _ c.loop-line.status _ c.in_ok-gather_answer.field-0 _ line c.loop-line.line-iterator.rest.now after
          c.loop-line.invariant.status first c.worse-status.ensures c.in_ok-gather_answer.ensures.status c.in_ok-gather_answer.ensures.board;
      capacity = omega (arith, c.gather_answer.ensures.capacity, c.loop-line.invariant.capacity);
      mark = c.in_ok-gather_answer.ensures.write;
    }

pub returns-in_err-write_all-clause-prefix : goal.returns-in_err-write_all-clause-prefix
returns-in_err-write_all-clause-prefix g c =
    let none : lines c.loop-line.line-iterator.rest.now ≡ [] = search rules in
    let whole = all_gathered c.loop-line.bus _ _ _ _ c.loop-line.line-iterator.rest.now c.loop-line.invariant.text none in
    let prefix : AppendsPrefix (g.W.Sink.contents c.args.writer.now) (g.W.Sink.contents c.write_all.new.writer) (cycles_text c.args.input.now)
    = so_far_unwritten _ _ _ _ _ whole (rw c.as_slice.ensures.value at c.in_err-write_all.ensures.prefix) in
    search rules

pub returns-clause-text : goal.returns-clause-text
returns-clause-text g c =
    let none : lines c.loop-line.line-iterator.rest.now ≡ [] = search rules in
    let whole = all_gathered c.loop-line.bus _ _ _ _ c.loop-line.line-iterator.rest.now c.loop-line.invariant.text none in
    so_far_written _ _ _ _ _ whole (rw c.as_slice.ensures.value at c.in_ok-write_all.ensures.bytes)
