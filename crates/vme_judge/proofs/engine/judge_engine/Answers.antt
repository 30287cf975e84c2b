use Rattle.std.proofs.Common.{take, Ok, [], ap, sym, ◌∙◌, rules, arith}
use Rattle.std.proofs.lemmas.Grind.{common_steps}
use Rattle.vme_judge.proofs.DumpEnds.{taken_any}
use Rattle.vme_judge.proofs.DumpPieces.{dump_begins}
use Rattle.vme_judge.proofs.Endings.{appends_none}
use Rattle.vme_judge.proofs.Pieces.{between_begins}
use Rattle.vme_judge.proofs.Progress.{progress_ends, progress_more, progress_stops, progress_written, read_dump_printed, read_dump_status, read_printed, read_status}
use Rattle.vme_judge.proofs.Runs.{going_written}
use Rattle.vme_judge.proofs.engine.judge_engine.Goals as goal

pub loop-piece-init : goal.loop-piece-init
loop-piece-init g c =
    let whole = g.S.Source.remaining c.args.trace.now in
    let opened = c.in_ok-run.ensures in
    record {
      read = c.requires.reader_unmarked;
      write = c.requires.writer_unmarked;
      going = opened.going;
      progress = record {
        said = [];
        written = appends_none (g.W.Sink.contents c.args.writer.now);
        log = between_begins c.args.options.now c.args.boards.now whole c.in_ok-run.run' opened.opens opened.line opened.number opened.kind;
        dump = dump_begins c.args.options.now c.args.map.now c.args.boards.now whole c.in_ok-run.run' opened.dump opened.reader opened.line
            opened.number opened.kind;
      };
    }

pub loop-piece-preserved : goal.loop-piece-preserved
loop-piece-preserved g c =
    let was = c.loop-piece.invariant in
    let pushed = c.in_ok-push_all.ensures in
    let on = c.if-not-branch.false in
    record {
      read = c.in-Ok.ensures.unmarked ∙ was.read;
      write = c.in_ok-write_pending.ensures.write;
      going = going_written c.push_all.new.self c.write_pending.new.pending ∙ sym (pushed.going was.going) ∙ on;
      progress =
          progress_written c.args.options.now c.args.map.now c.args.boards.now _ _ _ _ _ c.push_all.new.self c.write_pending.new.pending
          (progress_more c.args.options.now c.args.map.now c.args.boards.now _ _ _ _ _ c.loop-piece.run c.push_all.new.self was.progress
          _ (take c.in-Ok.count c.read.new.buffer) _ c.in-Ok.ensures.bytes (λ log. pushed.log log was.going)
          (taken_any c.args.map.now _ _ _ _ (pushed.blanks c.args.map.now)
          (λ line unknown form is. pushed.first c.args.map.now line unknown form is was.going)
          (λ reached dump is. pushed.dump c.args.map.now reached dump is was.going))
          (first_of (grind (arith, common_steps), search rules)) on)
          c.in_ok-write_pending.ensures.text c.in_ok-write_pending.ensures.cleared;
    }

pub returns-then-count-eq0-clause-log : goal.returns-then-count-eq0-clause-log
returns-then-count-eq0-clause-log g c =
    let was = c.loop-piece.invariant in
    read_status c.args.options.now c.args.map.now c.args.boards.now _ _ _ c.end.new.self c.written.result
    (progress_ends c.args.options.now c.args.map.now c.args.boards.now _ _ _ _ _ c.loop-piece.run c.end.new.self was.progress
    (rw c.if-count-eq0.true at c.in-Ok.ensures.bytes) (c.in-Ok.ensures.end (ap Ok c.if-count-eq0.true)) c.in_ok-end.ensures.kind
    (λ log. c.in_ok-end.ensures.judges log was.going)
    (λ reached dump is. c.in_ok-end.ensures.dump c.args.map.now reached dump is was.going))
    c.written.ensures.status

pub returns-then-count-eq0-clause-dump : goal.returns-then-count-eq0-clause-dump
returns-then-count-eq0-clause-dump g c =
    let was = c.loop-piece.invariant in
    read_dump_status c.args.options.now c.args.map.now c.args.boards.now _ _ _ c.end.new.self c.written.result
    (progress_ends c.args.options.now c.args.map.now c.args.boards.now _ _ _ _ _ c.loop-piece.run c.end.new.self was.progress
    (rw c.if-count-eq0.true at c.in-Ok.ensures.bytes) (c.in-Ok.ensures.end (ap Ok c.if-count-eq0.true)) c.in_ok-end.ensures.kind
    (λ log. c.in_ok-end.ensures.judges log was.going)
    (λ reached dump is. c.in_ok-end.ensures.dump c.args.map.now reached dump is was.going))
    c.written.ensures.dump

pub returns-then-count-eq0-clause-log_text : goal.returns-then-count-eq0-clause-log_text
returns-then-count-eq0-clause-log_text g c =
    let was = c.loop-piece.invariant in
    read_printed c.args.options.now c.args.map.now c.args.boards.now _ _ _ c.end.new.self c.written.result
    (progress_ends c.args.options.now c.args.map.now c.args.boards.now _ _ _ _ _ c.loop-piece.run c.end.new.self was.progress
    (rw c.if-count-eq0.true at c.in-Ok.ensures.bytes) (c.in-Ok.ensures.end (ap Ok c.if-count-eq0.true)) c.in_ok-end.ensures.kind
    (λ log. c.in_ok-end.ensures.judges log was.going)
    (λ reached dump is. c.in_ok-end.ensures.dump c.args.map.now reached dump is was.going))
    _ c.written.ensures.text

pub returns-then-count-eq0-clause-dump_text : goal.returns-then-count-eq0-clause-dump_text
returns-then-count-eq0-clause-dump_text g c =
    let was = c.loop-piece.invariant in
    read_dump_printed c.args.options.now c.args.map.now c.args.boards.now _ _ _ c.end.new.self c.written.result
    (progress_ends c.args.options.now c.args.map.now c.args.boards.now _ _ _ _ _ c.loop-piece.run c.end.new.self was.progress
    (rw c.if-count-eq0.true at c.in-Ok.ensures.bytes) (c.in-Ok.ensures.end (ap Ok c.if-count-eq0.true)) c.in_ok-end.ensures.kind
    (λ log. c.in_ok-end.ensures.judges log was.going)
    (λ reached dump is. c.in_ok-end.ensures.dump c.args.map.now reached dump is was.going))
    _ c.written.ensures.text

pub returns-then-not-branch-clause-log : goal.returns-then-not-branch-clause-log
returns-then-not-branch-clause-log g c =
    let was = c.loop-piece.invariant in
    let pushed = c.in_ok-push_all.ensures in
    read_status c.args.options.now c.args.map.now c.args.boards.now _ _ _ c.push_all.new.self c.written-then-not-branch.result
    (progress_stops c.args.options.now c.args.map.now c.args.boards.now _ _ _ _ _ c.loop-piece.run c.push_all.new.self was.progress
    _ (take c.in-Ok.count c.read.new.buffer) _ c.in-Ok.ensures.bytes (λ log. pushed.log log was.going)
    (taken_any c.args.map.now _ _ _ _ (pushed.blanks c.args.map.now)
    (λ line unknown form is. pushed.first c.args.map.now line unknown form is was.going)
    (λ reached dump is. pushed.dump c.args.map.now reached dump is was.going))
    (first_of (grind (arith, common_steps), search rules)) c.if-not-branch.true (pushed.going was.going))
    c.written-then-not-branch.ensures.status

pub returns-then-not-branch-clause-dump : goal.returns-then-not-branch-clause-dump
returns-then-not-branch-clause-dump g c =
    let was = c.loop-piece.invariant in
    let pushed = c.in_ok-push_all.ensures in
    read_dump_status c.args.options.now c.args.map.now c.args.boards.now _ _ _ c.push_all.new.self c.written-then-not-branch.result
    (progress_stops c.args.options.now c.args.map.now c.args.boards.now _ _ _ _ _ c.loop-piece.run c.push_all.new.self was.progress
    _ (take c.in-Ok.count c.read.new.buffer) _ c.in-Ok.ensures.bytes (λ log. pushed.log log was.going)
    (taken_any c.args.map.now _ _ _ _ (pushed.blanks c.args.map.now)
    (λ line unknown form is. pushed.first c.args.map.now line unknown form is was.going)
    (λ reached dump is. pushed.dump c.args.map.now reached dump is was.going))
    (first_of (grind (arith, common_steps), search rules)) c.if-not-branch.true (pushed.going was.going))
    c.written-then-not-branch.ensures.dump

pub returns-then-not-branch-clause-log_text : goal.returns-then-not-branch-clause-log_text
returns-then-not-branch-clause-log_text g c =
    let was = c.loop-piece.invariant in
    let pushed = c.in_ok-push_all.ensures in
    read_printed c.args.options.now c.args.map.now c.args.boards.now _ _ _ c.push_all.new.self c.written-then-not-branch.result
    (progress_stops c.args.options.now c.args.map.now c.args.boards.now _ _ _ _ _ c.loop-piece.run c.push_all.new.self was.progress
    _ (take c.in-Ok.count c.read.new.buffer) _ c.in-Ok.ensures.bytes (λ log. pushed.log log was.going)
    (taken_any c.args.map.now _ _ _ _ (pushed.blanks c.args.map.now)
    (λ line unknown form is. pushed.first c.args.map.now line unknown form is was.going)
    (λ reached dump is. pushed.dump c.args.map.now reached dump is was.going))
    (first_of (grind (arith, common_steps), search rules)) c.if-not-branch.true (pushed.going was.going))
    _ c.written-then-not-branch.ensures.text

pub returns-then-not-branch-clause-dump_text : goal.returns-then-not-branch-clause-dump_text
returns-then-not-branch-clause-dump_text g c =
    let was = c.loop-piece.invariant in
    let pushed = c.in_ok-push_all.ensures in
    read_dump_printed c.args.options.now c.args.map.now c.args.boards.now _ _ _ c.push_all.new.self c.written-then-not-branch.result
    (progress_stops c.args.options.now c.args.map.now c.args.boards.now _ _ _ _ _ c.loop-piece.run c.push_all.new.self was.progress
    _ (take c.in-Ok.count c.read.new.buffer) _ c.in-Ok.ensures.bytes (λ log. pushed.log log was.going)
    (taken_any c.args.map.now _ _ _ _ (pushed.blanks c.args.map.now)
    (λ line unknown form is. pushed.first c.args.map.now line unknown form is was.going)
    (λ reached dump is. pushed.dump c.args.map.now reached dump is was.going))
    (first_of (grind (arith, common_steps), search rules)) c.if-not-branch.true (pushed.going was.going))
    _ c.written-then-not-branch.ensures.text
