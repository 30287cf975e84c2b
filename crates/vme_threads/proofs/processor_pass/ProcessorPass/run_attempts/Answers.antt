use Rattle.std.proofs.Common.{length, subst, sym}
use Rattle.vme_line_task.specs.Machine.{IsLineBelow}
use Rattle.vme_threads.proofs.Lines.{line_start, line_end}
use Rattle.vme_threads.proofs.processor_pass.ProcessorPass.run_attempts.Goals as goal

-- the boards that the line's task can call exist
pub finish_line-requires-clause-below : goal.finish_line-requires-clause-below
finish_line-requires-clause-below g c =
    subst (λ n. IsLineBelow n c.advance.new.self) (sym c.requires.boards)
    (c.advance.ensures.below (length c.args.config.now.boards) c.start-task.ensures.there)

pub returns-then-is_finished : goal.returns-then-is_finished
returns-then-is_finished g c =
    line_end c.args.config.now c.args.line c.args.self.now c.args.self.now c.advance.new.self c.unwrap.result
    (line_start c.args.config.now c.args.line c.args.self.now c.start-task.result c.advance.new.self c.requires.line
    c.start-task.ensures.line
    c.advance.ensures.task c.advance.ensures.begun
    (c.advance.ensures.below (length c.args.config.now.boards) c.start-task.ensures.there))
    (rw c.unwrap.ensures at c.into_reply.ensures)

pub returns : goal.returns
returns g c =
    line_end c.args.config.now c.args.line c.args.self.now c.finish_line.new.self c.finish_line.new.task c.unwrap-2.result
    (c.in_ok-finish_line.ensures.progress c.args.config.now c.args.line c.args.self.now
    (line_start c.args.config.now c.args.line c.args.self.now c.start-task.result c.advance.new.self c.requires.line
    c.start-task.ensures.line
    c.advance.ensures.task c.advance.ensures.begun
    (c.advance.ensures.below (length c.args.config.now.boards) c.start-task.ensures.there)))
    (rw c.unwrap-2.ensures at c.into_reply-2.ensures)
