use Rattle.std.proofs.Common.{◌≡◌, ◌<◌, ◌+◌, ◌++◌, length, drop, ap, sym, subst, ◌∙◌, arith, append_assoc, get_or, List}
use Rattle.vme_report.specs.Boards.{BoardText}
use Rattle.vme_stepper.specs.Steppers.{ProcessorView, StepperView, texts_of_processors}
use Rattle.vme_stepper.proofs.Reporting.{board_more}
use Rattle.vme_stepper.proofs.stepper.Stepper.board_reports.Goals as goal

pub loop-board-preserved : goal.loop-board-preserved
loop-board-preserved c =
    let i = c.loop-board.board in
    let processors = c.self.inside.processors.items in
    let items = c.loop-board.invariant.items in
    let there : i < length processors = subst (λ (xs : List ProcessorView). i < length xs) items c.loop-board-test.true in
    let within : i < length c.self.inside.core.boards
    = omega (
      arith,
      ap (λ (d : StepperView). length d.processors) c.self.view_is,
      ap (λ (d : StepperView). length d.machine.boards) c.self.view_is,
      c.requires.count,
      c.requires.boards,
    ) in
    let read : c.processor-item.result ≡ get_or processors i c.processor-item.result
    = c.processor-item.is ∙ ap (λ (xs : List ProcessorView). get_or xs i c.processor-item.result) items in
    record {
      reported = ap (λ (rs : List BoardText). rs ++ texts_of_processors (drop (i + 1) c.args.config.now.boards) (drop (i + 1) processors) (drop (i + 1) c.self.inside.core.boards)) c.in_ok-push.ensures.items
          ∙ append_assoc c.loop-board.reports.items _ _
          ∙ ap (λ (rs : List BoardText). c.loop-board.reports.items ++ rs)
          (sym (board_more c.args.config.now.boards processors c.self.inside.core.boards i c.slot.result c.steps.result c.processor-item.result c.lines.result.now
          c.memory.result.now c.counts.result.now c.slot.ensures there read c.lines.ensures within c.memory.ensures c.steps.ensures c.counts.ensures.value))
          ∙ c.loop-board.invariant.reported;
      items = items;
    }
