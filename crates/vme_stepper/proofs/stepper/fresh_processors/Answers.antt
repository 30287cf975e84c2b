use Rattle.std.proofs.Common.{map, take, ap, ◌∙◌, ◌++◌, ◌∷◌, []}
use Rattle.vme_stepper.specs.Steppers.{ProcessorView, processors_from}
use Rattle.vme_stepper.proofs.Opening.{fresh_script_state, processors_next}
use Rattle.vme_stepper.proofs.stepper.fresh_processors.Goals as goal

pub loop-board-preserved : goal.loop-board-preserved
loop-board-preserved c =
    c.in_ok-push.ensures.items ∙ ap (λ processors. processors ++ c.in_ok-new.field-0 ∷ []) c.loop-board.invariant
    ∙ ap (λ (processor : ProcessorView). processors_from c.args.config.now 0 (map fresh_script_state (take c.loop-board.board c.args.config.now.scripts)) ++ processor ∷ []) c.in_ok-new.ensures
    ∙ processors_next c.args.config.now c.loop-board.board c.script.result.now c.script.ensures
