use Rattle.vme_stepper.proofs.StepperTurns.{processor_sound, turned, turned_sound}
use Rattle.vme_stepper.proofs.stepper.Stepper.turn.Goals as goal

pub turn-requires-clause-processor : goal.turn-requires-clause-processor
turn-requires-clause-processor c =
    processor_sound c.args.config.now c.args.self.now c.self.inside.core c.self.inside.processors.items c.args.board c.index_mut.result.now c.self.view_is
    c.requires.stepper c.requires.board c.index_mut.ensures.value

pub returns-clause-turn : goal.returns-clause-turn
returns-clause-turn c =
    turned c.args.config.now c.args.self.now c.self.inside.core c.self.inside.processors.items c.args.board c.index_mut.result.now c.self.view_is
    c.requires.stepper c.requires.board c.index_mut.ensures.value c.turn.new.core c.turn.new.self c.turn.ensures.turn

pub returns-clause-sound : goal.returns-clause-sound
returns-clause-sound c =
    turned_sound c.args.config.now c.args.self.now c.self.inside.core c.self.inside.processors.items c.args.board c.index_mut.result.now c.self.view_is
    c.requires.stepper c.requires.board c.index_mut.ensures.value c.turn.new.core c.turn.new.self c.turn.ensures.processor c.turn.ensures.process_count c.turn.ensures.boards
