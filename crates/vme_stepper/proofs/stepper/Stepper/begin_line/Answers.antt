use Rattle.vme_stepper.proofs.StepperTurns.{processor_sound}
use Rattle.vme_stepper.proofs.Halves.{begun, begun_turn, begun_over, begun_sound}
use Rattle.vme_stepper.proofs.stepper.Stepper.begin_line.Goals as goal

pub begin_line-requires-clause-processor : goal.begin_line-requires-clause-processor
begin_line-requires-clause-processor c =
    processor_sound c.args.config.now c.args.self.now c.self.inside.core c.self.inside.processors.items c.args.board c.index_mut.result.now c.self.view_is
    c.requires.stepper c.requires.board c.index_mut.ensures.value

pub returns-clause-begun : goal.returns-clause-begun
returns-clause-begun c =
    begun c.args.config.now c.args.self.now c.self.inside.core c.self.inside.processors.items c.args.board c.index_mut.result.now c.self.view_is
    c.requires.stepper c.requires.board c.index_mut.ensures.value c.begin_line.new.self c.begin_line.ensures.begun

pub returns-clause-turn : goal.returns-clause-turn
returns-clause-turn c =
    begun_turn c.args.config.now c.args.self.now c.self.inside.core c.self.inside.processors.items c.args.board c.index_mut.result.now c.self.view_is
    c.requires.stepper c.requires.board c.index_mut.ensures.value c.begin_line.new.self c.begin_line.ensures.turn

pub returns-clause-over : goal.returns-clause-over
returns-clause-over c =
    begun_over c.args.config.now c.args.self.now c.self.inside.core c.self.inside.processors.items c.args.board c.index_mut.result.now c.self.view_is
    c.requires.stepper c.requires.board c.index_mut.ensures.value c.begin_line.new.self c.begin_line.ensures.turn
    c.begin_line.ensures.processor c.begin_line.ensures.over

pub returns-clause-sound : goal.returns-clause-sound
returns-clause-sound c =
    begun_sound c.args.config.now c.args.self.now c.self.inside.core c.self.inside.processors.items c.args.board c.index_mut.result.now c.self.view_is
    c.requires.stepper c.requires.board c.index_mut.ensures.value c.begin_line.new.self c.begin_line.ensures.processor
