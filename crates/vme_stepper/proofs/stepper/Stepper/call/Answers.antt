use Rattle.std.proofs.Common.{sym, ap, ◌∙◌}
use Rattle.vme_core.specs.Calls.{machine_step}
use Rattle.vme_core.specs.Runs.{Machine}
use Rattle.vme_stepper.specs.Lines.{call_answered}
use Rattle.std.proofs.lemmas.Option.{same_Some}
use Rattle.vme_stepper.proofs.StepperTurns.{processor_sound, turned, turned_sound}
use Rattle.vme_stepper.proofs.Halves.{calls_there, has_current, current_task, own_machine, called_good}
use Rattle.vme_stepper.proofs.stepper.Stepper.call.Goals as goal

pub call-requires-clause-below : goal.call-requires-clause-below
call-requires-clause-below c =
    calls_there c.args.config.now c.args.self.now c.self.inside.core c.self.inside.processors.items c.args.board c.index_mut.result.now c.self.view_is
    c.requires.stepper c.requires.board c.index_mut.ensures.value

pub returns-clause-turn : goal.returns-clause-turn
returns-clause-turn c =
    turned c.args.config.now c.args.self.now c.self.inside.core c.self.inside.processors.items c.args.board c.index_mut.result.now c.self.view_is
    c.requires.stepper c.requires.board c.index_mut.ensures.value c.call.new.core c.call.new.self
    (c.call.ensures.turn c.args.config.now
    (processor_sound c.args.config.now c.args.self.now c.self.inside.core c.self.inside.processors.items c.args.board c.index_mut.result.now c.self.view_is
    c.requires.stepper c.requires.board c.index_mut.ensures.value)
    (has_current c.args.config.now c.args.self.now c.self.inside.core c.self.inside.processors.items c.args.board c.index_mut.result.now c.self.view_is
    c.requires.stepper c.requires.board c.index_mut.ensures.value c.requires.work))

pub returns-clause-answered : goal.returns-clause-answered
returns-clause-answered c = λ line call found makes.
    let task = current_task c.args.config.now c.args.self.now c.self.inside.core c.self.inside.processors.items c.args.board c.index_mut.result.now c.self.view_is
    c.requires.stepper c.requires.board c.index_mut.ensures.value line found in
    let own = own_machine c.args.config.now c.args.self.now c.self.inside.core c.self.inside.processors.items c.args.board c.index_mut.result.now c.self.view_is
    c.requires.stepper c.requires.board c.index_mut.ensures.value in
    same_Some _ _ (sym c.unwrap.ensures ∙ c.call.ensures.answered line.1 call task makes)
    ∙ ap (λ (m : Machine). call_answered m c.args.board line.1 call) own

pub returns-clause-machine : goal.returns-clause-machine
returns-clause-machine c = λ line call found makes.
    let task = current_task c.args.config.now c.args.self.now c.self.inside.core c.self.inside.processors.items c.args.board c.index_mut.result.now c.self.view_is
    c.requires.stepper c.requires.board c.index_mut.ensures.value line found in
    let own = own_machine c.args.config.now c.args.self.now c.self.inside.core c.self.inside.processors.items c.args.board c.index_mut.result.now c.self.view_is
    c.requires.stepper c.requires.board c.index_mut.ensures.value in
    c.call.ensures.machine line.1 call task makes ∙ ap (λ (m : Machine). (machine_step m c.args.board call).0) own

pub returns-clause-sound : goal.returns-clause-sound
returns-clause-sound c =
    turned_sound c.args.config.now c.args.self.now c.self.inside.core c.self.inside.processors.items c.args.board c.index_mut.result.now c.self.view_is
    c.requires.stepper c.requires.board c.index_mut.ensures.value c.call.new.core c.call.new.self
    (called_good c.args.config.now c.args.self.now c.self.inside.core c.self.inside.processors.items c.args.board c.index_mut.result.now c.self.view_is
    c.requires.stepper c.requires.board c.index_mut.ensures.value c.call.new.self c.call.ensures.script c.call.ensures.lines c.call.ensures.below)
    c.call.ensures.process_count c.call.ensures.boards
