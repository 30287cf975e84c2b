use Rattle.vme_threads.proofs.Lines.{line_can, line_called, line_fits}
use Rattle.vme_threads.proofs.processor_pass.ProcessorPass.finish_line.Goals as goal

pub loop-init : goal.loop-init
loop-init g c = record {
  fits = c.requires.fits;
  below = c.requires.below;
  progress = λ config place before at. at;
}

pub step_by-requires : goal.step_by-requires
step_by-requires g c = line_can c.args.ports.now c.loop.self c.loop.task c.loop.invariant.fits c.loop.invariant.below

pub loop-preserved : goal.loop-preserved
loop-preserved g c =
    let stays = line_fits c.args.ports.now c.loop.self c.step_by.new.caller c.loop.task c.step_by.new.self c.loop.invariant.fits
    c.loop.invariant.below c.in_ok-step_by.ensures.step c.in_ok-step_by.ensures.below in
    record {
      fits = stays.0;
      below = stays.1;
      progress = λ config place before at. line_called config place before c.loop.self c.step_by.new.caller c.loop.task
          c.step_by.new.self (c.loop.invariant.progress config place before at) c.in_ok-step_by.ensures.step
          c.in_ok-step_by.ensures.below;
    }

pub returns-then-branch-clause-progress : goal.returns-then-branch-clause-progress
returns-then-branch-clause-progress g c = λ config place before at.
    line_called config place before c.loop.self c.step_by.new.caller c.loop.task c.step_by.new.self
    (c.loop.invariant.progress config place before at) c.in_ok-step_by.ensures.step c.in_ok-step_by.ensures.below
