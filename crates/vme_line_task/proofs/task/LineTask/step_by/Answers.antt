use Rattle.vme_line_task.specs.declared.task.LineTask.TheVariants.{Running}
use Rattle.vme_line_task.proofs.lemmas.Callers.{running_if_called, below_if_called}
use Rattle.vme_line_task.proofs.task.LineTask.step_by.Goals as goal

pub returns-in-Running-clause-step : goal.returns-in-Running-clause-step
returns-in-Running-clause-step g c =
    running_if_called g.C.Caller.performs c.args.caller.now c.step_by.new.caller c.args.self.now c.in-Running.attempts c.step_by.new.self
    c.step_by.result c.in-Running.is c.step_by.ensures.step

pub returns-in-Running-clause-below : goal.returns-in-Running-clause-below
returns-in-Running-clause-below g c =
    below_if_called g.C.Caller.performs c.args.caller.now c.step_by.new.caller c.args.self.now (Running c.step_by.new.self) c.step_by.result
    (running_if_called g.C.Caller.performs c.args.caller.now c.step_by.new.caller c.args.self.now c.in-Running.attempts c.step_by.new.self
    c.step_by.result c.in-Running.is c.step_by.ensures.step)
