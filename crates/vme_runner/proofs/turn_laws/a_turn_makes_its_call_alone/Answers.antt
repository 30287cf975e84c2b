use Rattle.std.proofs.Common.{ap, ◌∙◌}
use Rattle.vme_runner.proofs.Turned.{machine_called}
use Rattle.vme_runner.proofs.Runs.{turn_made}
use Rattle.vme_runner.proofs.turn_laws.a_turn_makes_its_call_alone.Goals as goal

pub returns-clause-call : goal.returns-clause-call
returns-clause-call c = λ config system slot board call is. turn_made config system slot ∙ ap (machine_called system.machine) is

pub returns-clause-none : goal.returns-clause-none
returns-clause-none c = λ config system slot is. turn_made config system slot ∙ ap (machine_called system.machine) is
