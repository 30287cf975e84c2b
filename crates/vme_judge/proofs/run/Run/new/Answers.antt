use Rattle.vme_judge.specs.Logs.{Other}
use Rattle.vme_judge.specs.Runs.{run_so_far}
use Rattle.vme_judge.proofs.DumpRuns.{dump_opens}
use Rattle.vme_judge.proofs.Pieces.{opens_as}
use Rattle.vme_judge.proofs.run.Run.new.Goals as goal

pub returns-clause-opens : goal.returns-clause-opens
unfolding run_so_far
returns-clause-opens c = opens_as Other _ _ _ c.in_ok-judge.ensures.opens c.new-state.ensures

pub returns-clause-dump : goal.returns-clause-dump
returns-clause-dump c = dump_opens _ _ _ c.in_ok-judge.ensures.opens c.new-ports.ensures
