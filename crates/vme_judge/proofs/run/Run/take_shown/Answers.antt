use Rattle.vme_judge.specs.DumpRuns.{shown_by}
use Rattle.vme_judge.proofs.DumpRuns.{shown_goes, shown_next}
use Rattle.vme_judge.proofs.Runs.{going_stands}
use Rattle.vme_judge.proofs.run.Run.take_shown.Goals as goal

pub returns-clause-sample : goal.returns-clause-sample
returns-clause-sample c = λ going.
    shown_next c.args.self.now c.take_sample.new.judge c.take_sample.new.ports (shown_by c.args.self.now.vcd) c.take_sample.result going
    (c.take_sample.ensures (going_stands c.args.self.now going))

pub returns-clause-going : goal.returns-clause-going
returns-clause-going c = λ going.
    shown_goes c.args.self.now c.take_sample.new.judge c.take_sample.new.ports (shown_by c.args.self.now.vcd) c.take_sample.result going
    (c.take_sample.ensures (going_stands c.args.self.now going))
