use Rattle.vme_judge.proofs.run.Run.end.Goals as goal

pub returns-in-Dump-clause-dump : goal.returns-in-Dump-clause-dump
returns-in-Dump-clause-dump c = λ map reached dump is on. c.end_dump.ensures.dump map reached is on
