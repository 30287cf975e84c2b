use Rattle.std.specs.Prelude.{codes, string_bytes}
use Rattle.vme_judge.specs.VerdictTexts.{further, other_counts}
use Rattle.vme_judge.proofs.Appends.{appended}
use Rattle.vme_judge.proofs.seen.write_other_counts.Goals as goal

pub returns : goal.returns
unfolding other_counts
returns c =
    appended c.write_further-2.result (string_bytes c.args.to.now) (string_bytes c.write_further.new.to)
    (string_bytes c.write_further-2.new.to) (further c.args.counts.now.accesses (codes "local access") (codes "local accesses"))
    (further c.args.counts.now.samples (codes "sample") (codes "samples")) c.in_ok-write_further.ensures c.write_further-2.ensures
