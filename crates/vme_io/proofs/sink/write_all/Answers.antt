-- One more write extends the prefix by the bytes that it wrote.
use Rattle.std.proofs.Common.{take, ◌++◌}
use Rattle.vme_io.proofs.lemmas.Appending.{Appends-more, split_more}
use Rattle.vme_io.proofs.sink.write_all.Goals as goal

pub loop-rest-preserved : goal.loop-rest-preserved
loop-rest-preserved g c =
    let sofar = c.loop-rest.invariant.0 in (
      (
        sofar.0 ++ take c.in_ok-count.count c.loop-rest.rest.now,
        rw c.split_at.ensures.back (split_more c.args.bytes.now sofar.0 c.loop-rest.rest.now c.in_ok-count.count sofar.1),
        Appends-more _ _ _ _ _ sofar.2 c.in_ok-count.ensures.bytes,
      ),
      cc (c.in_ok-count.ensures.unmarked, c.loop-rest.invariant.1),
    )
