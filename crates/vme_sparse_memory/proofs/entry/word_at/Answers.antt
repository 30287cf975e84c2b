use Rattle.std.proofs.Common.{◌∙◌}
use Rattle.vme_sparse_memory.proofs.Entries.{named_here}
use Rattle.vme_sparse_memory.proofs.entry.word_at.Goals as goal

-- src/entry.rt:23:13
pub returns-then-entry-at : goal.returns-then-entry-at
returns-then-entry-at c =
    λ n less. c.loop-entry.invariant n less
    ∙ named_here c.args.entries.now c.loop-entry.entry-index n c.args.at (record { at = 0; word = 0 }) c.loop-entry-test.true c.if-entry-at.true less
