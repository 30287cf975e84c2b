use Rattle.std.proofs.Common.{◌≡◌, ◌≤◌, false}
use Rattle.std.specs.Str.Lines.{lines}
use Rattle.vme_io.proofs.lemmas.Gathering.{SoFar}
use Rattle.vme_cycle.specs.BlockBuffers.{block_limit}
use Rattle.vme_engines.specs.Cycles.{text_of, status_after, cycles_text, cycles_status}
use Rattle.vme_shared.specs.Statuses.{worse_of}
use Rattle.vme_engines.proofs.cycles.answer_all.Given as goal

-- what was written and gathered, with the output of the lines that are left, is the whole text; the status so far, with
-- that of the lines that are left, is the whole status
abbrev pub invariant-loop-line : goal.invariant-loop-line
invariant-loop-line g l = record {
  text : SoFar (g.W.Sink.contents l.fn.writer) (g.W.Sink.contents l.writer) l.text.items (text_of l.bus (lines l.line-iterator.rest.now)) (cycles_text l.fn.input);
  status : worse_of l.status (status_after l.bus (lines l.line-iterator.rest.now)) ≡ cycles_status l.fn.input;
  capacity : block_limit ≤ l.replied.capacity;
  mark : g.W.Sink.is_marked l.writer ≡ false;
}
