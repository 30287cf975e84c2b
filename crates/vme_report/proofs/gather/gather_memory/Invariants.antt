use Rattle.std.proofs.Common.{◌≡◌, ◌-◌, ◌*◌, ◌++◌, false}
use Rattle.std.specs.List.{flat_map, range_with_len}
use Rattle.vme_report.specs.Texts.{dump_row, row_text, row_count, memory_text}
use Rattle.vme_io.proofs.lemmas.Gathering.{SoFar}
use Rattle.vme_report.proofs.gather.gather_memory.Given as goal

-- the rows so far, with those that are left, are the whole text
abbrev pub invariant-loop-i : goal.invariant-loop-i
invariant-loop-i g l = record {
  reported : SoFar (g.W.Sink.contents l.fn.writer) (g.W.Sink.contents l.writer) l.text.items
      (flat_map (λ i. row_text l.fn.slot (16 * i) (dump_row l.fn.memory.bytes i)) (range_with_len l.i (row_count l.fn.memory.bytes - l.i)))
      (l.fn.text.items ++ memory_text l.fn.slot l.fn.memory.bytes);
  mark : g.W.Sink.is_marked l.writer ≡ false;
}
