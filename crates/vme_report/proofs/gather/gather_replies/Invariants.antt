use Rattle.std.proofs.Common.{◌≡◌, ◌++◌, false, drop}
use Rattle.vme_report.specs.Texts.{replies_text}
use Rattle.vme_io.proofs.lemmas.Gathering.{SoFar}
use Rattle.vme_report.proofs.gather.gather_replies.Given as goal

-- the lines so far, with those that are left, are the whole text
abbrev pub invariant-loop-line : goal.invariant-loop-line
invariant-loop-line g l = record {
  reported : SoFar (g.W.Sink.contents l.fn.writer) (g.W.Sink.contents l.writer) l.text.items (replies_text l.slot (drop l.line-index l.lines))
      (l.fn.text.items ++ replies_text l.fn.slot l.fn.lines);
  mark : g.W.Sink.is_marked l.writer ≡ false;
}
