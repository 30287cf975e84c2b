use Rattle.vme_page.proofs.Drawn.{grows_more}
use Rattle.vme_page.proofs.diagrams.write_diagrams.Goals as goal

pub returns-clause-grows : goal.returns-clause-grows
returns-clause-grows g c =
    grows_more (g.W.Sink.contents c.args.writer.now) (g.W.Sink.contents c.draw_turns.new.writer) (g.W.Sink.contents c.write_all.new.writer)
    c.in_ok-draw_turns.ensures.grows (record { text = _; appends = c.in_ok-write_all.ensures.bytes })
