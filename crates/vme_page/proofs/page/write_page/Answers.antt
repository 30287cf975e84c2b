use Rattle.vme_page.proofs.Drawn.{page_written}
use Rattle.vme_page.proofs.page.write_page.Goals as goal

pub returns-clause-page : goal.returns-clause-page
returns-clause-page g c =
    page_written c.args.config.now (g.W.Sink.contents c.args.writer.now) (g.W.Sink.contents c.write_all.new.writer)
    (g.W.Sink.contents c.write_diagrams.new.writer) (g.W.Sink.contents c.run_configured.new.sink) (g.W.Sink.contents c.write_all-2.new.writer)
    c.as_slice.result.now c.page_end.result.now c.in_ok-write_all.ensures.bytes c.in_ok-write_diagrams.ensures.grows
    c.in_ok-run_configured.ensures.text c.in_ok-write_all-2.ensures.bytes
