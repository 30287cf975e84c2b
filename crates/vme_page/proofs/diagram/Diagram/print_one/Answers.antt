use Rattle.vme_page.proofs.Cells.{one_whole}
use Rattle.vme_page.proofs.diagram.Diagram.print_one.Goals as goal

pub returns : goal.returns
returns c =
    one_whole c.args.changes.now c.one_window-window.result c.args.self.now c.open_strip.new.self c.print_cell.new.self c.one_window-window.ensures
    c.open_strip.ensures.levels c.open_strip.ensures.layout c.in_ok-print_cell.ensures.levels c.in_ok-print_cell.ensures.layout
