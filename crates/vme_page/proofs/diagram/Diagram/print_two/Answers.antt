use Rattle.vme_page.proofs.Cells.{two_whole}
use Rattle.vme_page.proofs.diagram.Diagram.print_two.Goals as goal

pub returns : goal.returns
returns c =
    two_whole c.args.changes.now c.two_windows-first.result.0 c.two_windows-first.result.1 c.args.self.now c.open_strip.new.self c.print_cell.new.self c.print_cell-2.new.self
    c.two_windows-first.ensures
    c.open_strip.ensures.levels c.open_strip.ensures.layout c.in_ok-print_cell.ensures.levels c.in_ok-print_cell.ensures.layout
    c.in_ok-print_cell-2.ensures.levels c.in_ok-print_cell-2.ensures.layout
