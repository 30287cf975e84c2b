use Rattle.std.proofs.Common.{◌+◌, refl, sym}
use Rattle.vme_page.proofs.Drawn.{shows_drawn}
use Rattle.vme_page.proofs.drawing.Drawing.draw.Goals as goal

pub returns-then-is_left_out-clause-shows : goal.returns-then-is_left_out-clause-shows
returns-then-is_left_out-clause-shows c = λ events shows.
    shows_drawn c.args.config.now events c.args.event.now c.args.self.now
    (record { diagram = c.self.inside.diagram; count = c.self.inside.count }) (record { diagram = c.pass_event.new.self; count = c.self.inside.count + 1 })
    c.boards.result c.clear.new.self.items c.push_event.new.changes.items c.as_slice-changes.result.now
    (sym c.self.view_is) c.boards.ensures.value c.clear.ensures.items c.in_ok-push_event.ensures c.as_slice-changes.ensures.value refl c.pass_event.ensures shows

pub returns-clause-shows : goal.returns-clause-shows
returns-clause-shows c = λ events shows.
    shows_drawn c.args.config.now events c.args.event.now c.args.self.now
    (record { diagram = c.self.inside.diagram; count = c.self.inside.count }) (record { diagram = c.print_event.new.self; count = c.self.inside.count + 1 })
    c.boards.result c.clear.new.self.items c.push_event.new.changes.items c.as_slice-changes.result.now
    (sym c.self.view_is) c.boards.ensures.value c.clear.ensures.items c.in_ok-push_event.ensures c.as_slice-changes.ensures.value refl c.in_ok-print_event.ensures shows
