use Rattle.std.proofs.Common.{◌≡◌}
use Rattle.vme_positions.specs.Lines.{line_feeds_before}
use Rattle.vme_positions.proofs.cursor.Cursor.move_to.Given as goal

abbrev pub invariant-bytes : goal.invariant-bytes
invariant-bytes l = l.line_ends ≡ line_feeds_before l.at l.text
