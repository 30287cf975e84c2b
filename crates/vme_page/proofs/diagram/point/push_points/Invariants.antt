use Rattle.std.proofs.Common.{◌≡◌, ◌++◌, drop}
use Rattle.std.specs.List.{flat_map}
use Rattle.vme_page.specs.Points.{point_in}
use Rattle.vme_page.proofs.diagram.point.push_points.Given as goal

-- the points so far, with those of the changes that are left, are all points
abbrev pub invariant-loop-change : goal.invariant-loop-change
invariant-loop-change l =
    l.points.items ++ flat_map (point_in l.window l.code) (drop l.change-index l.changes)
    ≡ l.fn.points.items ++ flat_map (point_in l.fn.window l.fn.code) l.fn.changes
