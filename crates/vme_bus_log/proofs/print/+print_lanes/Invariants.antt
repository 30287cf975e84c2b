use Rattle.vme_bus_log.proofs.print.+print_lanes.Given as goal

-- the lanes that are left
abbrev pub decreases-print_lanes : goal.decreases-print_lanes
decreases-print_lanes l = l.lanes
