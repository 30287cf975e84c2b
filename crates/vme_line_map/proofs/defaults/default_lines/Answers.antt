-- The variables of one more slot.
use Rattle.std.proofs.Common.{◌∙◌, ap, get_or, arith}
use Rattle.vme_line_map.specs.Defaults.{bus_variables, slot_variables, with_fitting}
use Rattle.vme_line_map.proofs.Fitting.{no_variables, one_more}
use Rattle.vme_line_map.proofs.defaults.default_lines.Goals as goal

pub loop-slot-preserved : goal.loop-slot-preserved
loop-slot-preserved c =
    c.in_ok-add_slot.ensures ∙ ap (λ map. with_fitting map (slot_variables (get_or c.args.slots.now c.loop-slot.slot-index 0))) c.loop-slot.invariant
    ∙ one_more slot_variables no_variables bus_variables c.args.slots.now c.loop-slot.slot-index (omega arith)
