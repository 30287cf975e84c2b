use Rattle.std.specs.Prelude.{◌++◌, codes}
use Rattle.vme_trace.specs.declared.dump.variable.Variable.TheVariants.{PortData}
use Rattle.vme_trace.specs.Headers.{port_data_names, slot_part}
use Rattle.vme_trace.proofs.Appends.{appended}
use Rattle.vme_trace.proofs.dump.header.print_port_data_names.Goals as goal

pub returns : goal.returns
unfolding port_data_names
returns c =
    let p1 = slot_part (codes "wire 8") (PortData c.args.board) 0 c.args.slot (codes "lp_d31_24 [7:0]") in
    let p2 = slot_part (codes "wire 8") (PortData c.args.board) 1 c.args.slot (codes "lp_d23_16 [7:0]") in
    let p3 = slot_part (codes "wire 8") (PortData c.args.board) 2 c.args.slot (codes "lp_d15_08 [7:0]") in
    let p4 = slot_part (codes "wire 8") (PortData c.args.board) 3 c.args.slot (codes "lp_d07_00 [7:0]") in
    appended c.print_slot_part-4.result c.args.text.now.items c.print_slot_part.new.text.items c.print_slot_part-4.new.text.items p1 (p2 ++ (p3 ++ p4)) c.in_ok-print_slot_part.ensures
    (appended c.print_slot_part-4.result c.print_slot_part.new.text.items c.print_slot_part-2.new.text.items c.print_slot_part-4.new.text.items p2 (p3 ++ p4) c.in_ok-print_slot_part-2.ensures
    (appended c.print_slot_part-4.result c.print_slot_part-2.new.text.items c.print_slot_part-3.new.text.items c.print_slot_part-4.new.text.items p3 p4 c.in_ok-print_slot_part-3.ensures
    c.print_slot_part-4.ensures))
