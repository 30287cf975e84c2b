use Rattle.std.specs.Prelude.{◌++◌, codes}
use Rattle.vme_trace.specs.declared.dump.variable.Variable.TheVariants.{GrantLines}
use Rattle.vme_trace.specs.Headers.{grant_names, slot_part}
use Rattle.vme_trace.proofs.Appends.{appended}
use Rattle.vme_trace.proofs.dump.header.print_grant_names.Goals as goal

pub returns : goal.returns
unfolding grant_names
returns c =
    let p1 = slot_part (codes "wire 1") (GrantLines c.args.board) 3 c.args.slot (codes "bg3in_n") in
    let p2 = slot_part (codes "wire 1") (GrantLines c.args.board) 2 c.args.slot (codes "bg2in_n") in
    let p3 = slot_part (codes "wire 1") (GrantLines c.args.board) 1 c.args.slot (codes "bg1in_n") in
    let p4 = slot_part (codes "wire 1") (GrantLines c.args.board) 0 c.args.slot (codes "bg0in_n") in
    appended c.print_slot_part-4.result c.args.text.now.items c.print_slot_part.new.text.items c.print_slot_part-4.new.text.items p1 (p2 ++ (p3 ++ p4)) c.in_ok-print_slot_part.ensures
    (appended c.print_slot_part-4.result c.print_slot_part.new.text.items c.print_slot_part-2.new.text.items c.print_slot_part-4.new.text.items p2 (p3 ++ p4) c.in_ok-print_slot_part-2.ensures
    (appended c.print_slot_part-4.result c.print_slot_part-2.new.text.items c.print_slot_part-3.new.text.items c.print_slot_part-4.new.text.items p3 p4 c.in_ok-print_slot_part-3.ensures
    c.print_slot_part-4.ensures))
