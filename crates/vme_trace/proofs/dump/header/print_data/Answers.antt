use Rattle.std.specs.Prelude.{◌++◌, codes}
use Rattle.vme_trace.specs.declared.dump.variable.Variable.TheVariants.{DataLines}
use Rattle.vme_trace.specs.Headers.{data_text, part}
use Rattle.vme_trace.proofs.Appends.{appended}
use Rattle.vme_trace.proofs.dump.header.print_data.Goals as goal

pub returns : goal.returns
unfolding data_text
returns c =
    let p1 = part (codes "wire 8") DataLines 0 (codes "d31_24 [7:0]") in
    let p2 = part (codes "wire 8") DataLines 1 (codes "d23_16 [7:0]") in
    let p3 = part (codes "wire 8") DataLines 2 (codes "d15_08 [7:0]") in
    let p4 = part (codes "wire 8") DataLines 3 (codes "d07_00 [7:0]") in
    appended c.print_part-4.result c.args.text.now.items c.print_part.new.text.items c.print_part-4.new.text.items p1 (p2 ++ (p3 ++ p4)) c.in_ok-print_part.ensures
    (appended c.print_part-4.result c.print_part.new.text.items c.print_part-2.new.text.items c.print_part-4.new.text.items p2 (p3 ++ p4) c.in_ok-print_part-2.ensures
    (appended c.print_part-4.result c.print_part-2.new.text.items c.print_part-3.new.text.items c.print_part-4.new.text.items p3 p4 c.in_ok-print_part-3.ensures
    c.print_part-4.ensures))
