use Rattle.std.specs.Prelude.{◌++◌, codes}
use Rattle.vme_trace.specs.declared.dump.variable.Variable.TheVariants.{UpperDataLines}
use Rattle.vme_trace.specs.Headers.{upper_data_text, part}
use Rattle.vme_trace.proofs.Appends.{appended}
use Rattle.vme_trace.proofs.dump.header.print_upper_data.Goals as goal

pub returns : goal.returns
unfolding upper_data_text
returns c =
    let p1 = part (codes "wire 8") UpperDataLines 0 (codes "dh63_56 [7:0]") in
    let p2 = part (codes "wire 8") UpperDataLines 1 (codes "dh55_48 [7:0]") in
    let p3 = part (codes "wire 8") UpperDataLines 2 (codes "dh47_40 [7:0]") in
    let p4 = part (codes "wire 8") UpperDataLines 3 (codes "dh39_32 [7:0]") in
    appended c.print_part-4.result c.args.text.now.items c.print_part.new.text.items c.print_part-4.new.text.items p1 (p2 ++ (p3 ++ p4)) c.in_ok-print_part.ensures
    (appended c.print_part-4.result c.print_part.new.text.items c.print_part-2.new.text.items c.print_part-4.new.text.items p2 (p3 ++ p4) c.in_ok-print_part-2.ensures
    (appended c.print_part-4.result c.print_part-2.new.text.items c.print_part-3.new.text.items c.print_part-4.new.text.items p3 p4 c.in_ok-print_part-3.ensures
    c.print_part-4.ensures))
