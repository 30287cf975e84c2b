use Rattle.std.specs.Prelude.{◌++◌, codes}
use Rattle.vme_grammar.specs.Texts.{output_line}
use Rattle.vme_trace.specs.Headers.{start_text, arbitration_text, address_text, strobe_text, data_text, upper_data_text, bus_scope_text}
use Rattle.vme_trace.proofs.Appends.{appended, extended}
use Rattle.vme_trace.proofs.dump.header.print_bus_scope.Goals as goal

pub returns : goal.returns
unfolding bus_scope_text
returns c =
    let p1 = start_text in
    let p2 = arbitration_text in
    let p3 = address_text in
    let p4 = strobe_text in
    let p5 = data_text in
    let p6 = upper_data_text in
    let p7 = output_line (codes "$upscope $end") in
    appended c.extend_from_slice.result c.args.text.now.items c.print_start.new.text.items c.extend_from_slice.new.self.items p1 (p2 ++ (p3 ++ (p4 ++ (p5 ++ (p6 ++ p7))))) c.in_ok-print_start.ensures
    (appended c.extend_from_slice.result c.print_start.new.text.items c.print_arbitration.new.text.items c.extend_from_slice.new.self.items p2 (p3 ++ (p4 ++ (p5 ++ (p6 ++ p7)))) c.in_ok-print_arbitration.ensures
    (appended c.extend_from_slice.result c.print_arbitration.new.text.items c.print_address.new.text.items c.extend_from_slice.new.self.items p3 (p4 ++ (p5 ++ (p6 ++ p7))) c.in_ok-print_address.ensures
    (appended c.extend_from_slice.result c.print_address.new.text.items c.print_strobes.new.text.items c.extend_from_slice.new.self.items p4 (p5 ++ (p6 ++ p7)) c.in_ok-print_strobes.ensures
    (appended c.extend_from_slice.result c.print_strobes.new.text.items c.print_data.new.text.items c.extend_from_slice.new.self.items p5 (p6 ++ p7) c.in_ok-print_data.ensures
    (appended c.extend_from_slice.result c.print_data.new.text.items c.print_upper_data.new.text.items c.extend_from_slice.new.self.items p6 p7 c.in_ok-print_upper_data.ensures
    (extended c.extend_from_slice.result c.print_upper_data.new.text.items c.extend_from_slice.new.self.items p7 c.extend_from_slice.ensures.items))))))
