use Rattle.std.specs.Prelude.{◌++◌, codes}
use Rattle.vme_grammar.specs.Texts.{output_line}
use Rattle.vme_trace.specs.Headers.{scope_text, scope_name, master_names, grant_names, port_names, port_data_names}
use Rattle.vme_trace.proofs.Appends.{appended, extended}
use Rattle.vme_trace.proofs.dump.header.print_scope.Goals as goal

pub returns : goal.returns
unfolding scope_text
returns c =
    let p1 = scope_name c.args.slot in
    let p2 = master_names c.args.board c.args.slot in
    let p3 = grant_names c.args.board c.args.slot in
    let p4 = port_names c.args.board c.args.slot in
    let p5 = port_data_names c.args.board c.args.slot in
    let p6 = output_line (codes "$upscope $end") in
    appended c.extend_from_slice.result c.args.text.now.items c.print_scope_name.new.text.items c.extend_from_slice.new.self.items p1 (p2 ++ (p3 ++ (p4 ++ (p5 ++ p6)))) c.in_ok-print_scope_name.ensures
    (appended c.extend_from_slice.result c.print_scope_name.new.text.items c.print_master_names.new.text.items c.extend_from_slice.new.self.items p2 (p3 ++ (p4 ++ (p5 ++ p6))) c.in_ok-print_master_names.ensures
    (appended c.extend_from_slice.result c.print_master_names.new.text.items c.print_grant_names.new.text.items c.extend_from_slice.new.self.items p3 (p4 ++ (p5 ++ p6)) c.in_ok-print_grant_names.ensures
    (appended c.extend_from_slice.result c.print_grant_names.new.text.items c.print_port_names.new.text.items c.extend_from_slice.new.self.items p4 (p5 ++ p6) c.in_ok-print_port_names.ensures
    (appended c.extend_from_slice.result c.print_port_names.new.text.items c.print_port_data_names.new.text.items c.extend_from_slice.new.self.items p5 p6 c.in_ok-print_port_data_names.ensures
    (extended c.extend_from_slice.result c.print_port_data_names.new.text.items c.extend_from_slice.new.self.items p6 c.extend_from_slice.ensures.items)))))
