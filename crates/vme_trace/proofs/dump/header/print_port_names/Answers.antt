use Rattle.std.specs.Prelude.{◌++◌, codes}
use Rattle.vme_trace.specs.declared.dump.variable.Variable.TheVariants.{PortSelect, PortWrite, PortOffset, PortDone, PortError}
use Rattle.vme_trace.specs.Headers.{port_names, variable_text}
use Rattle.vme_trace.proofs.Appends.{appended}
use Rattle.vme_trace.proofs.dump.header.print_port_names.Goals as goal

pub returns : goal.returns
unfolding port_names
returns c =
    let p1 = variable_text (codes "wire 1") (PortSelect c.args.board) c.args.slot (codes "lp_cs") in
    let p2 = variable_text (codes "wire 1") (PortWrite c.args.board) c.args.slot (codes "lp_we") in
    let p3 = variable_text (codes "wire 32") (PortOffset c.args.board) c.args.slot (codes "lp_a [31:0]") in
    let p4 = variable_text (codes "wire 1") (PortDone c.args.board) c.args.slot (codes "lp_ack") in
    let p5 = variable_text (codes "wire 1") (PortError c.args.board) c.args.slot (codes "lp_err") in
    appended c.print_variable-5.result c.args.text.now.items c.print_variable.new.text.items c.print_variable-5.new.text.items p1 (p2 ++ (p3 ++ (p4 ++ p5))) c.in_ok-print_variable.ensures
    (appended c.print_variable-5.result c.print_variable.new.text.items c.print_variable-2.new.text.items c.print_variable-5.new.text.items p2 (p3 ++ (p4 ++ p5)) c.in_ok-print_variable-2.ensures
    (appended c.print_variable-5.result c.print_variable-2.new.text.items c.print_variable-3.new.text.items c.print_variable-5.new.text.items p3 (p4 ++ p5) c.in_ok-print_variable-3.ensures
    (appended c.print_variable-5.result c.print_variable-3.new.text.items c.print_variable-4.new.text.items c.print_variable-5.new.text.items p4 p5 c.in_ok-print_variable-4.ensures
    c.print_variable-5.ensures)))
