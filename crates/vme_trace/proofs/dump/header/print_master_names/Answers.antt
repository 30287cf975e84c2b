use Rattle.std.specs.Prelude.{◌++◌, codes}
use Rattle.vme_trace.specs.declared.dump.variable.Variable.TheVariants.{CurrentLine, RequestLine, BusyLine, Selected}
use Rattle.vme_trace.specs.Headers.{master_names, variable_text}
use Rattle.vme_trace.proofs.Appends.{appended}
use Rattle.vme_trace.proofs.dump.header.print_master_names.Goals as goal

pub returns : goal.returns
unfolding master_names
returns c =
    let p1 = variable_text (codes "integer 32") (CurrentLine c.args.board) c.args.slot (codes "line") in
    let p2 = variable_text (codes "wire 1") (RequestLine c.args.board) c.args.slot (codes "br_n") in
    let p3 = variable_text (codes "wire 1") (BusyLine c.args.board) c.args.slot (codes "bbsy_n") in
    let p4 = variable_text (codes "wire 1") (Selected c.args.board) c.args.slot (codes "sel") in
    appended c.print_variable-4.result c.args.text.now.items c.print_variable.new.text.items c.print_variable-4.new.text.items p1 (p2 ++ (p3 ++ p4)) c.in_ok-print_variable.ensures
    (appended c.print_variable-4.result c.print_variable.new.text.items c.print_variable-2.new.text.items c.print_variable-4.new.text.items p2 (p3 ++ p4) c.in_ok-print_variable-2.ensures
    (appended c.print_variable-4.result c.print_variable-2.new.text.items c.print_variable-3.new.text.items c.print_variable-4.new.text.items p3 p4 c.in_ok-print_variable-3.ensures
    c.print_variable-4.ensures))
